-- The tests of keys and texts decide what the store calls keys and texts.
use Rattle.std.proofs.Common.{◌≡◌, ℕ, ◌≤◌, nat_le, Bool, true, false, cond, List, length, None, Some, refl, ap, ◌↔◌, arith}
use Rattle.std.proofs.lemmas.Bool.Decides.{Decides-and, Decides-by_and, same_from_decides, nat_tests}
use Rattle.std.specs.Bool.{Decides}
use Rattle.std.specs.List.{list_all}
use Rattle.std.specs.Option.{is_some, IsSome, IfSome}
use Rattle.std.specs.declared.option.Option.{Option}
use Rattle.kv_store.specs.Words.{IsVisible, IsWord}
use Rattle.kv_store.specs.declared.TheConstants.{FIRST_BYTE, LAST_BYTE}
use Rattle.mu_input.specs.Fields.{is_visible, is_word}

Decides-leb : (a b : ℕ) → Decides (nat_le a b) (a ≤ b)
Decides-leb a b = (λ passes. grind (arith, nat_tests), λ below. grind (arith, nat_tests))

is_visible-Decides : (byte : ℕ) → Decides (is_visible byte) (IsVisible byte)
is_visible-Decides byte = Decides-and _ _ (Decides-leb FIRST_BYTE byte) (Decides-leb byte LAST_BYTE)

-- the test of a word tells a word
pub is_word-Decides : (most : ℕ) (bytes : List ℕ) → Decides (is_word most bytes) (IsWord most bytes)
is_word-Decides most bytes =
    let both = Decides-and _ _ (Decides-and _ _ (Decides-leb 1 (length bytes)) (Decides-leb (length bytes) most)) (Decides-by_and is_visible IsVisible (list_all is_visible) is_visible-Decides refl (λ _ _. refl) bytes) in
    (λ passes. record { some = (both.0 passes).0.0; fits = (both.0 passes).0.1; visible = (both.0 passes).1 }, λ word. both.1 ((word.some, word.fits), word.visible))

chosen : (passes : Bool) (bytes : List ℕ) (made : Option (List ℕ)) → is_some made ≡ passes → IfSome made (λ word. word ≡ bytes) → made ≡ cond passes (Some bytes) None
chosen true bytes None is same = cc
chosen false bytes None is same = refl
chosen true bytes (Some word) is same = ap Some same
chosen false bytes (Some word) is same = cc

-- what makes a word of bytes exactly if they are one makes it if the test passes
pub word-made : (most : ℕ) (bytes : List ℕ) (made : Option (List ℕ)) → IsSome made ↔ IsWord most bytes → IfSome made (λ word. word ≡ bytes) → made ≡ cond (is_word most bytes) (Some bytes) None
word-made most bytes made iff same = chosen (is_word most bytes) bytes made (same_from_decides (is_some made) (is_word most bytes) iff (is_word-Decides most bytes)) same
