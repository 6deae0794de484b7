-- A word is a text exactly if the test of texts passes.
use Rattle.std.proofs.Common.{◌≡◌, ℕ, ◌≤◌, nat_le, Bool, true, false, cond, List, length, None, Some, refl, ap, ◌↔◌, arith}
use Rattle.std.proofs.lemmas.Bool.Decides.{Decides-and, Decides-by_and, same_from_decides, nat_tests}
use Rattle.std.specs.Bool.{Decides}
use Rattle.std.specs.List.{list_all}
use Rattle.std.specs.Option.{is_some, IsSome, IfSome}
use Rattle.std.specs.declared.option.Option.{Option}
use Rattle.kv_store.specs.Words.{IsText, IsVisible, IsWord}
use Rattle.kv_store.specs.declared.TheConstants.{FIRST_BYTE, LAST_BYTE, TEXT_BYTES}
use Rattle.mu_input.specs.Fields.{is_text, is_visible, is_word}

Decides-leb : (a b : ℕ) → Decides (nat_le a b) (a ≤ b)
Decides-leb a b = (λ passes. grind (arith, nat_tests), λ below. grind (arith, nat_tests))

is_visible-Decides : (byte : ℕ) → Decides (is_visible byte) (IsVisible byte)
is_visible-Decides byte = Decides-and _ _ (Decides-leb FIRST_BYTE byte) (Decides-leb byte LAST_BYTE)

is_word-Decides : (most : ℕ) (bytes : List ℕ) → Decides (is_word most bytes) (IsWord most bytes)
is_word-Decides most bytes =
    let both = Decides-and _ _ (Decides-and _ _ (Decides-leb 1 (length bytes)) (Decides-leb (length bytes) most)) (Decides-by_and is_visible IsVisible (list_all is_visible) is_visible-Decides refl (λ _ _. refl) bytes) in
    (λ passes. record { some = (both.0 passes).0.0; fits = (both.0 passes).0.1; visible = (both.0 passes).1 }, λ word. both.1 ((word.some, word.fits), word.visible))

chosen : (passes : Bool) (bytes : List ℕ) (made : Option (List ℕ)) → is_some made ≡ passes → IfSome made (λ word. word ≡ bytes) → made ≡ cond passes (Some bytes) None
chosen true bytes None is same = cc
chosen false bytes None is same = refl
chosen true bytes (Some word) is same = ap Some same
chosen false bytes (Some word) is same = cc

-- what makes a text of bytes exactly if they are one makes it if the test passes
pub text_made : (bytes : List ℕ) (made : Option (List ℕ)) → IsSome made ↔ IsText bytes → IfSome made (λ word. word ≡ bytes) → made ≡ cond (is_text bytes) (Some bytes) None
text_made bytes made iff same = chosen (is_text bytes) bytes made (same_from_decides (is_some made) (is_text bytes) iff (is_word-Decides TEXT_BYTES bytes)) same
