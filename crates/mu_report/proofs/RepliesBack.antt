-- What is printed of a reply is read back as that reply.
use Rattle.std.proofs.Common.{◌≡◌, ℕ, ◌≤◌, nat_le, true, List, [], ◌∷◌, ◌++◌, length, codes, Some, refl, ap, ◌∙◌, arith}
use Rattle.std.proofs.lemmas.Bool.Decides.{Decides-and, Decides-by_and, nat_tests}
use Rattle.std.specs.Bool.{Decides}
use Rattle.std.specs.List.{All, list_all}
use Rattle.std.specs.Option.{option_map}
use Rattle.kv_store.specs.Words.{IsText, IsVisible}
use Rattle.kv_store.specs.declared.TheConstants.{FIRST_BYTE, LAST_BYTE, TEXT_BYTES}
use Rattle.kv_store.specs.declared.store.Reply.{Reply}
use Rattle.kv_store.specs.declared.store.Reply.TheVariants as reply
use Rattle.mu_clients.specs.Items.{reply_of, text_of}
use Rattle.mu_input.specs.Fields.{is_text, is_visible}
use Rattle.mu_text.specs.Lines.{words}
use Rattle.mu_text.specs.declared.TheConstants.{SPACE}
use Rattle.mu_text.proofs.SpelledWords.{IsOneWord, Spells-then, Spells-word, written}
use Rattle.mu_report.specs.Words.{HasText, ReadsReplies, reply_words}

leb : (a b : ℕ) → Decides (nat_le a b) (a ≤ b)
leb a b = (λ passes. grind (arith, nat_tests), λ below. grind (arith, nat_tests))

visible : (byte : ℕ) → Decides (is_visible byte) (IsVisible byte)
visible byte = Decides-and _ _ (leb FIRST_BYTE byte) (leb byte LAST_BYTE)

-- what is a text passes the test of texts
passes : (text : List ℕ) → IsText text → is_text text ≡ true
passes text is =
    (Decides-and _ _ (Decides-and _ _ (leb 1 (length text)) (leb (length text) TEXT_BYTES))
    (Decides-by_and is_visible IsVisible (list_all is_visible) visible refl (λ _ _. refl) text)).1 ((is.some, is.fits), is.visible)

is_one : (text : List ℕ) → IsText text → IsOneWord text
is_one text is k d below = let bounds = is.visible k d below in omega (arith, bounds)

text-back : (text : List ℕ) → IsText text → text_of text ≡ Some text
text-back text is = rw (passes text is) refl

-- a name and a text behind it
two : (name text : List ℕ) → IsOneWord name → IsText text → words (name ++ SPACE ∷ text) ≡ name ∷ text ∷ []
two name text one is = (Spells-then name text (text ∷ []) one (Spells-word text (is_one text is))).alone

pub replies-back : ReadsReplies
replies-back reply.Done has = ap reply_of (Spells-word (codes "done") (written (codes "done") refl)).alone
replies-back (reply.Value text) has =
    ap reply_of (two (codes "value") text (written (codes "value") refl) has) ∙ ap (option_map reply.Value) (text-back text has)
replies-back reply.None has = ap reply_of (Spells-word (codes "none") (written (codes "none") refl)).alone
replies-back (reply.Kept text) has =
    ap reply_of (two (codes "kept") text (written (codes "kept") refl) has) ∙ ap (option_map reply.Kept) (text-back text has)
