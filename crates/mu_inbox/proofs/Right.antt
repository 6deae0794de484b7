-- No place holds a word that a value refuses, if each row that is put is one that there may be.
use Rattle.std.proofs.Common.{◌≡◌, ◌⊎◌, ℕ, ◌<◌, ◌==◌, ◌&&◌, ◌||◌, Bool, true, not, List, [], ◌∷◌, None, Some, inl, inr, refl, sym, ap, subst, ◌∙◌, eqb-true, true≢false}
use Rattle.std.specs.Prelude.{nat_lt}
use Rattle.std.specs.declared.option.Option.{Option}
use Rattle.std.proofs.lemmas.Bool.{and_from, and_parts, cases_eq, lt-ltb, or_right}
use Rattle.mu_inbox.specs.declared.access.Shape.{Shape}
use Rattle.mu_inbox.specs.declared.access.Verb.{Verb}
use Rattle.mu_inbox.specs.declared.inbox.Inbox.{Inbox}
use Rattle.mu_inbox.specs.declared.inbox.Offer.{Offer}
use Rattle.mu_inbox.specs.Entries.{place_word}
use Rattle.mu_inbox.specs.Memory.{AreAnswered, Made, is_reference, puts_at, reference, row_in, writer_in}
use Rattle.mu_inbox.specs.Running.{AllPutIn, PutsIn, WordsMayStand}
use Rattle.mu_inbox.specs.Standing.{Fits, IsWritten, StandsForInbox, StandsForOffer, is_row_of}
use Rattle.mu_inbox.proofs.Growing.{due_is}
use Rattle.mu_inbox.proofs.Places.{ClosedHere, PutHere, fills, place_kept}
use Rattle.mu_inbox.proofs.Rows.{is_row, row_of, writer_of}

-- the word may stand at a place
abbrev is_right : Shape → ℕ → Bool
is_right s word = (word == 0) || ((word == 1) || is_row_of s word)

row_right : (s : Shape) (r j : ℕ) → r < 256 → r < s.writers → j < s.room → is_right s (reference r j) ≡ true
row_right s r j few writer row =
    or_right (reference r j == 0) ((reference r j == 1) || is_row_of s (reference r j))
    (or_right (reference r j == 1) (is_row_of s (reference r j))
    (and_from (is_reference (reference r j)) (nat_lt (writer_in (reference r j)) s.writers && nat_lt (row_in (reference r j)) s.room) (is_row r j)
    (and_from (nat_lt (writer_in (reference r j)) s.writers) (nat_lt (row_in (reference r j)) s.room)
    (ap (λ (n : ℕ). nat_lt n s.writers) (writer_of r j few) ∙ lt-ltb r s.writers writer)
    (ap (λ (n : ℕ). nat_lt n s.room) (row_of r j few) ∙ lt-ltb j s.room row))))

put_in : (s : Shape) (r : ℕ) (v : Verb) (p j : ℕ) → puts_at p j v ≡ true → PutsIn s r v → (r < s.writers) × (j < s.room)
put_in s r (Verb.Put q i) p j is puts = (puts.0, subst (λ (n : ℕ). n < s.room) (sym (eqb-true j i (and_parts (p == q) (j == i) is).1)) puts.1)
put_in s r (Verb.Look q) p j is puts = absurd (true≢false (sym is))
put_in s r (Verb.Write i k x) p j is puts = absurd (true≢false (sym is))
put_in s r (Verb.Close q) p j is puts = absurd (true≢false (sym is))
put_in s r (Verb.Read w i k) p j is puts = absurd (true≢false (sym is))

stands_right : (s : Shape) (made : List Made) → AreAnswered made → AllPutIn s made → (p : ℕ) → is_right s (place_word made p) ≡ true
stands_right s [] answered puts p = refl
stands_right s (m ∷ past) answered puts p = either (stands_right s past answered.0 puts.0 p) (cases_eq (place_word past p) 0) (cases_eq (place_word (m ∷ past) p) 0)
  where
    filled : PutHere past m p ⊎ ClosedHere past m p → is_right s (place_word (m ∷ past) p) ≡ true
    filled (inl put) =
        let inside = put_in s m.by m.verb p put.row (and_parts (puts_at p put.row m.verb) (m.word == 0) put.taken).0 puts.1 in
        ap (is_right s) put.now ∙ row_right s m.by put.row put.may.writer inside.0 inside.1
    filled (inr closed) = ap (is_right s) closed.now

    either : is_right s (place_word past p) ≡ true → (place_word past p ≡ 0) ⊎ (place_word past p ≡ 0 → ⊥) → (place_word (m ∷ past) p ≡ 0) ⊎ (place_word (m ∷ past) p ≡ 0 → ⊥) → is_right s (place_word (m ∷ past) p) ≡ true
    either ih (inr full) now = ap (is_right s) (place_kept past m p full) ∙ ih
    either ih (inl free) (inl none) = ap (is_right s) none
    either ih (inl free) (inr now) = filled (fills past m p answered.1 free now)

offer_in : (s : Shape) (j : ℕ) (own : List Made) (x : Option Offer) → IsWritten x → StandsForOffer s j own x → j < s.room
offer_in s j own None all is = absurd all
offer_in s j own (Some x) all is = is.inside

puts_by : (own : List Made) (x : Inbox) (verb : Verb) → StandsForInbox own x → Fits x verb → PutsIn x.shape x.id verb
puts_by own x (Verb.Put p j) stands fits = (stands.writer, subst (λ (n : ℕ). n < x.shape.room) (sym fits.3) (offer_in x.shape x.taken own x.offer fits.4 stands.offer))
puts_by own x (Verb.Look p) stands fits = tt
puts_by own x (Verb.Write j k y) stands fits = tt
puts_by own x (Verb.Close p) stands fits = tt
puts_by own x (Verb.Read w j k) stands fits = tt

pub right_law : WordsMayStand
right_law = record {
  stand = λ s made p answered puts. ap not (stands_right s made answered puts p);
  puts = λ own x verb stands due. puts_by own x verb stands (due_is own x verb stands due).fits;
}
