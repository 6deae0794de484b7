-- Growing: what holds of a process's accesses with one more.
use Rattle.std.proofs.Common.{◌≡◌, ℕ, ◌==◌, ◌&&◌, Bool, true, false, cond, List, ◌∷◌, None, Some, ap, subst, ◌∙◌}
use Rattle.std.specs.declared.option.Option.{Option}
use Rattle.std.proofs.lemmas.Bool.{or_from, or_right}
use Rattle.mu_inbox.specs.declared.access.Shape.{Shape}
use Rattle.mu_inbox.specs.declared.access.Verb.{Verb}
use Rattle.mu_inbox.specs.declared.inbox.Inbox.{Inbox}
use Rattle.mu_inbox.specs.declared.inbox.Offer.{Offer}
use Rattle.mu_inbox.specs.Entries.{read_at, reads}
use Rattle.mu_inbox.specs.Memory.{Made, has_found, has_put, is_about, puts, written, written_by}
use Rattle.mu_inbox.specs.Standing.{IsDue, StandsForDue, StandsForInbox, StandsForOffer}

pub found_grows : (m : Made) (own : List Made) (p : ℕ) (test : ℕ → Bool) → has_found p test own ≡ true → has_found p test (m ∷ own) ≡ true
found_grows m own p test is = or_right (is_about p m.verb && test m.word) (has_found p test own) is

-- what is read stays read, unless it is read again
pub read_grows : (m : Made) (own : List Made) (p word k x : ℕ) → reads word k m.verb ≡ false → read_at p word k own ≡ Some x → read_at p word k (m ∷ own) ≡ Some x
read_grows m own p word k x none is =
    ap (λ (b : Bool). cond (b && has_found p (λ n. n == word) own) (Some m.word) (read_at p word k own)) none ∙ is

-- of an access that puts and writes nothing
pub put_same : (m : Made) (own : List Made) (j : ℕ) → puts j m.verb ≡ false → has_put j own ≡ false → has_put j (m ∷ own) ≡ false
put_same m own j none is = or_from (puts j m.verb) (has_put j own) none is

pub offer_same : (s : Shape) (j : ℕ) (m : Made) (own : List Made) (x : Option Offer) → ((i : ℕ) → puts i m.verb ≡ false) → ((i k w : ℕ) → written_by i k m.verb w ≡ w) → StandsForOffer s j own x → StandsForOffer s j (m ∷ own) x
offer_same s j m own None none same is = put_same m own j (none j) is
offer_same s j m own (Some x) none same is = record {
  few = is.few;
  words = λ k less. same j k (written j k own) ∙ is.words k less;
  fresh = λ less. put_same m own j (none j) (is.fresh less);
  inside = is.inside;
}

-- the access under way
pub due_is : (own : List Made) (x : Inbox) (verb : Verb) → StandsForInbox own x → x.due ≡ Some verb → IsDue own x verb
due_is own x verb stands due = subst (λ (o : Option Verb). StandsForDue own x o) due stands.due
