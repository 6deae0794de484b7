-- Asks and rounds of fences.
use Rattle.std.proofs.Common.{List, Some, ap, arith, false, inl, inr, is_some, refl, subst, sym, true, true≢false, ℕ, ◌+◌, ◌<◌, ◌==◌, ◌∙◌, ◌∷◌, ◌≡◌, ◌≢◌}
use Rattle.std.proofs.lemmas.Bool.{cases_eq, ne_eqb}
use Rattle.mu_model.specs.declared.config.Config.{Config}
use Rattle.mu_model.specs.declared.event.Answer.{Answer}
use Rattle.mu_model.specs.declared.event.Event.{Event}
use Rattle.mu_model.specs.declared.event.Fence.{Fence}
use Rattle.mu_model.specs.declared.event.Verb.{Verb}
use Rattle.mu_model.specs.Leaderships.{begins_leadership, grant_at_joining, is_over, noted_grant}
use Rattle.mu_model.proofs.Basics.{same_number}
use Rattle.mu_model.specs.Histories.{event_by}
use Rattle.mu_lead.specs.Confirming.{AtAsk, AtConfirm, AtReadMin, Confirmed, Fresh}
use Rattle.mu_knowledge.specs.Offers.{IsFirst}
use Rattle.mu_lead.proofs.Lates.{is_quiet}

-- an `Ask(0)` begins a leadership
pub begins_now : (r : ℕ) (answer : Answer) → begins_leadership r (event_by r (Verb.Ask 0) answer) ≡ true
begins_now r answer = rw (same_number r) refl

-- another `Ask` begins none
pub begins_not : (r p : ℕ) (answer : Answer) → p ≢ 0 → begins_leadership r (event_by r (Verb.Ask p) answer) ≡ false
begins_not r p answer other = rw (same_number r, ne_eqb p 0 other) refl

pub fresh_begun : (r : ℕ) (answer : Answer) (mine : List Event) → Fresh r (event_by r (Verb.Ask 0) answer ∷ mine)
fresh_begun r answer mine = record {
  begun = rw (same_number r) refl;
  goes_on = rw (same_number r) refl;
  unnumbered = rw (same_number r) refl;
  alone = λ p. rw (same_number r) refl;
  unput = λ i. rw (same_number r) refl;
}

pub fresh_asked : (r p : ℕ) (answer : Answer) (mine : List Event) → p ≢ 0 → Fresh r mine → Fresh r (event_by r (Verb.Ask p) answer ∷ mine)
fresh_asked r p answer mine other f =
    let not_first = ne_eqb p 0 other in
    record {
      begun = rw (same_number r, not_first) f.begun;
      goes_on = rw (same_number r, not_first) f.goes_on;
      unnumbered = rw (same_number r, not_first) f.unnumbered;
      alone = λ q. rw (same_number r, not_first) (f.alone q);
      unput = λ i. rw (same_number r, not_first) (f.unput i);
    }

-- a leadership has begun after each `Ask` of the listing
pub fresh_after : (c : Config) (r p : ℕ) (answer : Answer) (mine : List Event) → AtAsk c r mine p → Fresh r (event_by r (Verb.Ask p) answer ∷ mine)
fresh_after c r p answer mine at = elim (cases_eq p 0) [
  | inl first ↦ subst (λ q. Fresh r (event_by r (Verb.Ask q) answer ∷ mine)) (sym first) (fresh_begun r answer mine)
  | inr other ↦ elim at.asked [
    | inl first ↦ absurd (other first)
    | inr asked ↦ fresh_asked r p answer mine other asked.1
  ]
]

-- the next region is asked
pub asked_on : (c : Config) (r p q : ℕ) (answer : Answer) (mine : List Event) → AtAsk c r mine p → q ≡ p + 1 → q < c.replicas → AtAsk c r (event_by r (Verb.Ask p) answer ∷ mine) q
asked_on c r p q answer mine at next low = record {
  region = low;
  asked = inr (rw (same_number r) (ap Some (omega (arith, next))), fresh_after c r p answer mine at);
}

-- all regions are asked
pub asked_all : (c : Config) (r p : ℕ) (answer : Answer) (mine : List Event) → AtAsk c r mine p → AtConfirm c r (event_by r (Verb.Ask p) answer ∷ mine) 0
asked_all c r p answer mine at = record { region = (let low = at.region in omega (arith, low)); fresh = fresh_after c r p answer mine at }

-- a fence that is read leaves a leadership fresh
pub fresh_fenced : (r p : ℕ) (f : Fence) (mine : List Event) → Fresh r mine → Fresh r (event_by r (Verb.Fence p) (Answer.Seen f) ∷ mine)
fresh_fenced r p f mine h = record {
  begun = h.begun;
  goes_on = is_quiet (grant_at_joining r p mine) f (r == r) (is_over r mine) (h.alone p) h.goes_on;
  unnumbered = h.unnumbered;
  alone = h.alone;
  unput = h.unput;
}

-- the first noted region is the first whose minimum is read
pub first_to_read : (c : Config) (r q : ℕ) (mine : List Event) → Fresh r mine → Confirmed c r mine → IsFirst (λ p. is_some (noted_grant r p mine)) 0 c.replicas (Some q) → AtReadMin c r mine q
first_to_read c r q mine fresh confirmed first = record {
  region = first.1;
  granted = first.2;
  telling = record {
    fresh = fresh;
    confirmed = confirmed;
    told = λ k low noted. absurd (true≢false (sym noted ∙ first.3 k (omega arith) low));
    low = λ k low noted. absurd (true≢false (sym noted ∙ first.3 k (omega arith) low));
  };
}
