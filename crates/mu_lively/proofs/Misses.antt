-- The count of steps after a put that missed, step by step.
use Rattle.std.proofs.Common.{◌≡◌, ℕ, ◌⊎◌, inl, inr, Bool, true, false, ◌==◌, List, ◌∷◌, None, refl, sym, ◌∙◌, subst, arith, true≢false}
use Rattle.std.proofs.lemmas.Bool.{cases_eq, ne_eqb}
use Rattle.mu_model.specs.declared.config.Config.{Config}
use Rattle.mu_model.specs.declared.event.Answer.{Answer}
use Rattle.mu_model.specs.declared.event.Event.{Event}
use Rattle.mu_model.specs.declared.event.Verb.{Verb}
use Rattle.mu_model.specs.Steps.{is_missed_at, is_missed_at_verb}
use Rattle.mu_model.specs.Stretches.{is_replication}
use Rattle.mu_model.proofs.Basics.{same_number}
use Rattle.mu_model.specs.Histories.{event_by}
use Rattle.mu_pace.specs.Counters.{IsInTime, steps_left}
use Rattle.mu_pace.specs.Watches.{explaining}
use Rattle.mu_pace.proofs.Beside.{unallowed}
use Rattle.mu_pace.proofs.Countdowns.{countdowns_run}
use Rattle.mu_pace.proofs.Rooms.{kinds_of_step}
use Rattle.mu_lead.specs.declared.place.Place.{Place}
use Rattle.mu_lead.specs.Beside.{is_beside}
use Rattle.mu_lively.specs.Evidence.{ExplainsAt, IsExplained, WaitsForFence}

pub explained_anywhere : (c : Config) (r : ℕ) (mine : List Event) (place : Place) → IsExplained c r mine → ExplainsAt c r mine place
explained_anywhere c r mine (Place.Evidence p) at = record { here = kinds_of_step.closed (explaining c r p) 1 mine (at p); others = λ q other. at q }
explained_anywhere c r mine place at = at

unopened : (c : Config) (r q : ℕ) (mine : List Event) (e : Event) → is_missed_at q e ≡ false → (explaining c r q).allows (e ∷ mine) ≡ None
unopened c r q mine e none = unallowed (λ past f. is_missed_at q f) (λ now. 1) mine e none

-- a step that doesn't miss
pub explained_on : (c : Config) (r : ℕ) (mine : List Event) (e : Event) → ((q : ℕ) → is_missed_at q e ≡ false) → IsExplained c r mine → IsExplained c r (e ∷ mine)
explained_on c r mine e none at q = countdowns_run.explains.quiet c r q mine e (none q) (at q)

-- one that misses waits for its fence
pub waits_now : (c : Config) (r p : ℕ) (mine : List Event) (e : Event) → ((q : ℕ) → is_missed_at q e ≡ (p == q)) → IsExplained c r mine → WaitsForFence c r (e ∷ mine) p
waits_now c r p mine e missed at = record {
  here = countdowns_run.explains.miss c r p mine e (missed p ∙ same_number p) (at p);
  others = λ q other. countdowns_run.explains.quiet c r q mine e (missed q ∙ ne_eqb p q (λ same. other (sym same))) (at q);
}

-- which is read next
pub fenced_now : (c : Config) (r p : ℕ) (a : Answer) (mine : List Event) → is_replication mine (event_by r (Verb.Fence p) a) ≡ true → WaitsForFence c r mine p → IsExplained c r (event_by r (Verb.Fence p) a ∷ mine)
fenced_now c r p a mine turn at q = elim (cases_eq q p) [
  | inl same ↦ subst (λ x. steps_left (explaining c r x) (event_by r (Verb.Fence p) a ∷ mine) ≡ None) (sym same) (countdowns_run.explains.fence c r p mine (event_by r (Verb.Fence p) a) turn (same_number p) refl)
  | inr other ↦ countdowns_run.explains.quiet c r q mine (event_by r (Verb.Fence p) a) refl (at.others q other)
]

pub landed_min : (b p : ℕ) (answer : Answer) → (answer ≡ Answer.Missed) ⊎ ((q : ℕ) → is_missed_at_verb q (Verb.PutMin p b) answer ≡ false)
landed_min b p Answer.Missed = inl refl
landed_min b p answer = inr (λ q. refl)

pub landed_slot : (p : ℕ) (answer : Answer) → (answer ≡ Answer.Missed) ⊎ ((i b v q : ℕ) → is_missed_at_verb q (Verb.PutSlot p i b v) answer ≡ false)
landed_slot p Answer.Missed = inl refl
landed_slot p answer = inr (λ i b v q. refl)

beside_plain : (leading : Bool) (verb : Verb) (answer : Answer) (q : ℕ) → is_beside leading verb ≡ true → is_missed_at_verb q verb answer ≡ false
beside_plain leading (Verb.PutMin p b) answer q beside = absurd (true≢false (sym beside))
beside_plain leading (Verb.PutSlot p i b v) answer q beside = absurd (true≢false (sym beside))
beside_plain leading verb answer q beside = refl

pub explains_beside : (c : Config) (r : ℕ) (mine : List Event) (leading : Bool) (place : Place) (verb : Verb) (answer : Answer) → is_replication mine (event_by r verb answer) ≡ false → is_beside leading verb ≡ true → ExplainsAt c r mine place → ExplainsAt c r (event_by r verb answer ∷ mine) place
explains_beside c r mine leading (Place.Evidence p) verb answer off beside at = record {
  here = kinds_of_step.stays (explaining c r p) 1 1 mine (event_by r verb answer) (unopened c r p mine (event_by r verb answer) (beside_plain leading verb answer p beside)) off (omega arith) at.here;
  others = λ q other. countdowns_run.explains.quiet c r q mine (event_by r verb answer) (beside_plain leading verb answer q beside) (at.others q other);
}
explains_beside c r mine leading place verb answer off beside at = explained_on c r mine (event_by r verb answer) (λ q. beside_plain leading verb answer q beside) at

pub explained_in_time : (c : Config) (r : ℕ) (mine : List Event) (place : Place) → ExplainsAt c r mine place → (p : ℕ) → IsInTime (explaining c r p) mine
explained_in_time c r mine (Place.Evidence p) at q = elim (cases_eq q p) [
  | inl same ↦ subst (λ x. IsInTime (explaining c r x) mine) (sym same) at.here
  | inr other ↦ kinds_of_step.closed (explaining c r q) 1 mine (at.others q other)
]
explained_in_time c r mine place at q = kinds_of_step.closed (explaining c r q) 1 mine (at q)
