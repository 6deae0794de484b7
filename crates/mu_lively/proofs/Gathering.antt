-- Where the listing goes on from each place, as far as asks depend on it.
use Rattle.std.proofs.Common.{◌≡◌, ℕ, ◌<◌, true, List, ◌∷◌, Some, refl, sym, subst}
use Rattle.std.proofs.lemmas.Bool.{lt-ltb}
use Rattle.mu_model.specs.declared.event.Answer.{Answer}
use Rattle.mu_model.specs.declared.event.Event.{Event}
use Rattle.mu_model.specs.declared.event.Fence.{Fence}
use Rattle.mu_model.specs.declared.event.Target.{Target}
use Rattle.mu_model.specs.declared.event.Verb.{Verb}
use Rattle.mu_model.specs.Leaderships.{is_over, proposal_number}
use Rattle.mu_model.proofs.Basics.{same_number}
use Rattle.mu_model.specs.Histories.{event_by}

-- an `Enter` takes, or is lost
pub lost_over : (r p : ℕ) (t : Target) (a : Answer) (f : Fence) (mine : List Event) → a ≡ Answer.Lost f → is_over r (event_by r (Verb.Enter p t) a ∷ mine) ≡ true
lost_over r p t a f mine lost = subst (λ x. is_over r (event_by r (Verb.Enter p t) x ∷ mine) ≡ true) (sym lost) (rw (same_number r) refl)

-- a put lands, or misses
pub missed_min_over : (r p b : ℕ) (a : Answer) (mine : List Event) → a ≡ Answer.Missed → is_over r (event_by r (Verb.PutMin p b) a ∷ mine) ≡ true
missed_min_over r p b a mine missed = subst (λ x. is_over r (event_by r (Verb.PutMin p b) x ∷ mine) ≡ true) (sym missed) (rw (same_number r) refl)

pub missed_slot_over : (r p i b v : ℕ) (a : Answer) (mine : List Event) → a ≡ Answer.Missed → is_over r (event_by r (Verb.PutSlot p i b v) a ∷ mine) ≡ true
missed_slot_over r p i b v a mine missed = subst (λ x. is_over r (event_by r (Verb.PutSlot p i b v) x ∷ mine) ≡ true) (sym missed) (rw (same_number r) refl)

-- the minimum of a late follower is above the number, or not
pub higher_over : (r p b x : ℕ) (a : Answer) (mine : List Event) → a ≡ Answer.Number x → proposal_number r mine ≡ Some b → b < x → is_over r (event_by r (Verb.Min p) a ∷ mine) ≡ true
higher_over r p b x a mine told numbered high = subst (λ y. is_over r (event_by r (Verb.Min p) y ∷ mine) ≡ true) (sym told) (rw (same_number r, numbered, lt-ltb b x high) refl)
