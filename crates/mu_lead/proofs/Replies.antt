-- Which answers a verb may get.
use Rattle.std.proofs.Common.{Bool, List, None, Some, false, inl, inr, true, ℕ, ◌&&◌, ◌==◌, ◌∷◌, ◌≡◌, ◌⊎◌}
use Rattle.std.specs.Prelude.{if◌then◌else◌, not}
use Rattle.std.specs.declared.option.Option.{Option}
use Rattle.mu_model.specs.declared.config.Config.{Config}
use Rattle.mu_model.specs.declared.event.Answer.{Answer}
use Rattle.mu_model.specs.declared.event.Event.{Event}
use Rattle.mu_model.specs.declared.event.Fence.{Fence}
use Rattle.mu_model.specs.declared.event.Target.{Target}
use Rattle.mu_model.specs.declared.event.Verb.{Verb}
use Rattle.mu_model.specs.Answers.{answer_of, drained, entered_or_lost, put_answer}
use Rattle.mu_model.specs.Leaderships.{noted_grant}
use Rattle.mu_model.specs.Parts.{IsPossible}
use Rattle.mu_model.specs.Regions.{fence}
use Rattle.mu_model.specs.Histories.{event_by}
use Rattle.mu_agree.proofs.Possible.{at_event}

-- the answer of the last event is what the history before it makes it
pub answer_is : (c : Config) (r : ℕ) (verb : Verb) (a : Answer) (mine : List Event) → IsPossible c r (event_by r verb a ∷ mine) → (past : List Event) × (a ≡ answer_of c r past verb)
answer_is c r verb a mine possible = let s = at_event c r mine (event_by r verb a) possible in (s.older, s.follows.answer)

pub sees_fence : (c : Config) (r p : ℕ) (a : Answer) (mine : List Event) → IsPossible c r (event_by r (Verb.Fence p) a ∷ mine) → (f : Fence) × (a ≡ Answer.Seen f)
sees_fence c r p a mine possible = let x = answer_is c r (Verb.Fence p) a mine possible in (fence p x.0, x.1)

pub tells_min : (c : Config) (r p : ℕ) (a : Answer) (mine : List Event) → IsPossible c r (event_by r (Verb.Min p) a ∷ mine) → (n : ℕ) × (a ≡ Answer.Number n)
tells_min c r p a mine possible = let x = answer_is c r (Verb.Min p) a mine possible in (_, x.1)

pub tells_fuo : (c : Config) (r p : ℕ) (a : Answer) (mine : List Event) → IsPossible c r (event_by r (Verb.Fuo p) a ∷ mine) → (n : ℕ) × (a ≡ Answer.Number n)
tells_fuo c r p a mine possible = let x = answer_is c r (Verb.Fuo p) a mine possible in (_, x.1)

pub tells_head : (c : Config) (r p : ℕ) (a : Answer) (mine : List Event) → IsPossible c r (event_by r (Verb.Head p) a ∷ mine) → (n : ℕ) × (a ≡ Answer.Number n)
tells_head c r p a mine possible = let x = answer_is c r (Verb.Head p) a mine possible in (_, x.1)

-- an `Enter` takes, or is lost
pub enters_or : (c : Config) (r p : ℕ) (t : Target) (a : Answer) (mine : List Event) → IsPossible c r (event_by r (Verb.Enter p t) a ∷ mine) → (a ≡ Answer.Entered) ⊎ ((f : Fence) × (a ≡ Answer.Lost f))
enters_or c r p t a mine possible = let x = answer_is c r (Verb.Enter p t) a mine possible in go (noted_grant r p x.0) (fence p x.0) x.1
  where
    go : (o : Option ℕ) (f : Fence) → a ≡ entered_or_lost o f → (a ≡ Answer.Entered) ⊎ ((f : Fence) × (a ≡ Answer.Lost f))
    go None f is = inr (f, is)
    go (Some g) f is = by_test (not f.closing && (f.grant == g)) is
      where
        by_test : (s : Bool) → a ≡ (if s then Answer.Entered else Answer.Lost f) → (a ≡ Answer.Entered) ⊎ ((f : Fence) × (a ≡ Answer.Lost f))
        by_test true is = inl is
        by_test false is = inr (f, is)

-- a put lands, or misses
puts_or : (a : Answer) (t : Bool) → a ≡ put_answer t → (a ≡ Answer.Done) ⊎ (a ≡ Answer.Missed)
puts_or a true is = inr is
puts_or a false is = inl is

pub puts_min_or : (c : Config) (r p b : ℕ) (a : Answer) (mine : List Event) → IsPossible c r (event_by r (Verb.PutMin p b) a ∷ mine) → (a ≡ Answer.Done) ⊎ (a ≡ Answer.Missed)
puts_min_or c r p b a mine possible = let x = answer_is c r (Verb.PutMin p b) a mine possible in puts_or a (drained r p x.0) x.1

pub puts_slot_or : (c : Config) (r p i b v : ℕ) (a : Answer) (mine : List Event) → IsPossible c r (event_by r (Verb.PutSlot p i b v) a ∷ mine) → (a ≡ Answer.Done) ⊎ (a ≡ Answer.Missed)
puts_slot_or c r p i b v a mine possible = let x = answer_is c r (Verb.PutSlot p i b v) a mine possible in puts_or a (drained r p x.0) x.1
