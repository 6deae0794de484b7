-- causes of answers: why a step finds another fence, a drained region, an overwritten position or
-- none.
use Rattle.std.specs.Prelude.{List, Some, length, true, ℕ, ◌+◌, ◌<◌, ◌≡◌, ◌≢◌, ◌≤◌, ◌↔◌, ◌⊎◌}
use Rattle.std.specs.declared.option.Option.{Option}
use Rattle.mu_model.specs.declared.config.Config.{Config}
use Rattle.mu_model.specs.declared.event.Answer.{Answer}
use Rattle.mu_model.specs.declared.event.Event.{Event}
use Rattle.mu_model.specs.declared.event.Fence.{Fence}
use Rattle.mu_model.specs.declared.event.Verb.{Verb}
use Rattle.mu_model.specs.Answers.{drained}
use Rattle.mu_model.specs.Histories.{history, part}
use Rattle.mu_model.specs.Leaderships.{noted_grant}
use Rattle.mu_model.specs.Regions.{fence, region_log}
use Rattle.mu_port.specs.Telling.{Tells}

-- f is the fence of p after the history, and it is closing, or has another grant than r noted (if r
-- noted none, each grant is another: a put of the minimum may land under a fence that r saw closing
-- before, and then r may enter again with no grant noted)
pub record IsOtherFence (r p : ℕ) (past : List Event) (f : Fence) : Type 0 where
  pub found : f ≡ fence p past
  pub other : (f.closing ≡ true) ⊎ (noted_grant r p (part r past) ≢ Some f.grant)

-- the verb enters a region whose fence f is not as noted
abbrev pub EntersAtOtherFence : ℕ → List Event → Verb → Fence → Type 0
EntersAtOtherFence r past (Verb.Enter p t) f = IsOtherFence r p past f
EntersAtOtherFence r past _ f = ⊥

-- the verb puts at a region that was drained since the last `Enter` of r there
abbrev pub PutsAfterDrain : ℕ → List Event → Verb → Type 0
PutsAfterDrain r past (Verb.PutMin p b) = drained r p past ≡ true
PutsAfterDrain r past (Verb.PutSlot p i b v) = drained r p past ≡ true
PutsAfterDrain r past _ = ⊥

-- the verb looks at a position, and the log is longer than it and the ring
abbrev pub LooksTooLate : Config → List Event → Verb → Type 0
LooksTooLate c past (Verb.Look p i) = i + c.ring < length (region_log p past)
LooksTooLate c past _ = ⊥

-- the verb looks at a position that the log does not have yet
abbrev pub LooksTooEarly : List Event → Verb → Type 0
LooksTooEarly past (Verb.Look p i) = length (region_log p past) ≤ i
LooksTooEarly past _ = ⊥

-- each of four answers to r after the history comes exactly if it has its cause
pub record HasCauses (c : Config) (r : ℕ) (past : List Event) (verb : Verb)
    (answer : Answer) : Type 0 where
  pub lost : (f : Fence) → (answer ≡ Answer.Lost f) ↔ EntersAtOtherFence r past verb f
  pub missed : (answer ≡ Answer.Missed) ↔ PutsAfterDrain r past verb
  pub overwritten : (answer ≡ Answer.Past) ↔ LooksTooLate c past verb
  pub empty : (answer ≡ Answer.Empty) ↔ LooksTooEarly past verb

-- so do the answers to a step after a list that the port tells
abbrev pub CausesOfAnswers : Type 0
CausesOfAnswers =
    (c : Config) (r : ℕ) (events : List Event) (after : Option (List Event)) (verb : Verb)
    (answer : Answer)
    → Tells c r (Some events) after verb answer → HasCauses c r (history events) verb answer
