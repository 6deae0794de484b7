-- ranges: the numbers of an event fit their types.
use Rattle.std.specs.Prelude.{ℕ, ◌<◌, ◌^◌, None, Some, ⊤}
use Rattle.std.specs.declared.option.Option.{Option}
use Rattle.mu_model.specs.Packing.{fields_of}
use Rattle.mu_model.specs.declared.event.Answer.{Answer}
use Rattle.mu_model.specs.declared.event.Event.{Event}
use Rattle.mu_model.specs.declared.event.Fence.{Fence}
use Rattle.mu_model.specs.declared.event.Target.{Target}
use Rattle.mu_model.specs.declared.event.Target.TheVariants as target
use Rattle.mu_model.specs.declared.event.Verb.{Verb}
use Rattle.mu_model.specs.declared.event.Verb.TheVariants as verb

-- the numbers of what a writer is about to write fit their types
abbrev pub FitsTarget : Target → Type 0
FitsTarget (target.Place place) = place < 2 ^ 16
FitsTarget _ = ⊤

-- the number of a step that has no room among its fields: proposal numbers have 32 bits, words 64
abbrev pub FitsOwn : Verb → Type 0
FitsOwn (verb.PutMin p number) = number < 2 ^ 32
FitsOwn (verb.PutSlot p i number value) = number < 2 ^ 32
FitsOwn (verb.WriteRow row word value) = value < 2 ^ 64
FitsOwn _ = ⊤

-- the numbers of a step fit their types: replicas, regions and places of words have 8 bits,
-- positions, rows, payload numbers, heads and places of a ring 16
pub record FitsVerb (verb : Verb) : Type 0 where
  pub small : (fields_of verb).small < 2 ^ 8
  pub first : (fields_of verb).first < 2 ^ 16
  pub second : (fields_of verb).second < 2 ^ 16
  pub own : FitsOwn verb

-- the replica that a fence lets write has 8 bits
abbrev pub FitsOwner : Option ℕ → Type 0
FitsOwner None = ⊤
FitsOwner (Some owner) = owner < 2 ^ 8

-- the numbers of a fence fit their types
pub record FitsFence (fence : Fence) : Type 0 where
  pub owner : FitsOwner fence.owner
  pub grant : fence.grant < 2 ^ 32
  pub target : FitsTarget fence.target

-- the numbers of an answer fit their types
abbrev pub FitsAnswer : Answer → Type 0
FitsAnswer (Answer.Lost fence) = FitsFence fence
FitsAnswer (Answer.Seen fence) = FitsFence fence
FitsAnswer (Answer.Number number) = number < 2 ^ 64
FitsAnswer (Answer.Entry number value) = (number < 2 ^ 32) × (value < 2 ^ 16)
FitsAnswer _ = ⊤

-- the numbers of an event fit their types
pub record FitsEvent (event : Event) : Type 0 where
  pub by : event.by < 2 ^ 8
  pub verb : FitsVerb event.verb
  pub answer : FitsAnswer event.answer
