-- Allowed steps are in range.
use Rattle.std.proofs.Common.{ℕ, ◌<◌, List}
use Rattle.mu_model.specs.declared.config.Config.{Config}
use Rattle.mu_model.specs.declared.event.Event.{Event}
use Rattle.mu_model.specs.declared.event.Verb.{Verb}
use Rattle.mu_model.specs.Allowed.{Allowed, Needs}
use Rattle.mu_regions.specs.Range.{InRange, IsNear, read_at}

read_allowed : (c : Config) (r : ℕ) (mine : List Event) (verb : Verb) → r < c.replicas → Needs c r mine verb → read_at r verb < c.replicas
read_allowed c r mine (Verb.WriteRow j k x) here needs = here
read_allowed c r mine (Verb.RaiseHead h) here needs = here
read_allowed c r mine Verb.Beat here needs = here
read_allowed c r mine (Verb.ReadAsk w) here needs = here
read_allowed c r mine Verb.Close here needs = here
read_allowed c r mine Verb.LookTarget here needs = here
read_allowed c r mine Verb.Drain here needs = here
read_allowed c r mine (Verb.Grant w) here needs = here
read_allowed c r mine verb here needs = needs.0

near_allowed : (c : Config) (r : ℕ) (mine : List Event) (verb : Verb) → Needs c r mine verb → IsNear c verb
near_allowed c r mine (Verb.PutSlot p i b v) needs = needs.1.0
near_allowed c r mine (Verb.WriteRow j k x) needs = (needs.0, needs.1.0)
near_allowed c r mine (Verb.ReadRow v k) needs = (needs.1.0, needs.1.1.0)
near_allowed c r mine (Verb.ReadAsk w) needs = needs.0
near_allowed c r mine verb needs = tt

-- what an allowed step names is there
pub in_range : (c : Config) (r : ℕ) (mine : List Event) (verb : Verb) → Allowed c r mine verb → InRange c r verb
in_range c r mine verb may = record { replica = may.replica; read = read_allowed c r mine verb may.replica may.may; near = near_allowed c r mine verb may.may }
