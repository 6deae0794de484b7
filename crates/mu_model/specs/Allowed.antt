-- allowed: what a replica may do next, by its own events so far.
use Rattle.std.specs.Prelude.{List, length, ℕ, ◌<◌}
use Rattle.mu_model.specs.declared.config.Config.{Config}
use Rattle.mu_model.specs.declared.event.Event.{Event}
use Rattle.mu_model.specs.declared.event.Verb.{Verb}
use Rattle.mu_model.specs.Points.{AreMet, needs}

-- what the verb needs, besides a step that is left and an existing replica: all of its points are
-- met
abbrev pub Needs : Config → ℕ → List Event → Verb → Type 0
Needs c r past verb = AreMet c r past (needs c r past verb)

-- r may make the verb after its part mine (the count of events is that of the part; every other
-- word looks only at the events of r)
pub record Allowed (c : Config) (r : ℕ) (mine : List Event) (verb : Verb) : Type 0 where
  pub budget : length mine < c.budget
  pub replica : r < c.replicas
  pub may : Needs c r mine verb
