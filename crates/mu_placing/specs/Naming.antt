-- region of step: the region at which a verb of a leader is a step, if it isn't an ask, which may
-- begin a leadership.
use Rattle.std.specs.Prelude.{Some, ℕ}
use Rattle.std.specs.declared.option.Option.{Option}
use Rattle.mu_model.specs.declared.event.Verb.{Verb}
use Rattle.mu_leadership.specs.Bearing.{region_named}

-- the region that a leader's verb names, but an ask
abbrev pub region_of_step : Verb → Option ℕ
region_of_step (Verb.Look p i) = Some p
region_of_step (Verb.Fuo p) = Some p
region_of_step (Verb.RaiseFuo p u) = Some p
region_of_step verb = region_named verb
