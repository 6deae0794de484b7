-- handed by, entries by: how many entries a replica has handed on, and which, between two steps and
-- once it has decided on the next.
use Rattle.std.specs.Prelude.{List, None, Some, drop, take, ℕ}
use Rattle.std.specs.declared.option.Option.{Option}
use Rattle.mu_model.specs.declared.config.Config.{Config}
use Rattle.mu_model.specs.declared.event.Event.{Event}
use Rattle.mu_model.specs.Knowledge.{applied}
use Rattle.mu_node.specs.Cycle.{handed, handed_before}
use Rattle.lone_words.specs.Memory.{Own}
use Rattle.lone_replica.specs.declared.due.Due.{Due}

-- how many entries r has handed on after these events, or for the step that it decided on
abbrev pub handed_by : Config → ℕ → List Event → Option Due → ℕ
handed_by c r mine None = handed_before c r mine
handed_by c r mine (Some due) = handed c r mine

-- these entries
abbrev pub entries_by : Config → ℕ → Own → Option Due → List ℕ
entries_by c r own due = take (handed_by c r own.0 due) (applied c r own.0)

-- those that it applied and hands on next
abbrev pub entries_after : Config → ℕ → Own → Option Due → List ℕ
entries_after c r own due = drop (handed_by c r own.0 due) (applied c r own.0)
