use Rattle.std.proofs.Common.{◌≡◌, take}
use Rattle.mu_model.specs.Histories.{part}
use Rattle.worked_rows.proofs.event_scripts.part_of.Given as goal

abbrev pub invariant-loop-e : goal.invariant-loop-e
invariant-loop-e l = l.mine.items ≡ part l.by (take l.e-index l.events)
