use Rattle.std.proofs.Common.{◌≡◌}
use Rattle.shared_fabric.specs.Gathering.{IsSamePort}
use Rattle.worked_rows.proofs.shared_ports.act_on.Given as goal

abbrev pub invariant-loop : goal.invariant-loop
invariant-loop l = IsSamePort l.initial.port l.port × (l.port.config ≡ l.config)
