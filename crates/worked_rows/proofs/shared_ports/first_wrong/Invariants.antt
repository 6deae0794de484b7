use Rattle.worked_rows.specs.SharedPorts.{AreOf}
use Rattle.worked_rows.proofs.shared_ports.first_wrong.Given as goal

abbrev pub invariant-loop-index : goal.invariant-loop-index
invariant-loop-index l = AreOf l.config l.three.first l.three.second l.three.third
