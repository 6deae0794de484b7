use Rattle.shared_fabric.specs.Gathering.{IsSamePort}
use Rattle.mu_cluster.specs.Branches.{Drives}
use Rattle.std.proofs.Common.{length}
use Rattle.mu_cluster.specs.Pauses.{IsNextPause}
use Rattle.mu_cluster.specs.Resting.{StandForEvents}
use Rattle.mu_cluster.proofs.branch.drive.Given as goal

abbrev pub invariant-loop : goal.invariant-loop
invariant-loop g l =
    (goal.iterator-loop g).can_next l.iterator' × (goal.iterator-loop g).is_finite l.iterator'
    × Drives l.script l.node l.port
    × IsSamePort l.initial.port l.port
    × StandForEvents l.crowd l.port.part l.rests
    × IsNextPause l.script.pauses l.port.id (length l.port.part) l.next
