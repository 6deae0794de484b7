use Rattle.std.proofs.Common.{drop}
use Rattle.mu_cluster.specs.Pauses.{IsNextBefore}
use Rattle.mu_cluster.proofs.pauses.next_pause.Given as goal

abbrev pub invariant-loop-pause : goal.invariant-loop-pause
invariant-loop-pause l = IsNextBefore l.pauses (drop l.pause-index l.pauses) l.replica l.taken l.next
