-- None of the rows before this one is it.
use Rattle.std.proofs.Common.{◌≡◌, drop}
use Rattle.mu_clients.specs.Attested.{beside}
use Rattle.mu_verdict.proofs.replying.beside.Given as goal

abbrev pub invariant-loop-index : goal.invariant-loop-index
invariant-loop-index l =
    beside l.row (drop l.index l.rows) (drop l.index l.replies) ≡ beside l.row l.rows l.replies
