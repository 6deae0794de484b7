use Rattle.std.proofs.Common.{◌≡◌, ◌+◌, drop}
use Rattle.mu_input.specs.Batches.{followers}
use Rattle.mu_input.proofs.batches.followers.Given as goal

abbrev pub invariant-loop-next : goal.invariant-loop-next
invariant-loop-next l = followers l.width l.fn.command l.fn.after ≡ l.count + followers l.width l.last (drop l.next-index l.after)
