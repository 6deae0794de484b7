-- Some more items were taken.
use Rattle.std.proofs.Common.{List, length}
use Rattle.mu_verdict.proofs.ItemLines.{HasMore}
use Rattle.mu_verdict.specs.Traces.{HasFew}
use Rattle.mu_clients.specs.declared.items.Item.{Item}
use Rattle.mu_verdict.proofs.finding.wrong_with.Given as goal

abbrev pub invariant-loop : goal.invariant-loop
invariant-loop l = HasFew l.lines × ((items : List Item) → HasMore l.replicas l.rows items l.fn.lines l.lines)

abbrev pub decreases-loop : goal.decreases-loop
decreases-loop l = length l.lines.lines
