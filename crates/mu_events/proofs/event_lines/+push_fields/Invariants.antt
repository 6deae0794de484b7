use Rattle.std.proofs.Common.{length}
use Rattle.mu_events.proofs.event_lines.+push_fields.Given as goal

abbrev pub decreases-push_fields : goal.decreases-push_fields
decreases-push_fields l = length l.order.now
