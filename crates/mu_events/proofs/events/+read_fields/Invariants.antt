use Rattle.std.proofs.Common.{length}
use Rattle.mu_events.proofs.events.+read_fields.Given as goal

abbrev pub decreases-read_fields : goal.decreases-read_fields
decreases-read_fields l = length l.order.now
