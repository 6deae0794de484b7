use Rattle.mu_events.proofs.Spelled.{event-back}
use Rattle.mu_events.proofs.event_lines.events_are_read_back.Goals as goal

pub returns : goal.returns
returns c = event-back
