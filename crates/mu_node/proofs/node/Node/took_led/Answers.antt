use Rattle.std.proofs.Common.{sym}
use Rattle.mu_node.proofs.node.Node.took_led.Goals as goal

pub take_led-requires : goal.take_led-requires
take_led-requires g c = rw (sym c.in-WriteRow-Done.is-0) c.requires

pub take_led-requires-in-Fence-Seen : goal.take_led-requires-in-Fence-Seen
take_led-requires-in-Fence-Seen g c = rw (sym c.in-Fence-Seen.is-0) c.requires

pub returns-in-WriteRow-Done : goal.returns-in-WriteRow-Done
returns-in-WriteRow-Done g c = rw (c.in-WriteRow-Done.is-0, c.in-WriteRow-Done.is-1) c.take_led.ensures

pub returns-in-Fence-Seen : goal.returns-in-Fence-Seen
returns-in-Fence-Seen g c = rw (c.in-Fence-Seen.is-0, c.in-Fence-Seen.is-1) c.take_led-in-Fence-Seen.ensures
