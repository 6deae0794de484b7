use Rattle.std.proofs.Common.{inl}
use Rattle.held_server.proofs.opening.open_shape.Goals as goal

pub returns-in-Ok : goal.returns-in-Ok
returns-in-Ok c = inl (c.code.ensures, c.in-Ok.held.value, c.of.ensures, c.in-Ok.ensures)
