use Rattle.std.proofs.Common.{refl}
use Rattle.front_desk.proofs.Keeping.{sends}
use Rattle.front_desk.proofs.sending.send_one.Goals as goal

pub try_push_as-requires-clause-rule : goal.try_push_as-requires-clause-rule
try_push_as-requires-clause-rule g c = sends _ _ _ _ _ _ c.loop.invariant.1 refl c.requires.client
