use Rattle.std.proofs.Common.{rules}
use Rattle.mu_placing.proofs.HeadsKept.{peers_kept}
use Rattle.mu_placing.proofs.heads.take_heads.Goals as goal

pub returns-else-tells_of_heads : goal.returns-else-tells_of_heads
returns-else-tells_of_heads c k mine stands held = peers_kept k c.args.r c.args.event.now mine c.args.peers.now (search rules) held
