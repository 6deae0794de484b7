use Rattle.std.proofs.Common.{rules}
use Rattle.mu_placing.proofs.HeadsKept.{heads_kept}
use Rattle.mu_placing.proofs.heads.Heads.take.Goals as goal

pub returns : goal.returns
returns c k mine held = record {
  scores = c.note.ensures k.replicas c.args.r mine held.scores;
  peers = c.take_heads.ensures k mine held.scores held.peers;
}

pub returns-then-not-tells_of_peers : goal.returns-then-not-tells_of_peers
returns-then-not-tells_of_peers c k mine held = heads_kept k c.args.r c.args.event.now mine c.args.self.now (search rules) held
