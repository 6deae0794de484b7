use Rattle.std.proofs.Common.{rules}
use Rattle.mu_detect.proofs.Peers.{peer_read, peers_after}
use Rattle.mu_detect.proofs.scores.Scores.take.Goals as goal

pub returns-then-q-lt7-clause-reads : goal.returns-then-q-lt7-clause-reads
returns-then-q-lt7-clause-reads c n r mine event by is says held = record {
  few = held.few;
  inside = held.inside;
  replicas = held.replicas;
  id = held.id;
  peers =
      peers_after n r c.args.q c.args.count c.from-at.result mine event c.args.self.now.peers c.after.result c.from-at.ensures is says held.peers
      (λ low. c.after.ensures r c.args.q mine event by is says (peer_read n r c.args.q c.from-at.result mine c.args.self.now.peers _ c.from-at.ensures (search rules) low held.peers));
}
