use Rattle.std.proofs.Common.{List, length, ◌<◌, ◌∷◌, ◌≡◌}
use Rattle.mu_model.specs.declared.config.Config.{Config}
use Rattle.mu_model.specs.declared.event.Event.{Event}
use Rattle.mu_detect.specs.Stands.{StandsFor}
use Rattle.mu_placing.specs.Heads.{HoldsPeer, HoldsPeers}
use Rattle.mu_model.proofs.Lists.{HoldsUpto}
use Rattle.mu_placing.proofs.heads.take_at_peers.Given as goal

abbrev pub invariant-loop-q : goal.invariant-loop-q
invariant-loop-q l = record {
  count : length l.peers ≡ 7;
  upto :
      (c : Config) (mine : List Event) → StandsFor c.replicas l.r mine l.scores → HoldsPeers c l.r mine l.fn.peers
      → HoldsUpto (λ q peer. q < c.replicas → HoldsPeer c l.r q mine peer) (λ q peer. q < c.replicas → HoldsPeer c l.r q (l.event ∷ mine) peer) l.q l.peers;
}
