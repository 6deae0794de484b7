use Rattle.std.proofs.Common.{arith, length, length-set, rules, ◌<◌, ◌∙◌, ◌∷◌, ◌≡◌}
use Rattle.mu_placing.specs.Heads.{HoldsPeer}
use Rattle.mu_model.proofs.Lists.{upto_all, upto_next}
use Rattle.mu_placing.proofs.heads.take_at_peers.Goals as goal

pub loop-q-init : goal.loop-q-init
loop-q-init c = record {
  count = search rules;
  upto = λ k mine stands held q peer there. (λ below. absurd (omega (arith, below)), λ above low. held q peer low there);
}

pub loop-q-preserved : goal.loop-q-preserved
loop-q-preserved c =
    let r = c.args.r in
    let e = c.args.event.now in
    let seven : length c.loop-q.peers ≡ 7 = c.loop-q.invariant.count in
    record {
      count = length-set c.loop-q.peers c.from-at.result c.after.result ∙ seven;
      upto = λ k mine stands held.
          upto_next (λ q peer. q < k.replicas → HoldsPeer k r q mine peer) (λ q peer. q < k.replicas → HoldsPeer k r q (e ∷ mine) peer) c.loop-q.q c.from-at.result c.loop-q.peers _ c.after.result c.from-at.ensures (omega (arith, seven, c.loop-q-test.true))
          (λ was low. c.after.ensures k mine (c.alive.ensures k.replicas r mine low stands) (was low)) (c.loop-q.invariant.upto k mine stands held);
    }

pub returns : goal.returns
returns c k mine stands held q peer low there =
    let r = c.args.r in
    let e = c.args.event.now in
    let seven : length c.loop-q.peers ≡ 7 = c.loop-q.invariant.count in
    upto_all (λ q peer. q < k.replicas → HoldsPeer k r q mine peer) (λ q peer. q < k.replicas → HoldsPeer k r q (e ∷ mine) peer) c.loop-q.q c.loop-q.peers (omega (arith, seven, c.loop-q-test.false)) (c.loop-q.invariant.upto k mine stands held) q peer there low
