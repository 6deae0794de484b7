use Rattle.std.proofs.Common.{◌≡◌, arith, subst}
use Rattle.mu_serve.specs.Sessions.{IsAfter}
use Rattle.mu_serve.proofs.Talking.{after_more, after_none}
use Rattle.mu_serve.proofs.closing.play_out.Goals as goal

pub loop-init : goal.loop-init
loop-init c = after_none c.args.engine.now

pub loop-preserved : goal.loop-preserved
loop-preserved c = after_more _ _ _ _ c.loop.invariant (record {
  steps = c.round.ensures.steps.0;
  job = c.round.ensures.job;
  room = c.round.ensures.room;
  holds = c.round.ensures.holds;
  events = c.round.ensures.steps.1;
  round = c.round.ensures.steps.2;
})

pub returns : goal.returns
returns c =
    let all : c.loop.counter ≡ 2000 = omega (arith, c.loop-test.false) in
    subst (λ n. IsAfter n c.args.engine.now c.loop.engine) all c.loop.invariant
