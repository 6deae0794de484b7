use Rattle.std.proofs.Common.{arith}
use Rattle.mu_serve.proofs.Talking.{waits_more}
use Rattle.mu_serve.proofs.session.reply_in_time.Goals as goal

pub returns-in-Some : goal.returns-in-Some
returns-in-Some c = record {
  rounds = c.rounds.rounds;
  waits = c.rounds.invariant.waits;
  told = c.in-Some.ensures;
  enough = c.rounds.invariant.few;
}

pub rounds-preserved : goal.rounds-preserved
rounds-preserved c = record {
  waits = waits_more _ _ _ _ _ c.rounds.invariant.waits c.in-None.ensures (record {
    steps = c.round.ensures.steps.0;
    job = c.round.ensures.job;
    room = c.round.ensures.room;
    holds = c.round.ensures.holds;
    events = c.round.ensures.steps.1;
    round = c.round.ensures.steps.2;
  });
  few = omega arith;
}
