use Rattle.std.proofs.Common.{◌+◌, arith}
use Rattle.mu_library.specs.Waiting.{HasWaitedInVain}
use Rattle.mu_library.proofs.Waiting.{if_err, plays_more, plays_none, tells_row}
use Rattle.mu_library.proofs.rounds.wait_for.Goals as goal

pub loop-init : goal.loop-init
loop-init c = plays_none c.args.eras.now

pub loop-preserved : goal.loop-preserved
loop-preserved c = plays_more c.loop.counter c.args.eras.now c.loop.eras c.round.new.self c.eras_go_further.ensures c.loop.invariant c.round.ensures.held c.round.ensures.lasts

pub returns-in-Some-clause-told : goal.returns-in-Some-clause-told
returns-in-Some-clause-told c = record {
  played = c.loop.counter;
  few = omega (arith, c.loop-test.true);
  plays = c.loop.invariant;
  tells = c.in-Some.ensures.told;
  whole = λ none. (let same = none in cc);
}

pub returns-in_err-round-clause-vain : goal.returns-in_err-round-clause-vain
returns-in_err-round-clause-vain c = if_err c.from_residual.result (HasWaitedInVain c.args.rounds c.args.eras.now c.round.new.self) (record {
  played = c.loop.counter + 1;
  few = omega (arith, c.loop-test.true);
  plays = plays_more c.loop.counter c.args.eras.now c.loop.eras c.round.new.self c.eras_go_further.ensures c.loop.invariant c.round.ensures.held c.round.ensures.lasts;
})

pub returns-clause-told : goal.returns-clause-told
returns-clause-told c = record {
  played = c.loop.counter;
  few = c.loop.auto.counter-end;
  plays = c.loop.invariant;
  tells = tells_row c.args.row c.reply_to-2.result c.loop.eras c.reply_to-2.ensures.untold c.reply_to-2.ensures.told;
  whole = λ none. omega (arith, c.loop-test.false, c.loop.auto.counter-end);
}
