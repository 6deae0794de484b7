use Rattle.std.proofs.Common.{take, sym, subst, arith}
use Rattle.std.proofs.lemmas.List.{length-reverse, length-take-le}
use Rattle.mu_judge.specs.Judges.{StandsForJudge}
use Rattle.mu_model.specs.Histories.{history}
use Rattle.mu_model.proofs.Budgets.{short_history}
use Rattle.mu_outcome.proofs.Places.{history_at_next, read_there}
use Rattle.mu_judge.proofs.explaining.explain.Goals as goal

pub returns-in-Some : goal.returns-in-Some
returns-in-Some c =
    let held = c.loop-index.invariant in
    let past = history (take c.loop-index.index c.args.events.now) in
    record {
      there = read_there c.args.events.now c.loop-index.index _ (omega (arith, c.loop-index-test.true));
      before = held.legal;
      fault = (c.in-Some.ensures past held).1;
    }

pub loop-index-preserved : goal.loop-index-preserved
loop-index-preserved c =
    let events = c.args.events.now in
    let i = c.loop-index.index in
    let more = sym (history_at_next events i _ (omega (arith, c.loop-index-test.true))) in
    subst (λ l. StandsForJudge c.args.config.now l c.take.new.self) more (c.in_default.ensures (history (take i events)) c.loop-index.invariant)

pub overflow_cast-result : goal.overflow_cast-result
overflow_cast-result c =
    let held = c.loop-index.invariant in
    let events = c.args.events.now in
    let i = c.loop-index.index in
    let short = short_history c.args.config.now (history (take i events)) held.legal c.requires.config.replicas.1 c.requires.config.budget.1 in
    let all = length-reverse (take i events) in
    let front = length-take-le i events (omega (arith, c.loop-index-test.true)) in
    omega (arith, short, all, front)
