use Rattle.std.proofs.Common.{arith, subst, sym, take}
use Rattle.std.proofs.lemmas.List.{length-reverse, length-take-le, take_all}
use Rattle.mu_model.proofs.Budgets.{short_history}
use Rattle.mu_model.specs.Histories.{history}
use Rattle.mu_outcome.proofs.Places.{history_at_next, legal_there, read_there}
use Rattle.mu_course.proofs.Walking.{fault_denies}
use Rattle.mu_course.specs.Walks.{StandsForWalk}
use Rattle.mu_course.proofs.walk.walk_of.Goals as goal

pub returns-in-Some-clause-judged : goal.returns-in-Some-clause-judged
returns-in-Some-clause-judged c =
    let events = c.args.events.now in
    let i = c.loop-index.index in
    let held = c.loop-index.invariant in
    record {
      there = read_there events i _ (omega (arith, c.loop-index-test.true));
      before = held.legal;
      fault = c.in-Some.ensures (history (take i events)) held;
    }

pub returns-in-Some-clause-legal : goal.returns-in-Some-clause-legal
returns-in-Some-clause-legal c = λ legal.
    let config = c.args.config.now in
    let events = c.args.events.now in
    let i = c.loop-index.index in
    let past = history (take i events) in
    let right = legal_there config events i _ legal (omega (arith, c.loop-index-test.true)) in
    absurd (fault_denies config past _ c.in-Some.fault (c.in-Some.ensures past c.loop-index.invariant) right.1)

pub loop-index-preserved : goal.loop-index-preserved
loop-index-preserved c =
    let config = c.args.config.now in
    let events = c.args.events.now in
    let i = c.loop-index.index in
    let past = history (take i events) in
    let held = c.loop-index.invariant in
    subst (λ l. StandsForWalk config l c.take.new.self) (sym (history_at_next events i _ (omega (arith, c.loop-index-test.true))))
    (c.take.ensures.stands past (held.legal, c.in_default.ensures past held) held)

pub overflow_cast-broken : goal.overflow_cast-broken
overflow_cast-broken c =
    let config = c.args.config.now in
    let events = c.args.events.now in
    let i = c.loop-index.index in
    let short = short_history config (history (take i events)) c.loop-index.invariant.legal c.requires.config.replicas.1 c.requires.config.budget.1 in
    let all = length-reverse (take i events) in
    let front = length-take-le i events (omega (arith, c.loop-index-test.true)) in
    omega (arith, short, all, front)

pub returns-clause-judged : goal.returns-clause-judged
returns-clause-judged c =
    let events = c.args.events.now in
    subst (λ l. StandsForWalk c.args.config.now (history l) c.loop-index.walk) (take_all c.loop-index.index events (omega (arith, c.loop-index-test.false))) c.loop-index.invariant

pub returns-clause-legal : goal.returns-clause-legal
returns-clause-legal c = λ legal.
    let events = c.args.events.now in
    subst (λ l. StandsForWalk c.args.config.now (history l) c.loop-index.walk) (take_all c.loop-index.index events (omega (arith, c.loop-index-test.false))) c.loop-index.invariant
