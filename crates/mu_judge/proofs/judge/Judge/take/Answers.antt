use Rattle.std.proofs.Common.{sym, subst}
use Rattle.mu_judge.specs.Judges.{StandsForJudge, TakesIfAllowed}
use Rattle.mu_judge.proofs.judge.Judge.take.Goals as goal

pub returns-then-takes : goal.returns-then-takes
returns-then-takes c = λ past held. subst (λ took. TakesIfAllowed c.args.config.now past c.args.event.now c.args.self.now c.takes.new.self took) c.if-takes.true (c.takes.ensures past held)

pub returns-else-takes : goal.returns-else-takes
returns-else-takes c = λ past held.
    let config = c.args.config.now in
    let stays = subst (λ took. TakesIfAllowed config past c.args.event.now c.args.self.now c.takes.new.self took) c.if-takes.false (c.takes.ensures past held) in
    (stays.0, c.fault.ensures past (subst (λ judge. StandsForJudge config past judge) (sym stays.0) held) stays.1)
