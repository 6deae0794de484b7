use Rattle.std.proofs.Common.{◌++◌, subst, sym}
use Rattle.mu_verdict.proofs.TakenEvents.{stays_broken}
use Rattle.mu_verdict.specs.LineJudges.{list_of, HasTaken}
use Rattle.mu_verdict.proofs.line_judge.LineJudge.take_found.Goals as goal

pub returns-in-Some-clause-taken : goal.returns-in-Some-clause-taken
returns-in-Some-clause-taken c = λ k start past held. stays_broken k start past (list_of c.args.found.now) c.args.self.now _ c.in-Some.is held

pub returns-in-Some-found-clause-taken : goal.returns-in-Some-found-clause-taken
returns-in-Some-found-clause-taken c = λ k start past held.
    subst (λ found. HasTaken k start (past ++ list_of found) c.take_event.new.self) (sym c.in-Some-found.is) (c.take_event.ensures.taken k start past held)
