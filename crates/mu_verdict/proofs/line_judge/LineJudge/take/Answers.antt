use Rattle.std.proofs.Common.{◌++◌, ◌∙◌, ap, subst}
use Rattle.mu_events.specs.Events.{event_of}
use Rattle.mu_verdict.specs.LineJudges.{list_of, HasTaken}
use Rattle.mu_model.specs.declared.config.Config.{Config}
use Rattle.mu_text.specs.Lines.{words}
use Rattle.mu_verdict.proofs.line_judge.LineJudge.take.Goals as goal

pub returns-in-Some-default-clause-taken : goal.returns-in-Some-default-clause-taken
returns-in-Some-default-clause-taken c = λ k start past held.
    subst (λ found. HasTaken k start (past ++ list_of found) c.take_found.new.self) (c.event-found.ensures ∙ ap (λ n. event_of n (words c.args.line.now)) (ap (λ (k : Config). k.replicas) held.config)) (c.take_found.ensures.taken k start past held)

pub returns-in-None-Some-clause-taken : goal.returns-in-None-Some-clause-taken
returns-in-None-Some-clause-taken c = λ k start past held.
    subst (λ found. HasTaken k start (past ++ list_of found) c.take_found.new.self) (c.event-found.ensures ∙ ap (λ n. event_of n (words c.args.line.now)) (ap (λ (k : Config). k.replicas) held.config)) (c.take_found.ensures.taken k start past held)

pub returns-in-None-None-clause-taken : goal.returns-in-None-None-clause-taken
returns-in-None-None-clause-taken c = λ k start past held.
    subst (λ found. HasTaken k start (past ++ list_of found) c.take_found.new.self) (c.event-found.ensures ∙ ap (λ n. event_of n (words c.args.line.now)) (ap (λ (k : Config). k.replicas) held.config)) (c.take_found.ensures.taken k start past held)
