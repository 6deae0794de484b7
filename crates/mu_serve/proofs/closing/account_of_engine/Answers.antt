use Rattle.std.proofs.Common.{List, ◌∙◌, subst, sym}
use Rattle.mu_model.specs.Legal.{IsLegal}
use Rattle.mu_model.specs.declared.event.Event.{Event}
use Rattle.mu_serve.proofs.Stops.{comes_to_of, is_job_so_far}
use Rattle.mu_serve.proofs.closing.account_of_engine.Goals as goal

pub returns-clause-comes_to : goal.returns-clause-comes_to
returns-clause-comes_to c =
    let live = c.into_session-config.result in
    let same = c.as_slice-2.ensures.value ∙ c.in_ok-events.ensures ∙ c.events.ensures.events in
    let legal = subst (λ (l : List Event). IsLegal live.job.config l) (c.into_session-config.ensures.events ∙ sym same) c.into_session-config.ensures.moment.legal in
    let held = c.in_ok-walk.ensures.legal legal in
    let events = c.as_slice-2.result.now in
    comes_to_of c.args.engine _ _ c.account_of.result c.events.ensures.moment
    (is_job_so_far c.args.engine live.job _ _
    c.into_session-config.ensures.job (c.from_vec.ensures ∙ c.in_ok-stops.ensures)
    (c.from_vec-2.ensures ∙ c.new.ensures.items))
    same c.account_of.ensures.job (c.account_of.ensures.is events held) (c.account_of.ensures.agrees events held)

pub returns-clause-within : goal.returns-clause-within
returns-clause-within c =
    let live = c.into_session-config.result in
    let same = c.as_slice-2.ensures.value ∙ c.in_ok-events.ensures ∙ c.events.ensures.events in
    let legal = subst (λ (l : List Event). IsLegal live.job.config l) (c.into_session-config.ensures.events ∙ sym same) c.into_session-config.ensures.moment.legal in
    c.account_of.ensures.reach c.as_slice-2.result.now (c.in_ok-walk.ensures.legal legal)
