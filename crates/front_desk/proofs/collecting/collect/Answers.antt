use Rattle.std.proofs.Common.{List, ap, sym, subst, ◌∙◌}
use Rattle.kv_store.specs.Commands.{Request}
use Rattle.kv_store.specs.Sessions.{IsInSession}
use Rattle.mu_input.specs.declared.job.Job.{Job}
use Rattle.front_desk.specs.Arrivals.{IsArrival}
use Rattle.front_desk.proofs.Clients.{arrival_in_session}
use Rattle.front_desk.proofs.Keeping.{begins}
use Rattle.front_desk.proofs.collecting.collect.Goals as goal

pub ruled-requires-clause-rule : goal.ruled-requires-clause-rule
ruled-requires-clause-rule g c = begins

pub with_commands-requires-clause-session : goal.with_commands-requires-clause-session
with_commands-requires-clause-session g c =
    subst IsInSession (sym c.from_vec.ensures)
    (arrival_in_session c.args.job.commands c.arrive-arrived.result.items
    (subst (λ (given : List Request). IsArrival given c.arrive-arrived.result.items) c.as_slice.ensures c.arrive-arrived.ensures.arrival) c.requires.session)

pub returns-clause-session : goal.returns-clause-session
returns-clause-session g c =
    subst IsInSession (sym (ap (λ (job : Job). job.commands) c.in_ok-with_commands.ensures.job ∙ c.from_vec.ensures))
    (arrival_in_session c.args.job.commands c.arrive-arrived.result.items
    (subst (λ (given : List Request). IsArrival given c.arrive-arrived.result.items) c.as_slice.ensures c.arrive-arrived.ensures.arrival) c.requires.session)
