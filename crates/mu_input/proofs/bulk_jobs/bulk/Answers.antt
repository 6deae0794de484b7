use Rattle.std.proofs.Common.{◌≤◌, ◌∙◌, ap, length, subst, sym, arith}
use Rattle.kv_store.specs.Sessions.{IsInSession}
use Rattle.mu_input.specs.declared.TheConstants.{MOST_COMMANDS}
use Rattle.mu_input.proofs.BulkCommands.{IsInSession-bulk, length-bulk_commands, session_of-job_of}
use Rattle.mu_input.proofs.bulk_jobs.bulk.Goals as goal

pub job_of-requires-clause-session : goal.job_of-requires-clause-session
job_of-requires-clause-session c = subst IsInSession (sym (c.from_vec-3.ensures ∙ c.in_ok-commands.ensures)) (IsInSession-bulk c.args.count)

pub job_of-requires-clause-few : goal.job_of-requires-clause-few
job_of-requires-clause-few c =
    let many = ap length (c.from_vec-3.ensures ∙ c.in_ok-commands.ensures) ∙ length-bulk_commands c.args.count in
    let few : c.args.count ≤ MOST_COMMANDS = c.requires in
    omega (arith, many, few)

pub returns-clause-session : goal.returns-clause-session
returns-clause-session c =
    session_of-job_of c.job_of.result _ c.from_vec-3.result _ (subst IsInSession (sym (c.from_vec-3.ensures ∙ c.in_ok-commands.ensures)) (IsInSession-bulk c.args.count)) c.job_of.ensures.job
