-- What a run of the job that was read, or that is stated, comes to.
use Rattle.std.proofs.Common.{true, ◌≡◌, ◌+◌, ◌^◌, ◌<◌, ◌≤◌, None, arith, length, subst, sym}
use Rattle.match_book.specs.Ledgers.{HaveDifferentIds}
use Rattle.match_book.proofs.Session.{session_differs}
use Rattle.mu_input.specs.Heads.{HaveHeads}
use Rattle.mu_input.specs.declared.TheConstants.{MOST_COMMANDS, MOST_SCRIPT_LINES}
use Rattle.mu_input.specs.declared.job.Job.{Job}
use Rattle.mu_model.specs.Contents.{IsConfig}
use Rattle.mu_outcome.specs.declared.outcome.Outcome.{Outcome}
use Rattle.mu_outcome.specs.Entries.{commands_in, longest}
use Rattle.mu_outcome.specs.Outcomes.{Agrees, IsRun}
use Rattle.mu_outcome.specs.Runs.{IsThreadRun}
use Rattle.mu_outcome.proofs.Completing.{completes_over, few_told, session_told}
use Rattle.mu_cluster.specs.Leading.{LeadOnUnpaused}
use Rattle.mu_cluster.specs.Living.{StaysAlive}
use Rattle.mu_cluster.specs.Naming.{NamesFirstUnpaused, SpendsBudgets}
use Rattle.mu_cluster.specs.Paces.{AreDiligent, AreDiligentBy, AreEager}
use Rattle.mu_cluster.proofs.Agreeing.{over_order}
use Rattle.mu_report.specs.Trace.{IsCountable}
use Rattle.mu_report.proofs.Traces.{run_fits}
use Rattle.mu_cluster.specs.Fair.{HasAllIfFair}
use Rattle.mu_top.specs.Commands.{IsEagerReplay, IsReplay, IsThreaded}

pub replay_of : (o : Outcome) (job : Job) → o.job ≡ job → IsConfig job.config → HaveHeads job.config.width job.commands job.config.rows → IsRun o → AreDiligent o → NamesFirstUnpaused o → SpendsBudgets o → StaysAlive o → LeadOnUnpaused o → Agrees o → o.gathered ≡ None → IsReplay o
replay_of o job same good have run diligent names spends lives leads agrees gathered = record {
  names = names;
  spends = spends;
  lives = lives;
  leads = leads;
  gathered = gathered;
  run = run;
  diligent = diligent;
  agrees = agrees;
  completes = completes_over o run.order.events (subst (λ (j : Job). IsConfig j.config) (sym same) good) (subst (λ (j : Job). HaveHeads j.config.width j.commands j.config.rows) (sym same) have) (over_order o run) agrees;
}

pub eager_of : (o : Outcome) (job : Job) → o.job ≡ job → IsConfig job.config → HaveHeads job.config.width job.commands job.config.rows → IsRun o → AreEager o → AreDiligentBy true o → NamesFirstUnpaused o → SpendsBudgets o → Agrees o → o.gathered ≡ None → IsEagerReplay o
eager_of o job same good have run eager diligent names spends agrees gathered = record {
  names = names;
  spends = spends;
  gathered = gathered;
  run = run;
  eager = eager;
  diligent = diligent;
  agrees = agrees;
  completes = completes_over o run.order.events (subst (λ (j : Job). IsConfig j.config) (sym same) good) (subst (λ (j : Job). HaveHeads j.config.width j.commands j.config.rows) (sym same) have) (over_order o run) agrees;
}

pub threaded_of : (o : Outcome) (job : Job) → o.job ≡ job → IsConfig job.config → HaveHeads job.config.width job.commands job.config.rows → IsThreadRun o → AreEager o → AreDiligentBy true o → Agrees o → HasAllIfFair o → IsThreaded o
threaded_of o job same good have run eager diligent agrees lives = record {
  run = run;
  eager = eager;
  diligent = diligent;
  agrees = agrees;
  completes = completes_over o run.events (subst (λ (j : Job). IsConfig j.config) (sym same) good) (subst (λ (j : Job). HaveHeads j.config.width j.commands j.config.rows) (sym same) have) run.over agrees;
  lives_if_fair = lives;
}

-- the bytes of the trace of a replay can be counted
pub countable_of : (o : Outcome) (job : Job) → o.job ≡ job → IsConfig job.config → HaveHeads job.config.width job.commands job.config.rows → length job.commands ≤ MOST_COMMANDS
    → length job.script.stops + length job.script.pauses ≤ MOST_SCRIPT_LINES → IsRun o → IsCountable o
countable_of o job same good have few short run =
    run_fits o (subst (λ (j : Job). IsConfig j.config) (sym same) good) (subst (λ (j : Job). HaveHeads j.config.width j.commands j.config.rows) (sym same) have)
    (subst (λ (j : Job). length j.commands < 2 ^ 15) (sym same) (omega (arith, few)))
    (subst (λ (j : Job). length j.script.stops + length j.script.pauses < 2 ^ 16) (sym same) (omega (arith, short))) run

-- the longest log of a replay has no more commands than the job
pub few_of : (o : Outcome) (job : Job) → o.job ≡ job → IsConfig job.config → HaveHeads job.config.width job.commands job.config.rows → IsRun o → Agrees o → length (commands_in o.job (longest o.logs)) ≤ length job.commands
few_of o job same good have run agrees =
    subst (λ (j : Job). length (commands_in o.job (longest o.logs)) ≤ length j.commands) same
    (few_told o run.order.events (subst (λ (j : Job). IsConfig j.config) (sym same) good) (subst (λ (j : Job). HaveHeads j.config.width j.commands j.config.rows) (sym same) have) (over_order o run) agrees)

-- and their ids differ
pub different_of : (o : Outcome) (job : Job) → o.job ≡ job → IsConfig job.config → HaveHeads job.config.width job.commands job.config.rows → IsRun o → Agrees o → HaveDifferentIds (commands_in o.job (longest o.logs))
different_of o job same good have run agrees =
    session_differs (commands_in o.job (longest o.logs))
    (session_told o run.order.events (subst (λ (j : Job). IsConfig j.config) (sym same) good) (subst (λ (j : Job). HaveHeads j.config.width j.commands j.config.rows) (sym same) have) (over_order o run) agrees)
