-- The longest log of a replay has no more commands than a job may have.
use Rattle.std.proofs.Common.{◌≡◌, ◌≤◌, arith, length, subst, sym}
use Rattle.mu_cluster.proofs.Agreeing.{over_order}
use Rattle.mu_input.specs.Heads.{HaveHeads}
use Rattle.mu_input.specs.declared.job.Job.{Job}
use Rattle.mu_model.specs.Contents.{IsConfig}
use Rattle.mu_outcome.specs.declared.outcome.Outcome.{Outcome}
use Rattle.mu_outcome.specs.Outcomes.{Agrees, IsRun, IsWithinJob}
use Rattle.mu_outcome.proofs.Completing.{few_told}
use Rattle.mu_outcome.specs.Entries.{commands_in, longest}

pub few_replayed : (o : Outcome) (job : Job) → o.job ≡ job → IsConfig job.config → HaveHeads job.config.width job.commands job.config.rows → IsRun o → Agrees o → IsWithinJob o → length (commands_in o.job (longest o.logs)) ≤ 1500
few_replayed o job same good have run agrees within =
    let few = few_told o run.order.events (subst (λ (j : Job). IsConfig j.config) (sym same) good) (subst (λ (j : Job). HaveHeads j.config.width j.commands j.config.rows) (sym same) have) (over_order o run) agrees in
    omega (arith, few, within.0)
