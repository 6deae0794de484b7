use Rattle.std.proofs.Common.{List, subst}
use Rattle.kv_store.specs.Commands.{Request}
use Rattle.mu_input.specs.Heads.{HaveHeads}
use Rattle.mu_input.proofs.JobConfigs.{IsConfig-made}
use Rattle.mu_input.proofs.batches.job_of.Goals as goal

pub returns-clause-config : goal.returns-clause-config
returns-clause-config c =
    IsConfig-made c.args.settings c.args.commands c.in_ok-rows.rows c.requires.limits c.requires.session c.requires.few
    (subst (λ (commands : List Request). HaveHeads c.args.settings.width commands c.in_ok-rows.rows) c.as_slice.ensures c.in_ok-rows.ensures.heads)
