use Rattle.std.proofs.Common.{List, subst}
use Rattle.kv_store.specs.Commands.{Request}
use Rattle.mu_input.specs.Heads.{HaveHeads}
use Rattle.mu_input.proofs.JobConfigs.{HasLimits-config, IsConfig-made}
use Rattle.mu_input.proofs.batches.with_commands.Goals as goal

pub returns-clause-config : goal.returns-clause-config
returns-clause-config c =
    let config = c.args.job.config in
    IsConfig-made (record { version = config.version; width = config.width; replicas = config.replicas; ring = config.ring; budget = config.budget })
    c.args.commands c.in_ok-rows.rows (HasLimits-config config c.requires.config) c.requires.session c.requires.few
    (subst (λ (commands : List Request). HaveHeads config.width commands c.in_ok-rows.rows) c.as_slice.ensures c.in_ok-rows.ensures.heads)
