use Rattle.std.proofs.Common.{◌∙◌, rules, sym}
use Rattle.mu_replicas.proofs.replica.Replica.is_in_reach.Goals as goal

pub returns-else-config-ne2 : goal.returns-else-config-ne2
returns-else-config-ne2 c r mine low held =
    let within = c.is_within_ring-within.ensures c.args.config.now r mine low held.looks in (
      λ h two. sym within ∙ h,
      λ m. within ∙ m (search rules),
    )
