use Rattle.std.proofs.Common.{refl}
use Rattle.mu_lead.specs.Standing.{TellsFailed}
use Rattle.mu_node.proofs.Moving.{to_own}
use Rattle.mu_node.proofs.node.Node.is_astray.Goals as goal

pub asks_again-asks-requires : goal.asks_again-asks-requires
asks_again-asks-requires g c =
    let node = c.args.self.now in
    let held = c.requires in (
      held.lead.stands,
      to_own {mine = g.mine} (λ k r l. TellsFailed k r l c.failed_replicas.result) held.lead.config held.lead.id refl (c.failed_replicas.ensures node.follow.config node.id g.mine held.beside.watch),
    )
