use Rattle.std.proofs.Common.{subst, ℕ}
use Rattle.kv_store.specs.Commands.{Request}
use Rattle.lone_replica.specs.Standing.{StandsForReplica}
use Rattle.shared_replica.specs.Knowing.{with_command}
use Rattle.shared_replica.proofs.shared.SharedReplica.append.Goals as goal

pub returns-in-Ok-clause-appends : goal.returns-in-Ok-clause-appends
returns-in-Ok-clause-appends g c =
    let new = c.append.new.self in
    let stands = subst (λ (r : ℕ). StandsForReplica (with_command g.at.knows (record { client = c.command.inside.client; number = c.command.inside.number; op = c.command.inside.op })) r g.at.own new) c.requires.same c.in-Ok.ensures.appended in (
      c.in-Some.command,
      c.in-Some.ensures.words,
      c.in-Some.ensures.is,
      c.in-Ok.ensures.row,
      subst (λ (q : Request). StandsForReplica (with_command g.at.knows q) c.args.self.now.id g.at.own new) c.command.view_is stands,
    )
