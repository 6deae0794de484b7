use Rattle.std.proofs.Common.{subst}
use Rattle.std.specs.declared.option.Option.{Option}
use Rattle.mu_inbox.specs.declared.access.Access.{Access}
use Rattle.mu_inbox.specs.Standing.{IsNext}
use Rattle.shared_replica.proofs.Bringing.{done_if_none}
use Rattle.shared_replica.proofs.shared.SharedReplica.list_access.Goals as goal

pub returns-clause-none : goal.returns-clause-none
returns-clause-none g c none =
    let new = c.next.new.self in
    done_if_none c.args.self.now.list new (subst (λ (a : Option Access). IsNext new new.due a) none c.next.ensures.is) c.next.ensures.same
