use Rattle.mu_grant.proofs.Waiting.{found_is}
use Rattle.mu_grant.proofs.grants.Grants.next_owner.Goals as goal

pub returns-then-is_free-clause-found : goal.returns-then-is_free-clause-found
returns-then-is_free-clause-found c config r w mine held is =
    let first = c.first_waiting.ensures.found config.replicas r w mine held is in
    let free = (c.is_free.ensures config.replicas r mine held).0 c.if-is_free.true in
    (first.0, (free.0, (free.1, (first.1, tt))))

pub returns-then-is_free-clause-only : goal.returns-then-is_free-clause-only
returns-then-is_free-clause-only c config r w mine held needs =
    found_is config.replicas r w mine c.first_waiting.result (λ q is. c.first_waiting.ensures.found config.replicas r q mine held is) (c.first_waiting.ensures.nobody config.replicas r mine held) (needs.0, needs.1.1.1.0)
