use Rattle.std.proofs.Common.{sym, ◌∙◌}
use Rattle.mu_grant.proofs.Waiting.{found_iff}
use Rattle.mu_grant.proofs.grants.Grants.is_awaited.Goals as goal

pub returns : goal.returns
returns c config r mine held =
    let either = found_iff config.replicas r mine c.first_waiting.result (λ w is. c.first_waiting.ensures.found config.replicas r w mine held is) (c.first_waiting.ensures.nobody config.replicas r mine held) in
    (λ is. either.0 (sym c.is_some.ensures ∙ is), λ waits. c.is_some.ensures ∙ either.1 waits)
