use Rattle.std.proofs.Common.{Some, ap, sym, ◌∙◌, ◌≢◌}
use Rattle.mu_model.specs.declared.event.Answer.{Answer}
use Rattle.mu_model.specs.declared.event.Fence.{Fence}
use Rattle.mu_grant.proofs.Waiting.{drain_was_due, grant_was_due, look_was_due}
use Rattle.mu_grant.proofs.grants.Grants.answered.Goals as goal

pub returns-then-may_look_target : goal.returns-then-may_look_target
returns-then-may_look_target c config r mine event held due says =
    let other : (f : Fence) → event.answer ≢ Answer.Seen f = λ f is. c.in_default.not-Seen f (sym says ∙ is) in
    ap Some (look_was_due config r mine event.verb event.answer due.answered other held.looked_first ((c.may_look_target.ensures config r mine held).0 c.if-may_look_target.true) due.allowed.may)

pub returns-then-may_drain : goal.returns-then-may_drain
returns-then-may_drain c config r mine event held due says =
    let other : (f : Fence) → event.answer ≢ Answer.Seen f = λ f is. c.in_default.not-Seen f (sym says ∙ is) in
    ap Some (drain_was_due config r mine event.verb event.answer due.answered other ((c.may_drain.ensures config r mine held).0 c.if-may_drain.true) due.allowed.may)

pub returns-else-may_drain : goal.returns-else-may_drain
returns-else-may_drain c config r mine event held due says =
    let other : (f : Fence) → event.answer ≢ Answer.Seen f = λ f is. c.in_default.not-Seen f (sym says ∙ is) in
    let grant = grant_was_due config r mine event.verb event.answer due.answered other
    (λ needs. sym ((c.may_look_target.ensures config r mine held).1 needs) ∙ c.if-may_look_target.false)
    (λ needs. sym ((c.may_drain.ensures config r mine held).1 needs) ∙ c.if-may_drain.false)
    due.allowed.may in
    c.granting.ensures.some grant.0 (c.next_owner.ensures.only config r grant.0 mine held grant.2) ∙ ap Some (sym grant.1)
