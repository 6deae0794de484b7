use Rattle.std.proofs.Common.{sym, ◌∙◌}
use Rattle.std.proofs.lemmas.Bool.{false≢true}
use Rattle.mu_regions.proofs.Range.{in_range}
use Rattle.mu_judge.proofs.judge.Judge.may_follow.Goals as goal

pub returns-then-is_allowed : goal.returns-then-is_allowed
returns-then-is_allowed c past held =
    let k = c.args.config.now in
    let allowed = (c.is_allowed.ensures past held.legal held.replicas).0 c.if-is_allowed.true in
    let told = c.answer-defined.ensures k past (in_range k c.args.event.now.by _ c.args.event.now.verb allowed) held.regions in
    (λ t. record { allowed = allowed; answer = c.is_same.ensures.0 t ∙ told }, λ f. c.is_same.ensures.1 (f.answer ∙ sym told))

pub returns-else-is_allowed : goal.returns-else-is_allowed
returns-else-is_allowed c past held = (
  λ t. absurd (false≢true t),
  λ f. absurd (false≢true (sym c.if-is_allowed.false ∙ (c.is_allowed.ensures past held.legal held.replicas).1 f.allowed)),
)
