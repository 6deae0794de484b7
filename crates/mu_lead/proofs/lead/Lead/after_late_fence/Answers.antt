use Rattle.mu_lead.specs.Listing.{late_from}
use Rattle.std.proofs.Common.{ap, arith, is_some, refl, sym, ◌+◌, ◌∙◌, ◌≡◌}
use Rattle.mu_lead.proofs.lead.Lead.after_late_fence.Goals as goal

pub returns-then-is_some : goal.returns-then-is_some
returns-then-is_some c = λ counts now s told region.
    let few = s.config.replicas.1 in
    rw (sym (ap is_some (c.noted_grant.ensures c.args.self.now.id now (omega (arith, region, few)) s.leading)) ∙ sym c.is_some.ensures ∙ c.if-is_some.true) refl

pub returns-else-is_some : goal.returns-else-is_some
returns-else-is_some c = λ counts now s told region.
    let l = c.args.self.now in
    let few = s.config.replicas.1 in
    let more = c.saturating_add.ensures in
    let next : c.saturating_add.result ≡ c.args.p + 1 = omega (arith, more, region, few) in
    rw (sym (ap is_some (c.noted_grant.ensures l.id now (omega (arith, region, few)) s.leading)) ∙ sym c.is_some.ensures ∙ c.if-is_some.false) (c.late_from.ensures counts now s told ∙ ap (late_from l.config l.id now l.heads) next)
