use Rattle.mu_lead.proofs.Firsts.{joined_region, other_region}
use Rattle.mu_lead.specs.Lasting.{tables_of}
use Rattle.mu_lead.specs.Listing.{bring_up_from, late_from}
use Rattle.std.proofs.Common.{ap, arith, ◌+◌, ◌∙◌, ◌≡◌}
use Rattle.mu_lead.proofs.lead.Lead.after_region.Goals as goal

pub returns-in-Joined : goal.returns-in-Joined
returns-in-Joined c = λ counts now s told region.
    let l = c.args.self.now in
    let few = s.config.replicas.1 in
    let more = c.saturating_add-next.ensures in
    let next : c.saturating_add-next.result ≡ c.args.p + 1 = omega (arith, more, region, few) in
    c.late_from.ensures counts now s told ∙ ap (late_from l.config l.id now l.heads) next ∙ joined_region l.config l.id now (tables_of l) c.args.p c.args.then c.in-Joined.is

pub returns-in_default : goal.returns-in_default
returns-in_default c = λ counts now s told region.
    let l = c.args.self.now in
    let few = s.config.replicas.1 in
    let more = c.saturating_add-next.ensures in
    let next : c.saturating_add-next.result ≡ c.args.p + 1 = omega (arith, more, region, few) in
    c.bring_up_from.ensures counts now s told ∙ ap (λ q. bring_up_from l.config l.id now (tables_of l) q c.args.then) next ∙ other_region l.config l.id now (tables_of l) c.args.p c.args.then c.in_default.not-Joined
