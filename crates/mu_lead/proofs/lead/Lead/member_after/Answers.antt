use Rattle.mu_lead.specs.Listing.{member_from}
use Rattle.std.proofs.Common.{ap, arith, ◌+◌, ◌∙◌, ◌≡◌}
use Rattle.mu_lead.proofs.lead.Lead.member_after.Goals as goal

pub returns : goal.returns
returns c = λ now s region.
    let l = c.args.self.now in
    let few = s.config.replicas.1 in
    let more = c.saturating_add.ensures in
    let next : c.saturating_add.result ≡ c.args.p + 1 = omega (arith, more, region, few) in
    c.member_from.ensures now s ∙ ap (member_from l.config l.id now) next
