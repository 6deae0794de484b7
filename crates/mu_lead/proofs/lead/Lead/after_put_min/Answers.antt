use Rattle.mu_lead.specs.Listing.{first_member, or_else}
use Rattle.mu_lead.specs.declared.place.Place.{Place}
use Rattle.std.proofs.Common.{None, ap, ◌∙◌}
use Rattle.mu_lead.proofs.lead.Lead.after_put_min.Goals as goal

pub returns-in-Some : goal.returns-in-Some
returns-in-Some c = λ now s region.
    let l = c.args.self.now in
    ap (λ o. or_else o Place.EnterMin (Place.ReadFuo (first_member l.config l.id now) None)) (c.in-Some.ensures now s region)

pub returns-in-None : goal.returns-in-None
returns-in-None c = λ now s region.
    let l = c.args.self.now in
    ap (λ k. Place.ReadFuo k None) (c.first_member.ensures now s)
    ∙ ap (λ o. or_else o Place.EnterMin (Place.ReadFuo (first_member l.config l.id now) None)) (c.in-None.ensures now s region)
