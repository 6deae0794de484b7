use Rattle.mu_lead.specs.Listing.{next_position, or_else}
use Rattle.mu_lead.specs.declared.place.Place.{Place}
use Rattle.std.proofs.Common.{ap, ◌∙◌}
use Rattle.mu_lead.proofs.lead.Lead.late_from.Goals as goal

pub returns-in-Some : goal.returns-in-Some
returns-in-Some c = λ counts now s same.
    let l = c.args.self.now in
    ap (λ o. or_else o Place.LateFence (next_position l.config l.id now l.heads)) (c.in-Some.ensures now s)

pub returns-in-None : goal.returns-in-None
returns-in-None c = λ counts now s same.
    let l = c.args.self.now in
    c.next_position.ensures counts now s same
    ∙ ap (λ o. or_else o Place.LateFence (next_position l.config l.id now l.heads)) (c.in-None.ensures now s)
