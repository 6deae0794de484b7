use Rattle.mu_lead.specs.Listing.{late_from, or_else}
use Rattle.mu_lead.specs.declared.place.Place.{Place}
use Rattle.std.proofs.Common.{ap, ◌∙◌}
use Rattle.mu_lead.proofs.lead.Lead.after_raise.Goals as goal

pub returns-in-Some : goal.returns-in-Some
returns-in-Some c = λ counts now s told region.
    let l = c.args.self.now in
    ap (λ o. or_else o Place.Raise (late_from l.config l.id now l.heads 0)) (c.in-Some.ensures now s region)

pub returns-in-None : goal.returns-in-None
returns-in-None c = λ counts now s told region.
    let l = c.args.self.now in
    c.late_from.ensures counts now s told
    ∙ ap (λ o. or_else o Place.Raise (late_from l.config l.id now l.heads 0)) (c.in-None.ensures now s region)
