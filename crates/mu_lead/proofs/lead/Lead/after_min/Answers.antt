use Rattle.mu_lead.specs.Listing.{noted_from, or_else}
use Rattle.mu_lead.specs.declared.place.Place.{Place}
use Rattle.std.proofs.Common.{ap, ◌∙◌}
use Rattle.mu_lead.proofs.lead.Lead.after_min.Goals as goal

pub returns-in-Some : goal.returns-in-Some
returns-in-Some c = λ now s region.
    let l = c.args.self.now in
    ap (λ o. or_else o Place.ReadMin (or_else (noted_from l.config l.id now 0) Place.EnterMin Place.Rest)) (c.in-Some.ensures now s region)

pub returns-in-None : goal.returns-in-None
returns-in-None c = λ now s region.
    let l = c.args.self.now in
    c.first_to_enter.ensures now s
    ∙ ap (λ o. or_else o Place.ReadMin (or_else (noted_from l.config l.id now 0) Place.EnterMin Place.Rest)) (c.in-None.ensures now s region)
