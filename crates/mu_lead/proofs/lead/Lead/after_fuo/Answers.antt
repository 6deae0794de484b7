use Rattle.std.proofs.Common.{Some, ap, ◌∙◌}
use Rattle.mu_lead.specs.declared.place.Place.{Place}
use Rattle.mu_lead.specs.Lasting.{tables_of}
use Rattle.mu_lead.specs.Listing.{farther, learn_from, or_else}
use Rattle.mu_lead.proofs.lead.Lead.after_fuo.Goals as goal

pub returns-in-Some : goal.returns-in-Some
returns-in-Some c = λ counts mine s same region.
    let l = c.args.self.now in
    let source = farther l.up c.args.source c.args.p in
    ap (λ k. Place.ReadFuo c.in-Some.q (Some k)) (c.farther-from.ensures s.tables.ups)
    ∙ ap (λ o. or_else o (λ q. Place.ReadFuo q (Some source)) (learn_from l.config l.id mine (tables_of l) source)) (c.in-Some.ensures mine s region)

pub returns-in-None : goal.returns-in-None
returns-in-None c = λ counts mine s same region.
    let l = c.args.self.now in
    let source = farther l.up c.args.source c.args.p in
    c.learn_from.ensures counts mine s same
    ∙ ap (learn_from l.config l.id mine (tables_of l)) (c.farther-from.ensures s.tables.ups)
    ∙ ap (λ o. or_else o (λ q. Place.ReadFuo q (Some source)) (learn_from l.config l.id mine (tables_of l) source)) (c.in-None.ensures mine s region)
