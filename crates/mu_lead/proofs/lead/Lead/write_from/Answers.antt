use Rattle.mu_lead.proofs.Firsts.{found_place}
use Rattle.mu_lead.specs.declared.place.Place.{Place}
use Rattle.std.proofs.Common.{Some, ◌∙◌, None, get_or, refl, ◌+◌}
use Rattle.std.specs.Prelude.{nat_lt}
use Rattle.mu_lead.specs.Listing.{first_member}
use Rattle.mu_lead.proofs.lead.Lead.write_from.Goals as goal

pub returns-in-Some : goal.returns-in-Some
returns-in-Some c = λ mine s low.
    let l = c.args.self.now in
    found_place (λ j. nat_lt (get_or l.written.items j 12) 12) c.args.first c.args.first (c.args.last + 1) (Some c.in-Some.j) (λ j. Place.Write j c.args.last c.args.offer) (Place.Enter (first_member l.config l.id mine) c.args.offer) refl (c.in-Some.ensures low)

pub returns-in-None : goal.returns-in-None
returns-in-None c = λ mine s low.
    let l = c.args.self.now in
    c.offer.ensures mine s
    ∙ found_place (λ j. nat_lt (get_or l.written.items j 12) 12) c.args.first c.args.first (c.args.last + 1) None (λ j. Place.Write j c.args.last c.args.offer) (Place.Enter (first_member l.config l.id mine) c.args.offer) refl (c.in-None.ensures low)
