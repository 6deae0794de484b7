use Rattle.std.proofs.lemmas.Bool.{le-ltb, lt-ltb}
use Rattle.mu_lead.specs.declared.place.Place.{Place}
use Rattle.std.proofs.Common.{ap, arith, length, refl, sym, ◌+◌, ◌∙◌}
use Rattle.mu_model.specs.Contents.{row_count}
use Rattle.mu_model.specs.Room.{reserve}
use Rattle.mu_lead.specs.Leading.{end_of}
use Rattle.mu_lead.specs.Listing.{or_else}
use Rattle.mu_lead.proofs.Rests.{knows_is}
use Rattle.mu_lead.proofs.lead.Lead.next_position.Goals as goal

pub returns-in-Some : goal.returns-in-Some
returns-in-Some c = λ counts mine s same.
    let l = c.args.self.now in
    let all = knows_is l.config l.id mine c.args.known.now c.knows_all.result s.config s.possible same (c.knows_all.ensures c.args.known.now counts) in
    rw (sym all ∙ c.if-knows_all.true) (ap (λ o. or_else o Place.LateFence Place.Rest) (c.in-Some.ensures mine s))

pub returns-in-None : goal.returns-in-None
returns-in-None c = λ counts mine s same.
    let l = c.args.self.now in
    let all = knows_is l.config l.id mine c.args.known.now c.knows_all.result s.config s.possible same (c.knows_all.ensures c.args.known.now counts) in
    rw (sym all ∙ c.if-knows_all.true) (ap (λ o. or_else o Place.LateFence Place.Rest) (c.in-None.ensures mine s))

pub returns-then-known-count_of_places : goal.returns-then-known-count_of_places
returns-then-known-count_of_places c = λ counts mine s same.
    let l = c.args.self.now in
    let all = knows_is l.config l.id mine c.args.known.now c.knows_all.result s.config s.possible same (c.knows_all.ensures c.args.known.now counts) in
    let rows = s.config.few in
    let places = c.count_of_places.ensures (omega (arith, rows)) in
    let low = c.if-known-count_of_places.true in
    let long = ap length same in
    rw (sym all ∙ c.if-knows_all.false, lt-ltb (end_of l.config l.id mine) (row_count l.config + reserve l.config) (omega (arith, low, places, long))) (c.heads_from.ensures counts mine s same)

pub returns-else-known-count_of_places : goal.returns-else-known-count_of_places
returns-else-known-count_of_places c = λ counts mine s same.
    let l = c.args.self.now in
    let all = knows_is l.config l.id mine c.args.known.now c.knows_all.result s.config s.possible same (c.knows_all.ensures c.args.known.now counts) in
    let rows = s.config.few in
    let places = c.count_of_places.ensures (omega (arith, rows)) in
    let high = c.if-known-count_of_places.false in
    let long = ap length same in
    rw (sym all ∙ c.if-knows_all.false, le-ltb (end_of l.config l.id mine) (row_count l.config + reserve l.config) (omega (arith, high, places, long))) refl
