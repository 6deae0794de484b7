use Rattle.mu_lead.specs.declared.place.Place.{Place}
use Rattle.std.proofs.Common.{ap, sym, ◌∙◌, ℕ, false, None, arith, subst, ◌+◌, ◌≡◌, ◌*◌}
use Rattle.mu_lead.specs.Listing.{first_member, pick as listed_pick}
use Rattle.mu_lead.specs.Stepping.{IsRegion}
use Rattle.mu_lead.proofs.lead.Lead.pick.Goals as goal

pub returns-in-Some : goal.returns-in-Some
returns-in-Some c = λ counts mine s same candidates. let l = c.args.self.now in c.offer.ensures mine s ∙ ap (listed_pick l.config l.id mine l.written.items c.args.candidate) (sym c.in-Some.is)

pub returns-in-Some-candidate : goal.returns-in-Some-candidate
returns-in-Some-candidate c = λ counts mine s same candidates.
    let l = c.args.self.now in
    let q = c.in-Some-candidate.q in
    let few = s.config.replicas.1 in
    let inside = s.inside in
    let region = subst (IsRegion l.config) c.in-Some-candidate.is candidates in
    let from = c.from.ensures in
    let value = c.own_value.ensures (omega (arith, inside, few)) (omega (arith, from, region, few)) in
    let v : c.own_value.result ≡ l.id * 4096 + (4080 + q) = omega (arith, value, from, region, few) in
    c.offer-in-Some-candidate.ensures mine s
    ∙ ap (λ (n : ℕ). Place.Enter (first_member l.config l.id mine) (record { value = n; adopted = false })) v
    ∙ ap (λ o. listed_pick l.config l.id mine l.written.items o None) (sym c.in-Some-candidate.is)
    ∙ ap (listed_pick l.config l.id mine l.written.items c.args.candidate) (sym c.in-None.is)

pub returns-in-None-candidate : goal.returns-in-None-candidate
returns-in-None-candidate c = λ counts mine s same candidates.
    let l = c.args.self.now in
    c.offer_own.ensures counts mine s same
    ∙ ap (λ o. listed_pick l.config l.id mine l.written.items o None) (sym c.in-None-candidate.is)
    ∙ ap (listed_pick l.config l.id mine l.written.items c.args.candidate) (sym c.in-None.is)
