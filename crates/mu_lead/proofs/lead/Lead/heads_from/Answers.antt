use Rattle.mu_lead.proofs.Firsts.{found_place}
use Rattle.std.proofs.Common.{None, Some, refl, ℕ, ap, get_or, length, subst, sym, ◌+◌, ◌<◌, ◌||◌, ◌∙◌}
use Rattle.mu_lead.specs.declared.place.Place.{Place}
use Rattle.mu_lead.specs.Listing.{first_member}
use Rattle.mu_agree.proofs.Within.{known_few}
use Rattle.std.specs.Prelude.{nat_lt, not}
use Rattle.mu_model.specs.Contents.{marked}
use Rattle.mu_model.specs.Knowledge.{known}
use Rattle.mu_model.specs.Room.{reserve}
use Rattle.mu_knowledge.specs.Offers.{IsFirst}
use Rattle.mu_lead.proofs.lead.Lead.heads_from.Goals as goal

pub returns-in-Some : goal.returns-in-Some
returns-in-Some c = λ counts mine s same.
    let l = c.args.self.now in
    let few = known_few l.config l.id mine s.config s.possible in
    let test = λ (k : ℕ). not (marked l.config k (known l.config l.id mine) || nat_lt (length (known l.config l.id mine) + reserve l.config) (get_or l.heads k 0 + l.config.ring)) in
    let low = subst (λ values. IsFirst (λ k. not (marked l.config k values || nat_lt (length values + reserve l.config) (get_or l.heads k 0 + l.config.ring))) c.args.q l.config.replicas c.next_low.result) same (c.next_low.ensures counts s.config.replicas.1 (subst (λ values. length values < 65536) (sym same) few) s.tables.all_heads) in
    let looks = Place.Look (first_member l.config l.id mine) (length (known l.config l.id mine)) c.args.candidate None in
    found_place test c.args.q c.args.q l.config.replicas (Some c.in-Some.p) (λ k. Place.ReadHead k c.args.candidate) looks refl (subst (λ o. IsFirst test c.args.q l.config.replicas o) c.in-Some.is low)

pub returns-in-None : goal.returns-in-None
returns-in-None c = λ counts mine s same.
    let l = c.args.self.now in
    let few = known_few l.config l.id mine s.config s.possible in
    let test = λ (k : ℕ). not (marked l.config k (known l.config l.id mine) || nat_lt (length (known l.config l.id mine) + reserve l.config) (get_or l.heads k 0 + l.config.ring)) in
    let low = subst (λ values. IsFirst (λ k. not (marked l.config k values || nat_lt (length values + reserve l.config) (get_or l.heads k 0 + l.config.ring))) c.args.q l.config.replicas c.next_low.result) same (c.next_low.ensures counts s.config.replicas.1 (subst (λ values. length values < 65536) (sym same) few) s.tables.all_heads) in
    let looks = Place.Look (first_member l.config l.id mine) (length (known l.config l.id mine)) c.args.candidate None in
    ap (λ q. Place.Look q c.end_of.result c.args.candidate None) (c.first_member.ensures mine s)
    ∙ ap (λ i. Place.Look (first_member l.config l.id mine) i c.args.candidate None) (c.end_of.ensures (subst (λ values. length values < 65536) (sym same) few) ∙ ap length same)
    ∙ found_place test c.args.q c.args.q l.config.replicas None (λ k. Place.ReadHead k c.args.candidate) looks refl (subst (λ o. IsFirst test c.args.q l.config.replicas o) c.in-None.is low)
