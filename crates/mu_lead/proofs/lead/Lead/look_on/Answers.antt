use Rattle.mu_lead.specs.declared.place.Place.{Place}
use Rattle.mu_lead.specs.Leading.{end_of}
use Rattle.mu_lead.specs.Listing.{or_else, pick}
use Rattle.std.proofs.Common.{ap, length, subst, sym, ℕ, ◌<◌, ◌∙◌}
use Rattle.mu_agree.proofs.Within.{known_few}
use Rattle.mu_lead.proofs.lead.Lead.look_on.Goals as goal

pub returns-in-Some : goal.returns-in-Some
returns-in-Some c = λ counts mine s same region candidates.
    let l = c.args.self.now in
    let few_known = known_few l.config l.id mine s.config s.possible in
    let look = λ (q : ℕ). Place.Look q (end_of l.config l.id mine) c.args.candidate c.args.best in
    let picked = pick l.config l.id mine l.written.items c.args.candidate c.args.best in
    ap (λ i. Place.Look c.in-Some.q i c.args.candidate c.args.best) (c.end_of.ensures (subst (λ values. length values < 65536) (sym same) few_known) ∙ ap length same)
    ∙ ap (λ o. or_else o look picked) (c.in-Some.ensures mine s region)

pub returns-in-None : goal.returns-in-None
returns-in-None c = λ counts mine s same region candidates.
    let l = c.args.self.now in
    let look = λ (q : ℕ). Place.Look q (end_of l.config l.id mine) c.args.candidate c.args.best in
    let picked = pick l.config l.id mine l.written.items c.args.candidate c.args.best in
    c.pick.ensures counts mine s same candidates
    ∙ ap (λ o. or_else o look picked) (c.in-None.ensures mine s region)
