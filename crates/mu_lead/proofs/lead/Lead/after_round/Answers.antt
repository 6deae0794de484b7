use Rattle.std.proofs.Common.{ap, arith, refl, sym, ◌∙◌}
use Rattle.std.proofs.lemmas.Bool.{le-ltb, lt-ltb}
use Rattle.mu_lead.specs.declared.place.Place.{Place}
use Rattle.mu_lead.proofs.lead.Lead.after_round.Goals as goal

pub returns-then-is_confirmed : goal.returns-then-is_confirmed
returns-then-is_confirmed c = λ now s. rw (sym (c.is_confirmed.ensures now s) ∙ c.if-is_confirmed.true) (c.first_to_read.ensures now s)

pub returns-then-round-lt15 : goal.returns-then-round-lt15
returns-then-round-lt15 c = λ now s. let next = c.saturating_add.ensures in let low = c.if-round-lt15.true in
    rw (sym (c.is_confirmed.ensures now s) ∙ c.if-is_confirmed.false, lt-ltb c.args.round 15 low) (ap (λ k. Place.Confirm k 0) (omega (arith, next, low)))

pub returns-else-round-lt15 : goal.returns-else-round-lt15
returns-else-round-lt15 c = λ now s. let high = c.if-round-lt15.false in
    rw (sym (c.is_confirmed.ensures now s) ∙ c.if-is_confirmed.false, le-ltb c.args.round 15 (omega (arith, high))) refl
