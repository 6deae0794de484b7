use Rattle.std.proofs.Common.{arith, refl, ◌+◌}
use Rattle.std.proofs.lemmas.Bool.{le-ltb, lt-ltb}
use Rattle.mu_lead.proofs.lead.Lead.note_in_round.Goals as goal

pub returns-then-saturating_add-self : goal.returns-then-saturating_add-self
returns-then-saturating_add-self c = λ now s.
    let few = s.config.replicas.1 in
    let next = c.saturating_add.ensures in
    let low = c.if-saturating_add-self.true in
    rw (lt-ltb (c.args.p + 1) c.args.self.now.config.replicas (omega (arith, next, low, few))) refl

pub returns-else-saturating_add-self : goal.returns-else-saturating_add-self
returns-else-saturating_add-self c = λ now s.
    let few = s.config.replicas.1 in
    let next = c.saturating_add.ensures in
    let high = c.if-saturating_add-self.false in
    rw (le-ltb (c.args.p + 1) c.args.self.now.config.replicas (omega (arith, next, high, few))) (c.note_of_round.ensures now s)
