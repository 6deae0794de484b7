use Rattle.std.proofs.Common.{◌+◌, arith, ap, refl}
use Rattle.std.proofs.lemmas.Bool.{le-ltb, lt-ltb}
use Rattle.mu_lead.specs.declared.place.Place.{Place}
use Rattle.mu_lead.proofs.lead.Lead.after_ask.Goals as goal

pub returns-then-next-self : goal.returns-then-next-self
returns-then-next-self c = λ few. let next = c.saturating_add-next.ensures in let low = c.if-next-self.true in rw (lt-ltb (c.args.p + 1) c.args.self.now.config.replicas (omega (arith, next, low, few))) (ap Place.Ask (omega (arith, next, low, few)))

pub returns-else-next-self : goal.returns-else-next-self
returns-else-next-self c = λ few. let next = c.saturating_add-next.ensures in let high = c.if-next-self.false in rw (le-ltb (c.args.p + 1) c.args.self.now.config.replicas (omega (arith, next, high, few))) refl
