use Rattle.std.proofs.Common.{arith, refl}
use Rattle.std.proofs.lemmas.Bool.{le-ltb, lt-ltb}
use Rattle.mu_lead.proofs.lead.Lead.after_late_min.Goals as goal

pub returns-then-from-min : goal.returns-then-from-min
returns-then-from-min c = let more = c.if-from-min.true in rw (lt-ltb c.args.self.now.number c.args.min (omega (arith, more))) refl

pub returns-else-from-min : goal.returns-else-from-min
returns-else-from-min c = let low = c.if-from-min.false in rw (le-ltb c.args.self.now.number c.args.min (omega (arith, low))) refl
