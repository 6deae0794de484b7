use Rattle.mu_lead.specs.Leading.{end_of}
use Rattle.std.proofs.Common.{ap, arith, length}
use Rattle.std.proofs.lemmas.Bool.{le-ltb, lt-ltb}
use Rattle.mu_lead.proofs.lead.Lead.after_look.Goals as goal

pub returns-then-from-known : goal.returns-then-from-known
returns-then-from-known c = λ counts now s told region candidates.
    let l = c.args.self.now in
    let from = c.from.ensures in
    let long = ap length told in
    let more = c.if-from-known.true in
    rw (lt-ltb c.args.position (end_of l.config l.id now) (omega (arith, from, long, more))) (c.bring_up_from.ensures counts now s told)

pub returns-else-from-known : goal.returns-else-from-known
returns-else-from-known c = λ counts now s told region candidates.
    let l = c.args.self.now in
    let from = c.from.ensures in
    let long = ap length told in
    let none = c.if-from-known.false in
    rw (le-ltb c.args.position (end_of l.config l.id now) (omega (arith, from, long, none))) (c.look_on.ensures counts now s told region candidates)
