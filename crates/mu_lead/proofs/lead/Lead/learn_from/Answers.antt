use Rattle.std.proofs.Common.{get_or, refl, ap, arith, length}
use Rattle.std.proofs.lemmas.Bool.{le-ltb, lt-ltb}
use Rattle.mu_lead.specs.Leading.{end_of}
use Rattle.mu_lead.proofs.lead.Lead.learn_from.Goals as goal

pub returns-then-known-up_of : goal.returns-then-known-up_of
returns-then-known-up_of c = λ counts mine s same.
    let l = c.args.self.now in
    let up_is = c.up_of.ensures s.tables.ups in
    let long = ap length same in
    let more = c.if-known-up_of.true in
    rw (lt-ltb (end_of l.config l.id mine) (get_or l.up c.args.source 0) (omega (arith, up_is, long, more))) refl

pub returns-else-known-up_of : goal.returns-else-known-up_of
returns-else-known-up_of c = λ counts mine s same.
    let l = c.args.self.now in
    let up_is = c.up_of.ensures s.tables.ups in
    let long = ap length same in
    let less = c.if-known-up_of.false in
    rw (le-ltb (end_of l.config l.id mine) (get_or l.up c.args.source 0) (omega (arith, up_is, long, less))) (c.bring_up_from.ensures counts mine s same)
