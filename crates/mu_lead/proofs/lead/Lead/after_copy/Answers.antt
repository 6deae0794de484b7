use Rattle.std.proofs.Common.{ap, arith, get_or, length, refl}
use Rattle.std.proofs.lemmas.Bool.{le-ltb, lt-ltb}
use Rattle.mu_lead.specs.Leading.{end_of}
use Rattle.mu_lead.proofs.lead.Lead.after_copy.Goals as goal

pub returns-then-up_of-known : goal.returns-then-up_of-known
returns-then-up_of-known c = λ mine s same region.
    let l = c.args.self.now in
    let up_is = c.up_of.ensures s.tables.ups in
    let long = ap length same in
    let more = c.if-up_of-known.true in
    rw (lt-ltb (get_or l.up c.args.p 0) (end_of l.config l.id mine) (omega (arith, up_is, long, more))) (c.bring_up.ensures mine s region)

pub returns-else-up_of-known : goal.returns-else-up_of-known
returns-else-up_of-known c = λ mine s same region.
    let l = c.args.self.now in
    let up_is = c.up_of.ensures s.tables.ups in
    let long = ap length same in
    let less = c.if-up_of-known.false in
    rw (le-ltb (get_or l.up c.args.p 0) (end_of l.config l.id mine) (omega (arith, up_is, long, less))) refl
