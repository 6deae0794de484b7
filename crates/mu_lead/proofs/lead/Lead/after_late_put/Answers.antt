use Rattle.mu_lead.specs.Leading.{end_of}
use Rattle.mu_lead.specs.Listing.{late_from}
use Rattle.std.proofs.Common.{ap, arith, get_or, length, ◌+◌, ◌∙◌, ◌≡◌}
use Rattle.std.proofs.lemmas.Bool.{le-ltb, lt-ltb}
use Rattle.mu_lead.proofs.lead.Lead.after_late_put.Goals as goal

pub returns-then-up_of-known : goal.returns-then-up_of-known
returns-then-up_of-known c = λ counts now s told region.
    let l = c.args.self.now in
    let up_is = c.up_of.ensures s.tables.ups in
    let less = c.if-up_of-known.true in
    let same = ap length told in
    rw (lt-ltb (get_or l.up c.args.p 0) (end_of l.config l.id now) (omega (arith, less, same, up_is))) (c.bring_up.ensures now s region)

pub returns-else-up_of-known : goal.returns-else-up_of-known
returns-else-up_of-known c = λ counts now s told region.
    let l = c.args.self.now in
    let few = s.config.replicas.1 in
    let more = c.saturating_add.ensures in
    let next : c.saturating_add.result ≡ c.args.p + 1 = omega (arith, more, region, few) in
    let up_is = c.up_of.ensures s.tables.ups in
    let high = c.if-up_of-known.false in
    let same = ap length told in
    rw (le-ltb (get_or l.up c.args.p 0) (end_of l.config l.id now) (omega (arith, high, same, up_is))) (c.late_from.ensures counts now s told ∙ ap (late_from l.config l.id now l.heads) next)
