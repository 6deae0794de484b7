use Rattle.mu_lead.specs.Leading.{end_of}
use Rattle.mu_lead.specs.Listing.{late_from}
use Rattle.std.proofs.Common.{ap, arith, length, refl, ◌+◌, ◌∙◌, ◌≡◌}
use Rattle.std.proofs.lemmas.Bool.{le-ltb, lt-ltb}
use Rattle.mu_lead.proofs.lead.Lead.after_late_fuo.Goals as goal

pub returns-then-known-u : goal.returns-then-known-u
returns-then-known-u c = λ counts now s told region.
    let l = c.args.self.now in
    let few = s.config.replicas.1 in
    let more = c.saturating_add.ensures in
    let next : c.saturating_add.result ≡ c.args.p + 1 = omega (arith, more, region, few) in
    let less = c.if-known-u.true in
    let same = ap length told in
    rw (lt-ltb (end_of l.config l.id now) c.args.u (omega (arith, less, same))) (c.late_from.ensures counts now s told ∙ ap (late_from l.config l.id now l.heads) next)

pub returns-else-known-u : goal.returns-else-known-u
returns-else-known-u c = λ counts now s told region.
    let l = c.args.self.now in
    let high = c.if-known-u.false in
    let same = ap length told in
    rw (le-ltb (end_of l.config l.id now) c.args.u (omega (arith, high, same))) refl
