use Rattle.std.proofs.Common.{ap, arith, length, sym, ◌+◌, ◌∙◌, ◌≡◌}
use Rattle.std.proofs.lemmas.Bool.{le-ltb}
use Rattle.mu_lead.specs.Journal.{set_where}
use Rattle.mu_lead.specs.Leading.{end_of}
use Rattle.mu_model.specs.Leaderships.{is_member}
use Rattle.mu_lead.proofs.recording.write_put.Goals as goal

pub returns-then-commits : goal.returns-then-commits
returns-then-commits c = λ k r past now b v seven told grows held.
    let long = ap length told in
    let from = c.from.ensures in
    let above = c.if-from-known.false in
    let high = le-ltb c.args.i (end_of k r past) (omega (arith, from, long, above)) in
    let next = c.from-next.ensures in
    let one : c.from-next.result + 1 ≡ c.args.i + 1 = omega (arith, next) in
    rw (high, sym (grows high) ∙ c.if-commits.true) (c.set_members.ensures.is r _ seven held ∙ ap (λ n. set_where (λ q. is_member r q past) n 0 c.args.up.now) one)
