use Rattle.std.proofs.Common.{◌≡◌, ◌<◌, ◌++◌, ◌∙◌, ap, arith}
use Rattle.mu_model.specs.Leaderships.{is_member}
use Rattle.mu_telling.specs.Shown.{given_below, member_fact}
use Rattle.mu_telling.proofs.FactLists.{given_next}
use Rattle.mu_telling.proofs.showing.push_members.Goals as goal

pub loop-region-preserved : goal.loop-region-preserved
loop-region-preserved c = λ mine s held.
    let r = c.args.replica in
    let p = c.loop-region.region in
    let low : p < 7 = omega (arith, c.loop-region-test.true, c.requires) in
    given_next c.args.facts.now.items c.loop-region.facts.items _ p (λ p. member_fact r p (is_member r p mine)) c.given_if.result
    (c.loop-region.invariant mine s held) (c.in_ok-push_given.ensures) (c.given_if.ensures ∙ ap (member_fact r p) (c.is_member.ensures s r mine low held))

pub returns : goal.returns
returns c = λ mine s held.
    let r = c.args.replica in
    let done : c.loop-region.region ≡ c.args.n = omega (arith, c.loop-region-test.false, c.loop-region.auto.region-end) in
    c.loop-region.invariant mine s held ∙ ap (λ n. c.args.facts.now.items ++ given_below n (λ p. member_fact r p (is_member r p mine))) done
