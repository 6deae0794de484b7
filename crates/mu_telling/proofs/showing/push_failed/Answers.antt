use Rattle.std.proofs.Common.{◌≡◌, ◌<◌, ◌++◌, ◌∙◌, ap, arith}
use Rattle.mu_model.specs.Scores.{is_failed}
use Rattle.mu_telling.specs.Shown.{failed_fact, given_below}
use Rattle.mu_telling.proofs.FactLists.{given_next}
use Rattle.mu_telling.proofs.showing.push_failed.Goals as goal

pub loop-other-preserved : goal.loop-other-preserved
loop-other-preserved c = λ mine s held is.
    let r = c.args.replica in
    let q = c.loop-other.other in
    let low : q < s.replicas = omega (arith, c.loop-other-test.true, is) in
    given_next c.args.facts.now.items c.loop-other.facts.items _ q (λ q. failed_fact r q (is_failed r q mine)) c.given_if.result
    (c.loop-other.invariant mine s held is) (c.in_ok-push_given.ensures) (c.given_if.ensures ∙ ap (failed_fact r q) (c.fails.ensures s r mine low held))

pub returns : goal.returns
returns c = λ mine s held is.
    let r = c.args.replica in
    let done : c.loop-other.other ≡ c.args.n = omega (arith, c.loop-other-test.false, c.loop-other.auto.other-end) in
    c.loop-other.invariant mine s held is ∙ ap (λ n. c.args.facts.now.items ++ given_below n (λ q. failed_fact r q (is_failed r q mine))) done
