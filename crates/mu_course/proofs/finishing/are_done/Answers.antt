use Rattle.std.proofs.Common.{◌≡◌, ◌<◌, ◌+◌, ◌==◌, ◌&&◌, ◌∙◌, Bool, ℕ, suc, ap, arith}
use Rattle.std.specs.Prelude.{◌||◌}
use Rattle.mu_model.specs.Ends.{is_at_least}
use Rattle.mu_model.specs.Histories.{all_below}
use Rattle.mu_model.specs.Scores.{is_failed}
use Rattle.mu_follow.specs.Published.{head_heard}
use Rattle.mu_course.proofs.finishing.are_done.Goals as goal

pub loop-q-preserved : goal.loop-q-preserved
loop-q-preserved c = λ k mine few scores heads.
    let q = c.loop-q.q in
    let r = c.args.r in
    let test : ℕ → Bool = λ p. (p == r) || (is_at_least c.args.full (head_heard r p mine) || is_failed r p mine) in
    let low : q < k.replicas = omega (arith, few, c.loop-q-test.true) in
    let next : suc q ≡ q + 1 = omega arith in
    c.are_both-all.ensures
    ∙ (ap (λ d. d && c.loop-q.all) (c.is_done-done.ensures k mine low scores heads)
    ∙ (ap (λ a. test q && a) (c.loop-q.invariant k mine few scores heads) ∙ ap (λ n. all_below n test) next))

pub returns : goal.returns
returns c = λ k mine few scores heads.
    let r = c.args.r in
    let test : ℕ → Bool = λ p. (p == r) || (is_at_least c.args.full (head_heard r p mine) || is_failed r p mine) in
    let done : c.loop-q.q ≡ c.args.n = omega (arith, c.loop-q-test.false, c.loop-q.auto.q-end) in
    c.loop-q.invariant k mine few scores heads ∙ ap (λ n. all_below n test) done
