use Rattle.std.proofs.Common.{Bool, ℕ, suc, ◌+◌, ◌≡◌, sym, ◌∙◌, ap, subst, arith}
use Rattle.std.specs.Prelude.{not, ◌&&◌}
use Rattle.mu_model.specs.Histories.{all_below}
use Rattle.mu_replicas.proofs.replica.Replica.marks_nobody.Goals as goal
use Rattle.mu_replicas.proofs.replica.Replica.marks_nobody.Goals.{then-not-may_mark, else-not-may_mark}
use Rattle.mu_replicas.specs.Stands.{may_mark}

pub loop-q-preserved : goal.loop-q-preserved
loop-q-preserved c r mine held =
    let k = c.args.config.now in
    let q = c.loop-q.q in
    let test : ℕ → Bool = λ w. not (may_mark k w c.args.v c.args.limit r mine) in
    let was : c.loop-q.none ≡ all_below q test = c.loop-q.invariant r mine held in
    let here = sym (c.may_mark.ensures r mine (omega (arith, c.loop-q-test.true)) held) in
    let next : suc q ≡ q + 1 = omega arith in
    subst (λ n. c.if-not-may_mark.none ≡ all_below n test) next (elim c.if-not-may_mark.branch [
      | then-not-may_mark w ↦ w.none-is ∙ was ∙ sym (ap (λ t. not t && all_below q test) (here ∙ w.if-not-may_mark.true))
      | else-not-may_mark w ↦ w.none-is ∙ ap not w.if-not-may_mark.false ∙ sym (ap (λ t. not t && all_below q test) (here ∙ w.if-not-may_mark.false))
    ])
