use Rattle.std.proofs.Common.{◌≡◌, ◌∙◌, ◌==◌, Bool, ap, arith, cond, refl, sym, false, true, ℕ, Some, None}
use Rattle.std.specs.Prelude.{nat_le, ◌||◌}
use Rattle.std.proofs.lemmas.Bool.{le-leb}
use Rattle.mu_model.specs.Ends.{full_length, is_at_least, is_full}
use Rattle.mu_model.specs.Histories.{all_below}
use Rattle.mu_model.specs.Knowledge.{applied}
use Rattle.mu_model.specs.Regions.{region_head}
use Rattle.mu_model.specs.Scores.{is_failed}
use Rattle.mu_model.proofs.Basics.{none_some, same_some}
use Rattle.mu_follow.specs.Published.{head_heard}
use Rattle.mu_course.proofs.finishing.is_finished.Goals as goal

some_of : (t : Bool) (x y : ℕ) → cond t (Some x) None ≡ Some y → (t ≡ true) × (x ≡ y)
some_of true x y is = (refl, same_some x y is)
some_of false x y is = absurd (none_some y is)

pub returns-then-full-from : goal.returns-then-full-from
returns-then-full-from c k mine few scores heads held =
    let r = c.args.r in
    let some = some_of (is_full k r mine) (full_length k r mine) c.in-Some.full (sym (c.full_count.ensures k (applied k r mine) held) ∙ c.in-Some.is) in
    let own = c.own_head.ensures r mine heads in
    let low : nat_le (full_length k r mine) (region_head r mine) ≡ true = le-leb (full_length k r mine) (region_head r mine) (omega (arith, own, some.1, c.from.ensures, c.if-full-from.true)) in
    c.are_done.ensures k mine few scores heads
    ∙ (ap (λ n. all_below n (λ q. (q == r) || (is_at_least c.in-Some.full (head_heard r q mine) || is_failed r q mine))) few
    ∙ (ap (λ m. all_below k.replicas (λ q. (q == r) || (is_at_least m (head_heard r q mine) || is_failed r q mine))) (sym some.1) ∙ sym (rw (some.0, low) refl)))
