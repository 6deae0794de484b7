use Rattle.std.proofs.Common.{◌+◌, ◌-◌, ◌≡◌, ◌≤◌, ◌∙◌, ◌∷◌, ap, arith, drop, subst, sym}
use Rattle.std.specs.Prelude.{if◌then◌else◌}
use Rattle.std.specs.List.{slice_get}
use Rattle.mu_engine.specs.Live.{is_free}
use Rattle.mu_eras.specs.Turns.{count_free}
use Rattle.mu_eras.proofs.Places.{counted_few, drop_here}
use Rattle.mu_eras.proofs.counting.free_replicas.Goals as goal

pub loop-k-preserved : goal.loop-k-preserved
loop-k-preserved c =
    let n = c.config.result.now.replicas in
    let holds = c.args.engine.now.holds in
    let hold = c.hold_of.result in
    let place : c.config.result.now.replicas - 1 - c.loop-k.k ≡ c.config.result.now.replicas - (c.loop-k.k + 1) = omega (arith, c.loop-k-test.true) in
    let next : c.config.result.now.replicas - (c.loop-k.k + 1) + 1 ≡ c.config.result.now.replicas - c.loop-k.k = omega (arith, c.loop-k-test.true) in
    let here = drop_here (n - (c.loop-k.k + 1)) holds hold (ap (λ p. slice_get holds p) (sym place) ∙ c.hold_of.ensures) in
    record {
      few = subst (λ m. m ≤ c.loop-k.k + 1) (sym c.counted-free.ensures) (counted_few (is_free hold) c.loop-k.free c.loop-k.k c.loop-k.invariant.few);
      free =
          c.counted-free.ensures ∙ ap (λ m. if is_free hold then m + 1 else m) c.loop-k.invariant.free
          ∙ ap (λ m. count_free (hold ∷ drop m holds)) (sym next) ∙ sym (ap count_free here);
    }
