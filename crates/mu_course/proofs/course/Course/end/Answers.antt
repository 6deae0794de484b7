use Rattle.std.proofs.Common.{◌≡◌, ◌∙◌, ◌==◌, ap, sym, subst, length}
use Rattle.mu_model.specs.Ends.{stops_at}
use Rattle.mu_course.specs.SoFar.{IsSoFar}
use Rattle.mu_course.proofs.Ending.{so_far_is}
use Rattle.mu_course.proofs.course.Course.end.Goals as goal

pub returns : goal.returns
returns c = λ r mine stands.
    let k = c.args.config.now in
    let script = c.args.script.now in
    let state = c.args.self.now.replica in
    let stopped : stops_at r (length mine) script.stops ≡ c.stops_at-stopped.result =
    ap (λ s. stops_at r (length mine) s) (sym c.as_slice.ensures)
    ∙ (ap (λ q. stops_at q (length mine) c.as_slice.result.now) (sym stands.replica.replica)
    ∙ (ap (λ n. stops_at state.replica n c.as_slice.result.now) (sym stands.replica.steps) ∙ sym c.stops_at-stopped.ensures)) in
    let spent : (length mine == k.budget) ≡ (state.steps == k.budget) = ap (λ n. n == k.budget) (sym stands.replica.steps) in
    subst (λ e. IsSoFar k script r mine e) (sym c.first_end.ensures)
    (so_far_is k script r mine _ _ _ _ stopped spent (sym stands.outrun) (sym (c.is_finished-finished.ensures r mine stands)))
