use Rattle.mu_model.specs.Entering.{any_min_read, min_read, open_target}
use Rattle.mu_model.specs.Histories.{greatest, newest, or_zero}
use Rattle.mu_model.specs.Leaderships.{leadership, number_put, proposal_number}
use Rattle.std.proofs.Common.{inl, inr, arith, [], ◌++◌, ◌∷◌, ap, refl, sym, ◌∙◌}
use Rattle.std.proofs.lemmas.Bool.{cases_lt}
use Rattle.std.specs.Prelude.{max}
use Rattle.mu_model.specs.declared.reason.Reason.{Reason}
use Rattle.mu_model.specs.Points.{bounds, greatest_used, right_number}
use Rattle.mu_replicas.proofs.Points.{at_most_as, denies, low, elsewhere, number_told}
use Rattle.mu_replicas.proofs.replica.Replica.why_no_put_minimum.Goals as goal

pub returns : goal.returns
returns c r mine held start =
    let k = c.args.config.now in
    let few = c.requires.replicas.1 in
    let p = c.args.p in
    let b = c.args.b in
    let one = c.why_no_region.ensures r mine held start in
    let two = c.needs.ensures k r mine (bounds r mine ++ Reason.NoRegion p ∷ []) one (λ m. denies _ _ (c.is_over.ensures r mine held.leadership)) in
    let three = c.needs-2.ensures k r mine (bounds r mine ++ Reason.NoRegion p ∷ Reason.Over ∷ []) two (λ m.
    let here = c.entered_target-entered.ensures r mine (low _ _ m.1.1.0 few) held.leadership in
    (λ t. sym here ∙ c.is_entered_for-open.ensures.0 t, λ h. c.is_entered_for-open.ensures.1 (here ∙ h))) in
    let four = c.needs-3.ensures k r mine (bounds r mine ++ Reason.NoRegion p ∷ Reason.Over ∷ Reason.NotEnteredForMinimum p c.entered_target-entered.result ∷ []) three (λ m. at_most_as _ _ _ _ refl c.from-2.ensures) in
    let five = c.needs-4.ensures k r mine (bounds r mine ++ Reason.NoRegion p ∷ Reason.Over ∷ Reason.NotEnteredForMinimum p c.entered_target-entered.result ∷ Reason.BelowMinimum b c.minimum-minimum.result ∷ []) four (λ m. c.may_take_number.ensures r mine held.leadership) in
    let right = number_told r mine _ _ _ _ _ _ (c.number-own.ensures r mine held.leadership) (c.greatest_minimum-read.ensures r mine held.leadership) (c.greatest_number-put.ensures r mine held.leadership) held.replica (c.max.ensures ∙ ap (λ n. max c.greatest_minimum-read.result n) c.from.ensures) c.right_number-right.ensures in
    elim (cases_lt p k.replicas) [
      | inl below ↦
          rw (sym right)
          (rw (sym (c.entered_target-entered.ensures r mine (low _ _ below few) held.leadership))
          (rw (sym (c.minimum-minimum.ensures r mine (low _ _ below few) held.leadership))
          (rw (sym (c.number-own.ensures r mine held.leadership))
          (rw (sym (c.greatest_minimum-read.ensures r mine held.leadership))
          (rw (sym (c.greatest_number-put.ensures r mine held.leadership)) five)))))
      | inr high ↦ elsewhere k r mine (bounds r mine ++ Reason.NoRegion p ∷ [])
          (Reason.Over ∷ Reason.NotEnteredForMinimum p c.entered_target-entered.result ∷ Reason.BelowMinimum b c.minimum-minimum.result ∷ Reason.NotTheNumber b c.number-own.result c.greatest_minimum-read.result c.greatest_number-put.result c.right_number-right.result ∷ [])
          (Reason.Over ∷ Reason.NotEnteredForMinimum p (open_target r p mine) ∷ Reason.BelowMinimum b (or_zero (newest (λ e. min_read r p e.by e.verb e.answer) mine)) ∷ Reason.NotTheNumber b (proposal_number r mine) (greatest (λ e. any_min_read r e.by e.verb e.answer) (leadership r mine)) (greatest (λ e. number_put r e.by e.verb) mine) (right_number r (greatest_used r mine) (proposal_number r mine)) ∷ [])
          _ (λ m. let l = m.1.1.0 in absurd (omega (arith, l, high))) five
    ]
