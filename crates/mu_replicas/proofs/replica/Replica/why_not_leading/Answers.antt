use Rattle.std.proofs.Common.{[], ◌++◌, ◌∷◌, ◌%◌, refl, sym, ◌∙◌, arith, inl, inr}
use Rattle.std.proofs.lemmas.Bool.{cases_lt}
use Rattle.mu_model.specs.declared.reason.Reason.{Reason}
use Rattle.mu_model.specs.Points.{bounds, last_position, puts}
use Rattle.mu_replicas.proofs.Points.{denies, elsewhere, low, tells}
use Rattle.mu_replicas.proofs.replica.Replica.why_not_leading.Goals as goal

pub returns : goal.returns
returns c r mine held start =
    let k = c.args.config.now in
    let few = c.requires.replicas.1 in
    let p = c.args.p in
    let i = c.args.i in
    let b = c.args.b in
    let front = bounds r mine ++ Reason.NoRegion p ∷ Reason.NoPosition i (last_position k) ∷ [] in
    let one = c.needs.ensures k r mine front start (λ m. c.is_in_reach-reach.ensures r mine (low _ _ m.1.1.0 few) held) in
    let two = c.needs-2.ensures k r mine (front ++ Reason.OutOfReach p i ∷ []) one (λ m. denies _ _ (c.is_over.ensures r mine held.leadership)) in
    let three = c.needs-3.ensures k r mine (front ++ Reason.OutOfReach p i ∷ Reason.Over ∷ []) two (λ m. tells _ _ (c.has_quorum.ensures k r mine refl (low _ _ m.0 few) held.leadership)) in
    let four = c.needs-4.ensures k r mine (front ++ Reason.OutOfReach p i ∷ Reason.Over ∷ Reason.NoQuorum ∷ []) three (λ m. tells _ _ (c.is_member.ensures r mine (low _ _ m.1.1.0 few) held.leadership)) in
    let own = c.number-own.ensures r mine held.leadership in
    let five = c.needs-5.ensures k r mine (front ++ Reason.OutOfReach p i ∷ Reason.Over ∷ Reason.NoQuorum ∷ Reason.NotMember p ∷ []) four (λ m. (λ t. sym own ∙ c.is_number-numbered.ensures.0 t, λ h. c.is_number-numbered.ensures.1 (own ∙ h))) in
    let six = c.needs-6.ensures k r mine (front ++ Reason.OutOfReach p i ∷ Reason.Over ∷ Reason.NoQuorum ∷ Reason.NotMember p ∷ Reason.OtherNumber b c.number-own.result ∷ []) five (λ m.
    let here = c.opened_target-entered.ensures r mine (low _ _ m.1.1.0 few) held.leadership in
    (λ t. sym here ∙ c.is_entered_for-open.ensures.0 t, λ h. c.is_entered_for-open.ensures.1 (here ∙ h))) in
    let seven = c.needs-7.ensures k r mine (front ++ Reason.OutOfReach p i ∷ Reason.Over ∷ Reason.NoQuorum ∷ Reason.NotMember p ∷ Reason.OtherNumber b c.number-own.result ∷ Reason.NotEntered p (i % k.ring) c.opened_target-entered.result ∷ []) six (λ m.
    tells _ _ (c.has_looked-looked.ensures k r (i % k.ring) mine (low _ _ m.1.1.0 few) c.requires m.1.1.1.0 held.looks m.1.1.1.1.1.1.1.1.1.0)) in
    elim (cases_lt p k.replicas) [
      | inl below ↦
          rw (sym own)
          (rw (sym (c.opened_target-entered.ensures r mine (low _ _ below few) held.leadership)) seven)
      | inr high ↦ elsewhere k r mine front
          (Reason.OutOfReach p i ∷ Reason.Over ∷ Reason.NoQuorum ∷ Reason.NotMember p ∷ Reason.OtherNumber b c.number-own.result ∷ Reason.NotEntered p (i % k.ring) c.opened_target-entered.result ∷ Reason.NotLooked p i ∷ [])
          (puts k r mine p i b) _ (λ m. let l = m.1.1.0 in absurd (omega (arith, l, high))) seven
    ]
