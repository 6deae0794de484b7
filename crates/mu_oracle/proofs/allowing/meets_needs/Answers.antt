use Rattle.std.proofs.Common.{IsTrue, arith, rules, sym, true, ◌∙◌, ◌≡◌}
use Rattle.std.specs.Prelude.{nat_le}
use Rattle.std.proofs.lemmas.Bool.{leb-true}
use Rattle.mu_model.specs.Histories.{history}
use Rattle.mu_model.proofs.Putting.{head_applied, raise_facts, raise_points}
use Rattle.mu_oracle.proofs.allowing.meets_needs.Goals as goal
use Rattle.mu_oracle.proofs.allowing.meets_needs.Goals.{then-p-n-6, else-p-n-6, then-p-n-7, else-p-n-7}

pub returns-then-is_position-2 : goal.returns-then-is_position-2
returns-then-is_position-2 c = elim c.if-p-n-6.branch [
  | then-p-n-6 w ↦
      let low = w.if-p-n-6.true in
      let there : IsTrue w.is_position-then-p-n-6.result = search rules in
      rw c.in-PutSlot.is (λ h. (omega (arith, low), (w.is_position-then-p-n-6.ensures.0 there, c.may_put_slot.ensures.0 h)), λ m. c.may_put_slot.ensures.1 m.1.1)
  | else-p-n-6 w ↦ search rules
]

pub returns-then-from-known_length : goal.returns-then-from-known_length
returns-then-from-known_length c = elim c.if-p-n-7.branch [
  | then-p-n-7 w ↦
      let k = c.args.config.now in
      let r = c.args.r in
      let mine = history c.args.part.now in
      let low = w.if-p-n-7.true in
      let test : nat_le w.from.result w.known_length.result ≡ true = search rules in
      let few = leb-true w.from.result w.known_length.result test in
      let from = w.from.ensures in
      let count = w.known_length.ensures in
      rw c.in-RaiseFuo.is (λ h. raise_points k r mine c.in-RaiseFuo.p c.in-RaiseFuo.u (omega (arith, low)) (omega (arith, few, from, count)) (sym c.are_filled.ensures ∙ h), λ m. c.are_filled.ensures ∙ raise_facts k r mine c.in-RaiseFuo.p c.in-RaiseFuo.u m)
  | else-p-n-7 w ↦ search rules
]

pub returns-else-from-applied_length : goal.returns-else-from-applied_length
returns-else-from-applied_length c =
    let k = c.args.config.now in
    let r = c.args.r in
    let mine = history c.args.part.now in
    let over = c.if-from-applied_length.false in
    let from = c.from-in-RaiseHead.ensures in
    let count = c.applied_length.ensures in
    rw c.in-RaiseHead.is (λ h. search rules, λ m. let few = head_applied k r mine c.in-RaiseHead.h m in absurd (omega (arith, over, from, count, few)))
