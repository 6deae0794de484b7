use Rattle.std.proofs.Common.{◌≡◌, ◌∙◌, ◌+◌, ◌-◌, ◌<◌, ◌∷◌, Some, ap, arith, inl, inr, length, subst, sym}
use Rattle.std.specs.List.{slice_get}
use Rattle.mu_eras.specs.Applied.{IsKept}
use Rattle.mu_eras.specs.Eras.{IsReplyOver, IsReplyTo, submitted_over}
use Rattle.mu_eras.specs.Standing.{era_of}
use Rattle.mu_eras.proofs.Presents.{if_some}
use Rattle.mu_eras.proofs.Rows.{reply_over_rows, reply_stays_over}
use Rattle.mu_eras.proofs.succession.Succession.reply_to.Goals as goal

pub returns-then-row-self-clause-told : goal.returns-then-row-self-clause-told
returns-then-row-self-clause-told c past held =
    let e = c.args.self.now in
    let era = era_of e.present in
    let k = c.args.row - c.args.self.now.past in
    let count = held.count in
    let row_is : length (submitted_over past) + (c.args.row - c.args.self.now.past) ≡ c.args.row = omega (arith, count, c.if-row-self.true) in
    if_some c.told.result (IsReplyOver past era k) (IsReplyTo (era ∷ past) c.args.row)
    (λ reply is. subst (λ n. IsReplyTo (era ∷ past) n reply) row_is (reply_over_rows past era k reply is)) (c.told.ensures.told past held.present)

pub returns-clause-told : goal.returns-clause-told
returns-clause-told c past held =
    let e = c.args.self.now in
    let k = c.args.row - c.first_row-first.result in
    let last = held.last in
    let before = last.first in
    let first = c.first_row-first.ensures past held in
    let row_is : last.before + (c.args.row - c.first_row-first.result) ≡ c.args.row = omega (arith, before, first, c.if-row-first.false) in
    if_some c.told-2.result (λ reply. slice_get c.as_slice.result.now k ≡ Some (Some reply)) (IsReplyTo (era_of e.present ∷ past) c.args.row)
    (λ reply at.
    reply_stays_over past (era_of e.present) c.args.row reply
    (subst (λ n. IsReplyTo past n reply) row_is (last.told k reply (ap (λ l. slice_get l k) (sym c.as_slice.ensures.value) ∙ at))))
    c.told-2.ensures.some

pub returns-then-row-self-clause-untold : goal.returns-then-row-self-clause-untold
returns-then-row-self-clause-untold c past held none =
    let count = held.count in
    let row_is : c.args.row ≡ length (submitted_over past) + (c.args.row - c.args.self.now.past) = omega (arith, count, c.if-row-self.true) in
    inr (c.args.row - c.args.self.now.past, row_is, c.told.ensures.untold past held.present none)

pub returns-then-row-first-clause-untold : goal.returns-then-row-first-clause-untold
returns-then-row-first-clause-untold c past held none = let first = c.first_row-first.ensures past held in inl (omega (arith, first, c.if-row-first.true))

pub returns-clause-untold : goal.returns-clause-untold
returns-clause-untold c past held none =
    let k = c.args.row - c.first_row-first.result in
    let last = held.last in
    let before = last.first in
    let count = last.count in
    let all = held.count in
    let first = c.first_row-first.ensures past held in
    let low : c.args.row - c.first_row-first.result < length c.args.self.now.last.items = omega (arith, before, count, all, first, c.if-row-first.false, c.if-row-self.false) in
    absurd (c.told-2.ensures.none none (subst (λ l. IsKept l k) (sym c.as_slice.ensures.value) (last.all k low)))
