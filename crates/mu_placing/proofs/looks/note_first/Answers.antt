use Rattle.std.proofs.Common.{◌≡◌, ◌+◌, length, cond, sym, ap, ◌∙◌, inl, inr, arith, get_or, refl}
use Rattle.std.specs.Prelude.{nat_lt}
use Rattle.std.proofs.lemmas.Option.{slice_get-get_or}
use Rattle.mu_model.specs.declared.event.Verb.{Verb}
use Rattle.mu_placing.specs.declared.looks.First.{First}
use Rattle.mu_placing.specs.Looks.{begun_time}
use Rattle.mu_placing.proofs.Tables.{firsts_put, firsts_stay, first_after_put, put_is}
use Rattle.mu_placing.proofs.looks.note_first.Goals as goal

pub returns-then-at-firsts : goal.returns-then-at-firsts
returns-then-at-firsts c mine at begun held =
    let j = c.in-PutSlot.i in
    let there : c.from-at.result ≡ j = c.from-at.ensures in
    let blank : First = record { put_at = 0; value = 0 } in
    let was_first : First = get_or c.args.firsts.now c.from-at.result blank in
    let is : c.args.event.now.verb ≡ Verb.PutSlot c.in-PutSlot.field-0 c.from-at.result c.in-PutSlot.field-2 c.in-PutSlot.value = c.in-PutSlot.is ∙ ap (λ i. Verb.PutSlot c.in-PutSlot.field-0 i c.in-PutSlot.field-2 c.in-PutSlot.value) (sym there) in
    let new : c.first_after.result ≡ cond (nat_lt (begun_time c.args.r mine) was_first.put_at) was_first (record { put_at = length mine + 1; value = c.in-PutSlot.value }) = c.first_after.ensures ∙ rw (begun, at) refl in
    firsts_put c.args.r c.in-PutSlot.field-0 c.from-at.result c.in-PutSlot.field-2 c.in-PutSlot.value mine c.args.event.now c.args.firsts.now was_first c.first_after.result is (slice_get-get_or c.args.firsts.now c.from-at.result blank c.if-at-firsts.true)
    (first_after_put c.args.r c.in-PutSlot.field-0 c.from-at.result c.in-PutSlot.field-2 c.in-PutSlot.value mine c.args.event.now was_first c.first_after.result c.if-event-r.true is new) held

pub returns-else-event-r : goal.returns-else-event-r
returns-else-event-r c mine at begun held = firsts_stay c.args.r mine c.args.event.now c.args.firsts.now (λ q j b v is own. let same = put_is q j b v c.in-PutSlot.field-0 c.in-PutSlot.i c.in-PutSlot.field-2 c.in-PutSlot.value (sym is ∙ c.in-PutSlot.is) in elim c.else-event-r.either [
  | inl far ↦ let low = far.1 in let from = c.from-at.ensures in omega (arith, low, from, same)
  | inr other ↦ absurd (other own)
]) held

pub returns-in_default : goal.returns-in_default
returns-in_default c mine at begun held = firsts_stay c.args.r mine c.args.event.now c.args.firsts.now (λ q j b v is own. absurd (c.in_default.not-PutSlot q j b v is)) held
