use Rattle.std.proofs.Common.{◌≡◌, ◌∙◌, None, Some, ap, arith, inl, inr, subst, sym}
use Rattle.std.proofs.lemmas.Bool.{cases_lt}
use Rattle.std.proofs.lemmas.Option.{slice_get-get_or}
use Rattle.mu_model.specs.Histories.{history, part}
use Rattle.mu_model.proofs.Parts.{part_is_possible}
use Rattle.mu_engine.specs.Telling.{reply_told}
use Rattle.mu_engine.proofs.Asking.{told_by_node}
use Rattle.mu_engine.proofs.telling.first_reply.Goals as goal

pub returns-in-Some : goal.returns-in-Some
returns-in-Some c job events at seated =
    let seats = c.args.seats.now in
    let r = c.loop-seat.seat-index in
    let seat = c.seat-item.result in
    let count = seated.count in
    let found = slice_get-get_or seats r seat c.loop-seat-test.true ∙ ap (λ x. Some x) (sym c.seat-item.is) in
    let sits = seated.each r seat found in
    let told = c.reply_to.ensures job.config r (part r (history events)) job.commands at.config (part_is_possible job.config r (history events) at.legal) at.spelled sits.lives in
    (r, omega (arith, c.loop-seat-test.true, count), sym (told_by_node job events r c.args.row c.reply_to.result told) ∙ c.in-Some.is)

pub loop-seat-preserved : goal.loop-seat-preserved
loop-seat-preserved c job events at seated s low = elim (cases_lt s c.loop-seat.seat-index) [
  | inl below ↦ c.loop-seat.invariant job events at seated s below
  | inr above ↦
      let seats = c.args.seats.now in
      let r = c.loop-seat.seat-index in
      let here : r ≡ s = omega (arith, low, above) in
      let seat = c.seat-item.result in
      let found = slice_get-get_or seats r seat c.loop-seat-test.true ∙ ap (λ x. Some x) (sym c.seat-item.is) in
      let sits = seated.each r seat found in
      let told = c.reply_to.ensures job.config r (part r (history events)) job.commands at.config (part_is_possible job.config r (history events) at.legal) at.spelled sits.lives in
      subst (λ i. reply_told job events i c.args.row ≡ None) here (sym (told_by_node job events r c.args.row c.reply_to.result told) ∙ c.in_default.is)
]

pub returns : goal.returns
returns c job events at seated r low = c.loop-seat.invariant job events at seated r (let count = seated.count in let end = c.loop-seat-test.false in omega (arith, low, count, end))
