use Rattle.std.proofs.Common.{rules, ◌∙◌, sym, arith}
use Rattle.mu_placing.proofs.Noted.{nothing_noted, put_kept, put_noted}
use Rattle.mu_placing.proofs.landed_puts.note_landing.Goals as goal

pub returns-then-at-notes : goal.returns-then-at-notes
returns-then-at-notes c mine now held =
    put_noted c.args.r c.args.event.now mine c.args.notes.now c.in-Some.p c.in-Some.i c.in-Some.number c.in-Some.value c.slot_of-at.result _ (sym c.put_in.ensures ∙ c.in-Some.is) c.if-p-lt7.true c.slot_of-at.ensures c.if-at-notes.true now (search rules) (search rules) held

pub returns-else-p-lt7 : goal.returns-else-p-lt7
returns-else-p-lt7 c mine now held =
    put_kept c.args.r c.args.event.now mine c.args.notes.now c.in-Some.p c.in-Some.i c.in-Some.number c.in-Some.value (sym c.put_in.ensures ∙ c.in-Some.is) (λ small low. absurd (omega (arith, c.else-p-lt7.either, c.slot_of-at.ensures, small, low))) held

pub returns-in_default : goal.returns-in_default
returns-in_default c mine now held = nothing_noted c.args.r c.args.event.now mine c.args.notes.now (sym c.put_in.ensures ∙ c.in_default.is) held
