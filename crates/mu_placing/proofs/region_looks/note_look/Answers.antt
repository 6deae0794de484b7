use Rattle.std.proofs.Common.{◌≡◌, sym, ap, ◌∙◌, get_or, inl, inr, arith, subst, ◌∷◌}
use Rattle.std.proofs.lemmas.Option.{slice_get-get_or}
use Rattle.mu_model.specs.declared.event.Answer.{Answer}
use Rattle.mu_model.specs.declared.event.Verb.{Verb}
use Rattle.mu_placing.specs.declared.region_looks.Look.{Look}
use Rattle.mu_placing.specs.Looks.{HoldsLook}
use Rattle.mu_placing.proofs.Tables.{look_is, looks_stay, looks_taken}
use Rattle.mu_model.specs.Placing.{has_looked_since}
use Rattle.mu_placing.proofs.region_looks.note_look.Goals as goal

pub returns-then-at-looks : goal.returns-then-at-looks
returns-then-at-looks c k mine at told held =
    let is : c.args.event.now.verb ≡ Verb.Look c.args.p c.from-at.result = c.in-Look.is ∙ ap (λ q. Verb.Look q c.in-Look.i) c.if-q-p.true ∙ ap (λ i. Verb.Look c.args.p i) (sym c.from-at.ensures) in
    let blank : Look = record { made_at = 0; seen = Answer.Done; past_at = 0; good_at = 0 } in
    let was_look : Look = get_or c.args.looks.now c.from-at.result blank in
    let own = c.if-event-r.true in
    let good = told c.from-at.result is c.if-at-looks.true in
    looks_taken k c.args.r c.args.p c.from-at.result mine c.args.event.now c.args.looks.now was_look c.look_after.result is (slice_get-get_or c.args.looks.now c.from-at.result blank c.if-at-looks.true)
    (λ was. subst (λ r. HoldsLook k r c.args.p c.from-at.result (c.args.event.now ∷ mine) c.look_after.result) own
    (c.look_after.ensures k c.args.p c.from-at.result mine is at (good ∙ ap (λ r. has_looked_since k r c.args.p c.from-at.result mine) (sym own)) (subst (λ r. HoldsLook k r c.args.p c.from-at.result mine was_look) (sym own) was)))
    held

pub returns-else-event-r : goal.returns-else-event-r
returns-else-event-r c k mine at told held = looks_stay k c.args.r c.args.p mine c.args.event.now c.args.looks.now (λ q j is own here. let same = look_is q c.in-Look.q j c.in-Look.i (sym is ∙ c.in-Look.is) in elim c.else-event-r.either [
  | inl far ↦ let low = far.2 in let from = c.from-at.ensures in let there = same.1 in omega (arith, low, from, there)
  | inr (inl other) ↦ absurd (other.1 (sym same.0 ∙ here))
  | inr (inr other) ↦ absurd (other own)
]) held

pub returns-in_default : goal.returns-in_default
returns-in_default c k mine at told held = looks_stay k c.args.r c.args.p mine c.args.event.now c.args.looks.now (λ q j is own here. absurd (c.in_default.not-Look q j is)) held
