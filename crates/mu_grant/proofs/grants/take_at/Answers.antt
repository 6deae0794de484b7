use Rattle.std.proofs.Common.{◌∷◌, ◌∙◌, arith, get_or, inl, inr, subst, sym}
use Rattle.std.proofs.lemmas.Option.{slice_get-get_or, slice_get_within}
use Rattle.mu_model.proofs.Basics.{same_some}
use Rattle.mu_model.proofs.Lists.{set_get}
use Rattle.mu_grant.specs.Stands.{HoldsGuest}
use Rattle.mu_grant.proofs.Others.{guest_kept}
use Rattle.mu_grant.proofs.grants.take_at.Goals as goal

pub returns-then-w-guests : goal.returns-then-w-guests
returns-then-w-guests c named mine owner closing held q guest there =
    let r = c.args.r in
    let w = c.args.w in
    let e = c.args.event.now in
    let guests = c.args.guests.now in
    elim (set_get guests w c.after.result q guest there) [
      | inl here ↦
          let found = slice_get-get_or guests w _ (omega (arith, c.if-w-guests.true)) in
          let now = c.after.ensures mine (rw (sym owner, sym closing) c.is_serving.ensures) (held w (get_or guests w _) found) in
          subst (λ p. HoldsGuest r p (e ∷ mine) guest) (sym here.0) (subst (λ g. HoldsGuest r w (e ∷ mine) g) here.1 now)
      | inr other ↦ guest_kept r q e.by e.verb e.answer mine guest (λ p is same. other.0 (sym same ∙ same_some p w (sym is ∙ named))) (held q guest other.1)
    ]

pub returns-else-w-guests : goal.returns-else-w-guests
returns-else-w-guests c named mine owner closing held q guest there =
    let e = c.args.event.now in
    let low = slice_get_within c.args.guests.now q guest there in
    guest_kept c.args.r q e.by e.verb e.answer mine guest (λ p is same. absurd (omega (arith, low, c.if-w-guests.false, same, same_some p c.args.w (sym is ∙ named)))) (held q guest there)
