use Rattle.std.proofs.Common.{◌∙◌, Some, ap, sym}
use Rattle.mu_model.proofs.Basics.{none_some}
use Rattle.mu_grant.proofs.Others.{guest_kept}
use Rattle.mu_grant.proofs.grants.take_at_guests.Goals as goal

pub returns-in-Some : goal.returns-in-Some
returns-in-Some c mine owner closing held = c.take_at.ensures (sym c.guest_of.ensures ∙ (c.in-Some.is ∙ ap Some (sym c.from.ensures))) mine owner closing held

pub returns-in-None : goal.returns-in-None
returns-in-None c mine owner closing held w guest there =
    let e = c.args.event.now in
    guest_kept c.args.r w e.by e.verb e.answer mine guest (λ q is same. none_some q (sym c.in-None.is ∙ (c.guest_of.ensures ∙ is))) (held w guest there)
