use Rattle.std.proofs.Common.{sym, subst, ◌∷◌, ◌∙◌, ◌≡◌}
use Rattle.mu_model.specs.Allowed.{Needs}
use Rattle.mu_grant.specs.Stands.{StandsFor}
use Rattle.mu_grant.proofs.Events.{from_parts}
use Rattle.mu_grant.proofs.grants.Grants.take.Goals as goal
use Rattle.mu_model.proofs.Basics.{same_some}

pub returns-in-Some : goal.returns-in-Some
returns-in-Some c config r mine event due says held =
    let verb : c.in-Some.verb ≡ event.verb = same_some c.in-Some.verb event.verb (sym c.in-Some.is ∙ c.answered.ensures config r mine event held due says) in
    let same = from_parts event c.args.self.now.id c.in-Some.verb c.args.answer (held.id ∙ sym due.by_own) verb (sym says) in
    subst (λ e. StandsFor config.replicas r (e ∷ mine) c.note.new.self) same
    (c.note.ensures config.replicas r mine (λ drains. (subst (λ v. Needs config r mine v) (sym verb ∙ drains) due.allowed.may).1.0) held)

pub returns-in_default : goal.returns-in_default
returns-in_default c config r mine event due says held = absurd (c.in_default.not-Some event.verb (c.answered.ensures config r mine event held due says))
