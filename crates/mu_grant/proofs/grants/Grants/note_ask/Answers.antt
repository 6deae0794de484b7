use Rattle.std.proofs.Common.{◌∷◌, sym, ◌∙◌, subst}
use Rattle.mu_model.specs.declared.event.Answer.{Answer}
use Rattle.mu_model.specs.declared.event.Verb.{Verb}
use Rattle.mu_grant.specs.Stands.{StandsFor}
use Rattle.mu_grant.proofs.Events.{from_parts}
use Rattle.mu_grant.proofs.grants.Grants.note_ask.Goals as goal

pub returns : goal.returns
returns c n r mine event by is says held =
    subst (λ e. StandsFor n r (e ∷ mine) c.note.new.self) (from_parts event c.args.self.now.id (Verb.ReadAsk c.args.w) (Answer.Number c.args.count) (held.id ∙ sym by) (sym is) (sym says))
    (c.note.ensures n r mine (λ drains. cc) held)
