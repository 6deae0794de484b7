use Rattle.mu_lead.specs.Saying.{is_working}
use Rattle.mu_lead.proofs.Rows.{working_is}
use Rattle.mu_lead.specs.declared.note.Note.{Note}
use Rattle.std.proofs.Common.{ap, inl, inr, refl, sym, true≢false, ◌∙◌}
use Rattle.std.specs.Prelude.{if◌then◌else◌}
use Rattle.mu_lead.proofs.lead.with_idle.Goals.{else-is_working-via-then-is_working+else-knows_all, else-is_working-via-else-is_working}
use Rattle.mu_lead.proofs.lead.with_idle.Goals as goal

pub returns-then-knows_all-clause-kind : goal.returns-then-knows_all-clause-kind
returns-then-knows_all-clause-kind c = inr (refl, working_is c.args.note (sym c.is_working.ensures ∙ c.if-is_working.true))

pub returns-else-is_working-clause-kind : goal.returns-else-is_working-clause-kind
returns-else-is_working-clause-kind c = inl refl

pub returns-then-knows_all-clause-all : goal.returns-then-knows_all-clause-all
returns-then-knows_all-clause-all c = λ values counts good session is. ap (λ x. if x then Note.Idle else Note.Working) (sym c.if-knows_all.true ∙ c.knows_all.ensures values counts good session)

pub returns-else-is_working-clause-all : goal.returns-else-is_working-clause-all
returns-else-is_working-clause-all c = λ values counts good session is. elim c.else-is_working.branch [
  | else-is_working-via-then-is_working+else-knows_all w ↦ is ∙ ap (λ x. if x then Note.Idle else Note.Working) (sym w.if-knows_all.false ∙ w.knows_all.ensures values counts good session)
  | else-is_working-via-else-is_working w ↦ absurd (true≢false (sym (c.is_working.ensures ∙ ap is_working is) ∙ w.if-is_working.false))
]
