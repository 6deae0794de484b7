use Rattle.std.proofs.Common.{sym, ◌∙◌}
use Rattle.mu_lead.proofs.Keeping.{leading_calm}
use Rattle.mu_lead.proofs.lead.tell.Goals as goal

pub returns-else-not-is_calm : goal.returns-else-not-is_calm
returns-else-not-is_calm c = λ k mine few possible held. leading_calm c.args.id c.args.id c.args.verb c.args.answer mine c.args.leading.now (sym c.is_calm.ensures ∙ c.if-not-is_calm.false) held
