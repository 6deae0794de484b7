use Rattle.std.proofs.Common.{refl, sym, ◌∙◌}
use Rattle.mu_lead.proofs.lead.Lead.after_fence_behind.Goals as goal

pub returns-then-is_over : goal.returns-then-is_over
returns-then-is_over c = λ now s. rw (sym (c.is_over.ensures c.args.self.now.id now s.leading) ∙ c.if-is_over.true) refl

pub returns-else-is_over : goal.returns-else-is_over
returns-else-is_over c = λ now s. rw (sym (c.is_over.ensures c.args.self.now.id now s.leading) ∙ c.if-is_over.false) refl
