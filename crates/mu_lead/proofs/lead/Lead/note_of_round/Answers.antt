use Rattle.mu_lead.specs.declared.note.Note.{Note}
use Rattle.std.proofs.Common.{ap, sym, ◌∙◌}
use Rattle.mu_lead.proofs.lead.Lead.note_of_round.Goals as goal

pub returns-then-is_confirmed : goal.returns-then-is_confirmed
returns-then-is_confirmed c = λ now s. rw (sym (c.is_confirmed.ensures now s) ∙ c.if-is_confirmed.true) (ap Note.Confirmed (c.noted_bits-named.ensures c.args.self.now.id now s.leading))

pub returns-else-is_confirmed : goal.returns-else-is_confirmed
returns-else-is_confirmed c = λ now s. rw (sym (c.is_confirmed.ensures now s) ∙ c.if-is_confirmed.false) (ap Note.NotConfirmed (c.noted_bits-named.ensures c.args.self.now.id now s.leading))
