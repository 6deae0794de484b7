use Rattle.std.proofs.Common.{sym, ◌∙◌}
use Rattle.mu_leadership.proofs.region_notes.entered_after.Goals as goal

pub returns-else-begins : goal.returns-else-begins
returns-else-begins c mine held = c.opened_after.ensures.leading (sym c.begins.ensures ∙ c.if-begins.false) mine held
