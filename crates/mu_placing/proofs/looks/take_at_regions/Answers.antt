use Rattle.std.proofs.Common.{sym, ◌∙◌}
use Rattle.mu_placing.proofs.looks.take_at_regions.Goals as goal

pub returns-in-Some : goal.returns-in-Some
returns-in-Some c k mine ring at held = c.take_at.ensures (sym c.region_of_step.ensures ∙ c.in-Some.is) k mine ring at held
