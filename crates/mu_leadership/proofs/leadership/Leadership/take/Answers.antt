use Rattle.std.proofs.Common.{rules}
use Rattle.mu_leadership.proofs.Kept.{leading_kept}
use Rattle.mu_leadership.proofs.leadership.Leadership.take.Goals as goal

pub returns-then-not-changes_leadership : goal.returns-then-not-changes_leadership
returns-then-not-changes_leadership c c' mine few possible held = leading_kept c.args.r c.args.event.now mine c.args.self.now (search rules) held
