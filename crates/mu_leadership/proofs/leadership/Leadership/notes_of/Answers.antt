use Rattle.std.proofs.Common.{rules}
use Rattle.mu_leadership.specs.Leadership.{StandsForRegionNotes}
use Rattle.mu_model.proofs.Lists.{item_read}
use Rattle.mu_leadership.proofs.leadership.Leadership.notes_of.Goals as goal

pub returns-then-p-lt7 : goal.returns-then-p-lt7
returns-then-p-lt7 c r mine low held = item_read (λ p d. StandsForRegionNotes r p mine d) c.args.self.now.notes c.from.result c.args.p _ c.from.ensures (search rules) held.notes
