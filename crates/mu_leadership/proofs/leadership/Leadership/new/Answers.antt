use Rattle.std.proofs.Common.{refl}
use Rattle.mu_leadership.proofs.leadership.Leadership.new.Goals as goal

pub returns : goal.returns
returns c = record { replica = refl; begun = refl; asked = refl; over = refl; number = refl; read = refl; put = refl; notes = c.no_notes.ensures c.args.r }
