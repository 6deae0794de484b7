use Rattle.std.proofs.Common.{arith, refl}
use Rattle.mu_placing.proofs.filled_logs.Coverage.new.Goals as goal

pub returns : goal.returns
returns c r = record { id = refl; log = c.in_ok-new.ensures r c.args.id; caught = λ j low. absurd (omega arith); caught_next = refl }
