use Rattle.std.proofs.Common.{refl}
use Rattle.mu_placing.proofs.RegionLooks.{look_made}
use Rattle.mu_placing.proofs.region_looks.look_after.Goals as goal

pub returns : goal.returns
returns c k p i mine is at told held =
    look_made k p i mine c.args.event.now c.args.held _ c.args.now c.args.is_good (rw (c.past_at_after.ensures, c.good_at_after.ensures) refl) is at told held
