use Rattle.std.proofs.Common.{sym, ◌∙◌}
use Rattle.mu_placing.proofs.region_looks.RegionLooks.is_within_ring.Goals as goal

pub returns : goal.returns
returns c k r p mine held = c.reaches.ensures ∙ sym (held.reach c.args.i c.args.ring)
