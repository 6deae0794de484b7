use Rattle.mu_alive.proofs.Lagging.{applies_in_any_ring}
use Rattle.mu_alive.proofs.lone_leaders_apply_all_in_any_ring.Goals as goal

pub returns : goal.returns
returns c = applies_in_any_ring
