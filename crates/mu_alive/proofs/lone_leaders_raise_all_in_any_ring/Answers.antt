use Rattle.mu_alive.proofs.Lagging.{raises_in_any_ring}
use Rattle.mu_alive.proofs.lone_leaders_raise_all_in_any_ring.Goals as goal

pub returns : goal.returns
returns c = raises_in_any_ring
