use Rattle.mu_agree.proofs.Room.{places_are_kept_law}
use Rattle.mu_agree.proofs.places_are_kept.Goals as goal

pub returns : goal.returns
returns c = places_are_kept_law
