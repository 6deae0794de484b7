use Rattle.mu_agree.proofs.Reserve.{known_leaves_room_law}
use Rattle.mu_agree.proofs.known_leaves_room.Goals as goal

pub returns : goal.returns
returns c = known_leaves_room_law
