use Rattle.mu_agree.proofs.Reserve.{part_heads_leave_room_law}
use Rattle.mu_agree.proofs.part_heads_leave_room.Goals as goal

pub returns : goal.returns
returns c = part_heads_leave_room_law
