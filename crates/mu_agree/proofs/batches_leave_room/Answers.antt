use Rattle.mu_agree.proofs.Reserve.{batches_leave_room_law}
use Rattle.mu_agree.proofs.batches_leave_room.Goals as goal

pub returns : goal.returns
returns c = batches_leave_room_law
