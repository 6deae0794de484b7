use Rattle.mu_agree.proofs.Readings.{part_fences_name_owner_law}
use Rattle.mu_agree.proofs.part_fences_name_owner.Goals as goal

pub returns : goal.returns
returns c = part_fences_name_owner_law
