use Rattle.mu_agree.proofs.Slots.{slot_numbers_rise_law}
use Rattle.mu_agree.proofs.slot_numbers_rise.Goals as goal

pub returns : goal.returns
returns c = slot_numbers_rise_law
