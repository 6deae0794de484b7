use Rattle.mu_agree.proofs.Room.{looks_are_kept_law}
use Rattle.mu_agree.proofs.looks_are_kept.Goals as goal

pub returns : goal.returns
returns c = looks_are_kept_law
