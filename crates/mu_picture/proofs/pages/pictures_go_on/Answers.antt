use Rattle.mu_picture.proofs.GoingOn.{goes_on}
use Rattle.mu_picture.proofs.pages.pictures_go_on.Goals as goal

pub returns : goal.returns
returns c = goes_on
