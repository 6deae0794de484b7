use Rattle.mu_picture.proofs.OnePicture.{one_picture}
use Rattle.mu_picture.proofs.pages.pictures_are_one.Goals as goal

pub returns : goal.returns
returns c = one_picture
