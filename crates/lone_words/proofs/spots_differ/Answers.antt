use Rattle.lone_words.proofs.Spots.{spots_differ_law}
use Rattle.lone_words.proofs.spots_differ.Goals as goal

pub returns : goal.returns
returns c = spots_differ_law
