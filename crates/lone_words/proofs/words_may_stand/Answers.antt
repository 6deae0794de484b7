use Rattle.lone_words.proofs.Found.{found_possible, found_told}
use Rattle.lone_words.proofs.Right.{standing_law}
use Rattle.lone_words.proofs.words_may_stand.Goals as goal

pub returns-clause-stand : goal.returns-clause-stand
returns-clause-stand c = standing_law

pub returns-clause-told : goal.returns-clause-told
returns-clause-told c = found_told

pub returns-clause-possible : goal.returns-clause-possible
returns-clause-possible c = found_possible
