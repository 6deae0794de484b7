use Rattle.mu_words.proofs.Founds.{none_seen}
use Rattle.mu_words.proofs.found.Found.seen_word.Goals as goal

pub returns-in-None : goal.returns-in-None
returns-in-None c k r mine seen was low inside = none_seen k c.args.p c.args.target seen c.in-None.is
