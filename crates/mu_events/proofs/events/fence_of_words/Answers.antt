use Rattle.std.proofs.Common.{sym}
use Rattle.mu_events.proofs.EventWords.{fence_of-few}
use Rattle.mu_events.proofs.events.fence_of_words.Goals as goal

pub returns-in_default : goal.returns-in_default
returns-in_default c = sym (fence_of-few c.args.words.now c.in_default.len_below)
