use Rattle.std.proofs.Common.{arith}
use Rattle.mu_rows.proofs.Held.{held_in_whole}
use Rattle.mu_rows.proofs.read.only_text_in.Goals as goal

pub returns-clause-some : goal.returns-clause-some
returns-clause-some c = held_in_whole c.text_in.result 64 c.args.words.now 4 8 _ (omega (arith, c.told-words)) c.text_in.ensures.some
