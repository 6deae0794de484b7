use Rattle.std.proofs.Common.{sym}
use Rattle.mu_clients.proofs.LongLines.{reply_long}
use Rattle.mu_clients.proofs.lines.reply.Goals as goal

pub returns-in-Some-more : goal.returns-in-Some-more
returns-in-Some-more c = sym (reply_long c.args.text.now c.in-Some.rest.now c.in-Some-more.field-0.now _ _ (rw c.in-Some.is at c.split_word.ensures) (rw c.in-Some-more.is at c.split_word-in-Some.ensures))
