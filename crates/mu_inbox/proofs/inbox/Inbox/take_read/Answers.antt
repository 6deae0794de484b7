use Rattle.std.proofs.Common.{arith}
use Rattle.mu_inbox.proofs.WordsRead.{last_word, reading_is}
use Rattle.mu_inbox.proofs.inbox.Inbox.take_read.Goals as goal

pub overflow_add-self : goal.overflow_add-self
overflow_add-self g c =
    let place = (reading_is g.mine c.args.self.now c.in-Some.reading c.requires.0 c.in-Some.is).place in
    let few = c.requires.0.room in
    omega (arith, place, few)

pub returns-else-next-lt-ROW_WORDS : goal.returns-else-next-lt-ROW_WORDS
returns-else-next-lt-ROW_WORDS g c =
    let more = c.if-next-lt-ROW_WORDS.false in
    last_word g.mine c.args.self.now c.args.verb c.in-Some.reading c.with_word-next.result c.args.word c.requires.0 c.requires.1.0 c.requires.1.1 c.in-Some.is c.with_word-next.ensures (omega (arith, more))
