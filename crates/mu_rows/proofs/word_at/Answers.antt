use Rattle.std.proofs.Common.{arith, sym}
use Rattle.mu_rows.proofs.Bytes.{word_of-bytes, word_of-past}
use Rattle.mu_rows.proofs.word_at.Goals as goal

pub returns : goal.returns
returns c = omega (arith, word_of-bytes c.args.bytes.now c.args.index)

pub returns-then-bytes-start : goal.returns-then-bytes-start
returns-then-bytes-start c = sym (word_of-past c.args.bytes.now c.args.index c.if-bytes-start.true)
