use Rattle.std.proofs.Common.{arith}
use Rattle.mu_rows.proofs.Held.{clear-none, none-clear}
use Rattle.mu_rows.proofs.read.has_no_text.Goals as goal

pub returns : goal.returns
returns c = (
  λ told. (omega (arith, c.if-words-ne0.false), omega (arith, c.if-words-ne0-2.false), clear-none c.args.words.now (omega (arith, c.told-words)) (c.are_clear.ensures.0 told)),
  λ facts. c.are_clear.ensures.1 (none-clear c.args.words.now (omega (arith, c.told-words)) facts.2),
)
