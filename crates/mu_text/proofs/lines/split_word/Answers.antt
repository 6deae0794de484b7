use Rattle.std.proofs.Common.{sym}
use Rattle.mu_text.proofs.Cutting.{words-first, words-none}
use Rattle.mu_text.proofs.lines.split_word.Goals as goal

pub returns-in-Some : goal.returns-in-Some
returns-in-Some c = words-first c.args.line.now c.in-Some.end (sym c.in-Some.ensures)

pub returns-in-None : goal.returns-in-None
returns-in-None c = words-none c.args.line.now (sym c.in-None.ensures)
