use Rattle.std.proofs.Common.{rules, sym}
use Rattle.mu_text.proofs.Cutting.{lines-first, lines-last}
use Rattle.mu_text.proofs.lines.next_line.Goals as goal

pub returns-in-Some-clause-lines : goal.returns-in-Some-clause-lines
returns-in-Some-clause-lines c = lines-first c.args.bytes.now c.in-Some.end (sym c.in-Some.ensures)

pub returns-in-None-clause-lines : goal.returns-in-None-clause-lines
returns-in-None-clause-lines c = lines-last c.args.bytes.now (sym c.in-None.ensures) (search rules)
