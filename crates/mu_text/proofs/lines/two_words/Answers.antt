use Rattle.mu_text.proofs.Cutting.{words-more}
use Rattle.mu_text.proofs.lines.two_words.Goals as goal

pub returns-in-Some : goal.returns-in-Some
returns-in-Some c = words-more c.args.line.now _ _ c.in_ok-rest.field-0.now c.in-Some.field-0.now (rw c.in_ok-rest.was at c.split_word.ensures) (rw c.in-Some.is at c.split_word-2.ensures)
