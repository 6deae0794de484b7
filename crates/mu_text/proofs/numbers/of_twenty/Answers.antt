use Rattle.std.proofs.Common.{◌+◌, ◌*◌, arith}
use Rattle.mu_text.proofs.Wide.{both-fit, both-large}
use Rattle.mu_text.proofs.numbers.of_twenty.Goals as goal

pub returns-then-value-from : goal.returns-then-value-from
returns-then-value-from c =
    both-fit c.args.word.now c.in_ok-first.first c.in_ok-last.last _ c.requires c.in_ok-first.ensures.exact c.in_ok-last.ensures.exact
    (omega (arith, c.from.ensures, c.from-2.ensures)) (omega (arith, c.if-value-from.true, c.from-3.ensures))

pub returns-else-value-from : goal.returns-else-value-from
returns-else-value-from c =
    both-large c.args.word.now c.in_ok-first.first c.in_ok-last.last (c.from.result * 10 + c.from-2.result) c.requires c.in_ok-first.ensures.exact c.in_ok-last.ensures.exact
    (omega (arith, c.from.ensures, c.from-2.ensures)) (omega (arith, c.if-value-from.false, c.from-3.ensures))
