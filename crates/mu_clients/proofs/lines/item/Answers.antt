use Rattle.std.proofs.Common.{sym, ◌∙◌}
use Rattle.mu_clients.proofs.LongLines.{got_long}
use Rattle.mu_clients.proofs.lines.item.Goals as goal

pub returns-in-Some-clause-is : goal.returns-in-Some-clause-is
returns-in-Some-clause-is c = sym (got_long c.args.replicas c.args.rows c.args.line.now c.in_ok-rest.field-0.now c.in-Some.field-0.now _ _ (rw c.in_ok-rest.was at c.split_word.ensures) (rw c.in-Some.is at c.split_word-2.ensures) (sym c.is_word.ensures ∙ c.if-is_word.true))
