use Rattle.mu_input.proofs.ManyWords.{operation-few}
use Rattle.mu_input.proofs.operations.operation.Goals as goal

pub returns-in_default-clause-reading : goal.returns-in_default-clause-reading
returns-in_default-clause-reading c = operation-few c.args.words.now c.in_default.len_below
