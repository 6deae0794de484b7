use Rattle.std.proofs.Common.{arith}
use Rattle.std.proofs.lemmas.Grind.{common_steps}
use Rattle.mu_input.proofs.BulkCommands.{bulk_commands-more}
use Rattle.mu_input.proofs.bulk_jobs.bulk_commands.Goals as goal

pub loop-index-preserved : goal.loop-index-preserved
loop-index-preserved c = let more = bulk_commands-more c.loop-index.index in grind (arith, common_steps, more)
