use Rattle.mu_top.proofs.Completed.{replay_of}
use Rattle.std.proofs.Common.{◌≡◌, refl, subst, sym}
use Rattle.mu_input.specs.Batches.{rows_of}
use Rattle.mu_input.specs.declared.job.Job.{Job}
use Rattle.mu_top.proofs.summing.stated.Goals as goal

pub returns-clause-replay : goal.returns-clause-replay
returns-clause-replay c =
    replay_of c.in_ok-replay.field-0 c.in_ok-job.job c.in_ok-replay.ensures.job c.in_ok-job.ensures.config c.in_ok-job.ensures.heads c.in_ok-replay.ensures.run c.in_ok-replay.ensures.diligent c.in_ok-replay.ensures.names c.in_ok-replay.ensures.spends c.in_ok-replay.ensures.lives c.in_ok-replay.ensures.leads c.in_ok-replay.ensures.agrees c.in_ok-replay.ensures.gathered

pub rows_spell_commands-requires-clause-rows : goal.rows_spell_commands-requires-clause-rows
rows_spell_commands-requires-clause-rows c = subst (λ (j : Job). j.config.rows ≡ rows_of j.config.width j.commands) (sym c.in_ok-job.ensures.job) refl
