use Rattle.std.proofs.Common.{◌∙◌, ap, arith, subst}
use Rattle.match_book.specs.Stands.{StandsFor}
use Rattle.mu_outcome.specs.Entries.{commands_in, longest}
use Rattle.mu_top.proofs.Completed.{different_of, few_of, replay_of}
use Rattle.mu_top.proofs.booking.booked.Goals as goal
use Rattle.mu_cluster.proofs.RowsMade.{rows_made}

pub apply_log-requires-clause-room : goal.apply_log-requires-clause-room
apply_log-requires-clause-room c =
    rw (c.longest.ensures, c.as_slice.ensures)
    (let few = few_of c.in_ok-outcome.outcome c.in_ok-job.job c.in_ok-outcome.ensures.job c.in_ok-job.ensures.config c.in_ok-job.ensures.heads c.in_ok-outcome.ensures.run c.in_ok-outcome.ensures.agrees in
    omega (arith, few, c.len.ensures, c.in_ok-book.ensures.room))

pub apply_log-requires-clause-different : goal.apply_log-requires-clause-different
apply_log-requires-clause-different c =
    rw (c.longest.ensures, c.as_slice.ensures)
    (different_of c.in_ok-outcome.outcome c.in_ok-job.job c.in_ok-outcome.ensures.job c.in_ok-job.ensures.config c.in_ok-job.ensures.heads c.in_ok-outcome.ensures.run c.in_ok-outcome.ensures.agrees)

pub returns-clause-replay : goal.returns-clause-replay
returns-clause-replay c =
    replay_of c.in_ok-outcome.outcome c.in_ok-job.job c.in_ok-outcome.ensures.job c.in_ok-job.ensures.config c.in_ok-job.ensures.heads c.in_ok-outcome.ensures.run c.in_ok-outcome.ensures.diligent c.in_ok-outcome.ensures.names c.in_ok-outcome.ensures.spends c.in_ok-outcome.ensures.lives c.in_ok-outcome.ensures.leads c.in_ok-outcome.ensures.agrees c.in_ok-outcome.ensures.gathered

pub returns-clause-book : goal.returns-clause-book
returns-clause-book c =
    subst (λ log. StandsFor (commands_in c.in_ok-outcome.outcome.job log) c.apply_log.new.book) (c.longest.ensures ∙ ap longest c.as_slice.ensures) c.apply_log.ensures

pub rows_spell_commands-requires-clause-rows : goal.rows_spell_commands-requires-clause-rows
rows_spell_commands-requires-clause-rows c = rows_made c.args.bytes.now c.in_ok-job.job c.in_ok-job.ensures.reading
