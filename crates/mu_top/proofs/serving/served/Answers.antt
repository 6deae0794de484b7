use Rattle.std.proofs.Common.{◌∙◌, ap, subst, sym}
use Rattle.mu_top.specs.Desks.{IsServed}
use Rattle.mu_top.proofs.Arrived.{heads_collected}
use Rattle.mu_top.proofs.Completed.{replay_of}
use Rattle.mu_input.specs.Batches.{rows_of}
use Rattle.mu_top.proofs.serving.served.Goals as goal

pub rows_spell_commands-requires-clause-heads : goal.rows_spell_commands-requires-clause-heads
rows_spell_commands-requires-clause-heads g c =
    heads_collected c.in_ok-given.given c.in_ok-collected.collected c.in_ok-given.ensures.config c.in_ok-given.ensures.desk c.in_ok-given.ensures.heads c.in_ok-given.ensures.rows c.in_ok-collected.ensures.arrival c.in_ok-collected.ensures.same

pub replay-requires-clause-heads : goal.replay-requires-clause-heads
replay-requires-clause-heads g c =
    heads_collected c.in_ok-given.given c.in_ok-collected.collected c.in_ok-given.ensures.config c.in_ok-given.ensures.desk c.in_ok-given.ensures.heads c.in_ok-given.ensures.rows c.in_ok-collected.ensures.arrival c.in_ok-collected.ensures.same

pub returns-clause-replay : goal.returns-clause-replay
returns-clause-replay g c =
    replay_of c.in_ok-replay.field-0 c.in_ok-collected.collected c.in_ok-replay.ensures.job c.in_ok-collected.ensures.config
    (heads_collected c.in_ok-given.given c.in_ok-collected.collected c.in_ok-given.ensures.config c.in_ok-given.ensures.desk c.in_ok-given.ensures.heads c.in_ok-given.ensures.rows c.in_ok-collected.ensures.arrival c.in_ok-collected.ensures.same)
    c.in_ok-replay.ensures.run c.in_ok-replay.ensures.diligent c.in_ok-replay.ensures.names c.in_ok-replay.ensures.spends c.in_ok-replay.ensures.lives c.in_ok-replay.ensures.leads c.in_ok-replay.ensures.agrees c.in_ok-replay.ensures.gathered

pub returns-clause-job : goal.returns-clause-job
returns-clause-job g c =
    subst (IsServed c.args.bytes.now) (sym c.in_ok-replay.ensures.job)
    (record { given = c.in_ok-given.given; fits = c.in_ok-given.ensures.reading; arrival = c.in_ok-collected.ensures.arrival; same = c.in_ok-collected.ensures.same })

pub rows_spell_commands-requires-clause-rows : goal.rows_spell_commands-requires-clause-rows
rows_spell_commands-requires-clause-rows g c = c.in_ok-collected.ensures.same.rows ∙ ap (λ w. rows_of w c.in_ok-collected.collected.commands) (sym c.in_ok-collected.ensures.same.width)
