-- The rounds so far brought no reply.
use Rattle.std.proofs.Common.{◌-◌, ◌≤◌}
use Rattle.mu_serve.specs.Sessions.{WaitsFor}
use Rattle.mu_serve.proofs.session.reply_in_time.Given as goal

abbrev pub invariant-rounds : goal.invariant-rounds
invariant-rounds l = record {
  waits : WaitsFor l.row l.rounds l.initial.engine l.engine;
  few : l.rounds ≤ 10000;
}

abbrev pub decreases-rounds : goal.decreases-rounds
decreases-rounds l = 10000 - l.rounds
