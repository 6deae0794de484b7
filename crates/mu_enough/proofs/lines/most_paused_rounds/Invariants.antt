use Rattle.std.proofs.Common.{◌≡◌, ◌<◌, ◌^◌}
use Rattle.mu_enough.specs.Lines.{most_paused_rounds}
use Rattle.mu_enough.proofs.lines.most_paused_rounds.Given as goal

abbrev pub invariant-loop-replica : goal.invariant-loop-replica
invariant-loop-replica l = record {
  so_far : l.most ≡ most_paused_rounds l.pauses l.replica;
  small : l.most < 2 ^ 39;
}
