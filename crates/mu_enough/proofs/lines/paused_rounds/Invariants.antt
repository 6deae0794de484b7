use Rattle.std.proofs.Common.{◌≡◌, ◌+◌, ◌*◌, ◌≤◌, drop}
use Rattle.mu_enough.specs.Lines.{paused_rounds}
use Rattle.mu_enough.proofs.lines.paused_rounds.Given as goal

abbrev pub invariant-loop-pause : goal.invariant-loop-pause
invariant-loop-pause l = record {
  so_far : l.paused + paused_rounds (drop l.pause-index l.pauses) l.replica ≡ paused_rounds l.pauses l.replica;
  small : l.paused ≤ 4294967295 * l.pause-index;
}
