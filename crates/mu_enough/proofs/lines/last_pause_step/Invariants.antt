use Rattle.std.proofs.Common.{◌≡◌, drop, max}
use Rattle.mu_enough.specs.Lines.{last_pause_step}
use Rattle.mu_enough.proofs.lines.last_pause_step.Given as goal

abbrev pub invariant-loop-pause : goal.invariant-loop-pause
invariant-loop-pause l =
    max l.last (last_pause_step (drop l.pause-index l.pauses)) ≡ last_pause_step l.pauses
