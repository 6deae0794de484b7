-- None of the pauses before this one is it.
use Rattle.std.proofs.Common.{◌≡◌, drop}
use Rattle.mu_course.specs.Halts.{pause_at}
use Rattle.mu_course.proofs.halts.pause_at.Given as goal

abbrev pub invariant-loop-pause : goal.invariant-loop-pause
invariant-loop-pause l =
    pause_at l.replica l.steps (drop l.pause-index l.pauses) ≡ pause_at l.replica l.steps l.pauses
