use Rattle.std.proofs.Common.{◌≡◌, ◌++◌, take}
use Rattle.mu_input.specs.Scripts.{pauses_of}
use Rattle.mu_input.proofs.scripts.push_pauses_of.Given as goal

abbrev pub invariant-loop-pause : goal.invariant-loop-pause
invariant-loop-pause l = l.ordered.items ≡ l.fn.ordered.items ++ pauses_of l.replica (take l.pause-index l.pauses)
