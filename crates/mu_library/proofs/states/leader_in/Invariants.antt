use Rattle.std.proofs.Common.{ℕ, ◌<◌}
use Rattle.mu_library.specs.States.{Leads}
use Rattle.mu_library.proofs.states.leader_in.Given as goal

abbrev pub invariant-loop-r : goal.invariant-loop-r
invariant-loop-r l = (s : ℕ) → s < l.r → Leads l.engine s → ⊥
