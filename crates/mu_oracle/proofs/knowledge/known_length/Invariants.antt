use Rattle.std.proofs.Common.{◌≡◌, ◌≤◌, length, take}
use Rattle.mu_model.specs.Histories.{history}
use Rattle.mu_model.specs.Knowledge.{known}
use Rattle.mu_oracle.proofs.knowledge.known_length.Given as goal

abbrev pub invariant-loop-i : goal.invariant-loop-i
invariant-loop-i l = record { so_far : l.count ≡ length (known l.config l.r (history (take l.i l.part))); few : l.count ≤ l.i }
