use Rattle.std.proofs.Common.{◌≡◌, ◌≤◌, length, take}
use Rattle.std.specs.List.{slice_get}
use Rattle.mu_model.specs.Histories.{history}
use Rattle.mu_model.specs.Knowledge.{known}
use Rattle.mu_oracle.proofs.knowledge.known_value_at.Given as goal

abbrev pub invariant-loop-k : goal.invariant-loop-k
invariant-loop-k l = record { so_far : l.count ≡ length (known l.config l.r (history (take l.k l.part))); few : l.count ≤ l.k; at : l.value ≡ slice_get (known l.config l.r (history (take l.k l.part))) l.i }
