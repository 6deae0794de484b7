use Rattle.std.proofs.Common.{◌≡◌, ◌≤◌, length, take}
use Rattle.mu_model.specs.Histories.{history}
use Rattle.mu_model.specs.Knowledge.{fetched_prefix, known}
use Rattle.mu_oracle.proofs.fetching.applied_length.Given as goal

abbrev pub invariant-loop-i : goal.invariant-loop-i
invariant-loop-i l = record { so_far : l.count ≡ length (known l.config l.r (history (take l.i l.part))); few : l.count ≤ l.i; less : l.front ≤ l.i; at : l.front ≡ length (fetched_prefix l.config l.r (history l.part) (known l.config l.r (history (take l.i l.part)))) }
