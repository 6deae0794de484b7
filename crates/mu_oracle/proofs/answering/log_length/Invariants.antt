use Rattle.std.proofs.Common.{◌≡◌, ◌≤◌, length, take}
use Rattle.mu_model.specs.Histories.{history}
use Rattle.mu_model.specs.Regions.{region_log}
use Rattle.mu_oracle.proofs.answering.log_length.Given as goal

abbrev pub invariant-loop-e : goal.invariant-loop-e
invariant-loop-e l = record { so_far : l.count ≡ length (region_log l.p (history (take l.e-index l.events))); few : l.count ≤ l.e-index }
