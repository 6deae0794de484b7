use Rattle.std.proofs.Common.{◌≡◌, ◌≤◌}
use Rattle.mu_model.specs.Histories.{history}
use Rattle.mu_law.specs.Choosing.{takers}
use Rattle.mu_law.proofs.choosing.count_takers.Given as goal

abbrev pub invariant-loop-p : goal.invariant-loop-p
invariant-loop-p l = record { so_far : l.count ≡ takers l.p (history l.events) l.i l.b l.v; few : l.count ≤ l.p }
