use Rattle.std.proofs.Common.{◌≡◌, ◌<◌, ◌≤◌, ℕ, Some, false, length}
use Rattle.std.specs.List.{slice_get}
use Rattle.mu_model.specs.declared.script.Script.{Script}
use Rattle.mu_node.specs.declared.zeal.Zeal.{Zeal}
use Rattle.mu_cluster.specs.declared.rounds.Seat.{Seat}
use Rattle.mu_cluster.specs.Rounds.{PlayedBy, all_left}
use Rattle.mu_cluster.proofs.rounds.round.Given as goal

abbrev pub invariant-loop-k : goal.invariant-loop-k
invariant-loop-k g l = record {
  config : l.port.config ≡ l.fn.port.config;
  count : length l.seats ≡ length l.fn.seats;
  ahead : (r : ℕ) → l.k ≤ r → slice_get l.seats r ≡ slice_get l.fn.seats r;
  played : (kind : Zeal) (script : Script) (rounds : ℕ) → l.pauses ≡ script.pauses → PlayedBy kind l.fn.port.config script l.fn.port.events l.fn.seats rounds 0 → PlayedBy kind l.fn.port.config script l.port.events l.seats rounds l.k;
  left : all_left l.seats ≤ all_left l.fn.seats;
  less : (k : ℕ) (seat : Seat) → slice_get l.fn.seats k ≡ Some seat → seat.ended ≡ false → k < l.k → all_left l.seats < all_left l.fn.seats;
}
