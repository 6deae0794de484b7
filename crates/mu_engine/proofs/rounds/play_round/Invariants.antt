use Rattle.std.proofs.Common.{◌≡◌, ◌≤◌, ℕ, List, ◌++◌, length, map}
use Rattle.std.specs.List.{slice_get}
use Rattle.mu_model.specs.declared.event.Event.{Event}
use Rattle.mu_engine.specs.Rounds.{AreSteps}
use Rattle.mu_engine.specs.Seats.{AreSeated, hold_of}
use Rattle.mu_engine.proofs.Holds.{aged}
use Rattle.mu_engine.proofs.rounds.play_round.Given as goal

abbrev pub invariant-loop-k : goal.invariant-loop-k
invariant-loop-k l = record {
  config : l.port.config ≡ l.fn.port.config;
  limit : l.port.row_limit ≡ l.fn.port.row_limit;
  count : length l.seats ≡ length l.fn.seats;
  ahead : (r : ℕ) → l.k ≤ r → slice_get l.seats r ≡ slice_get l.fn.seats r;
  seated : AreSeated l.fn.port.config l.port.events l.seats;
  holds : map hold_of l.seats ≡ aged l.k (map hold_of l.fn.seats);
  steps : (steps : List Event) × (l.port.events ≡ l.fn.port.events ++ steps) × AreSteps l.fn.port.config (map hold_of l.fn.seats) l.fn.port.events l.k steps;
}
