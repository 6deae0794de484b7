-- What a node keeps of the paces at each event.
use Rattle.std.proofs.Common.{ℕ, ◌<◌, List, [], ◌∷◌}
use Rattle.mu_model.specs.declared.config.Config.{Config}
use Rattle.mu_model.specs.declared.event.Event.{Event}
use Rattle.mu_model.specs.Contents.{IsConfig}
use Rattle.mu_model.specs.Parts.{IsPossible}
use Rattle.mu_agree.proofs.Possible.{parts_shorten_law}
use Rattle.mu_lively.specs.Order.{InCycleOrder}
use Rattle.mu_lively.proofs.HostRounds.{cycles}
use Rattle.mu_pace.specs.Counters.{IsInTime}
use Rattle.mu_agree.specs.Moments.{AtEachStep}
use Rattle.mu_pace.specs.Cycles.{KeepsBeside}
use Rattle.mu_pace.specs.Watches.{raising_head, reading_own, replaying}
use Rattle.mu_pace.proofs.Counting.{last_moment}
use Rattle.mu_pace.proofs.Cycles.{rounds_read_in_time, rounds_tell_heads}
use Rattle.mu_pace.proofs.Replaying.{replay_goes_on}
use Rattle.mu_node.specs.Journal.{WasMade}
use Rattle.mu_node.proofs.Left.{steps_within}
use Rattle.mu_lively.specs.Listed.{MadeArePacedBeside}
use Rattle.mu_lively.proofs.Open.{own_in_time}
use Rattle.mu_lively.proofs.Order.{in_order}
use Rattle.mu_lively.proofs.Replaying.{rows_in_time}
use Rattle.mu_lively.proofs.Rounding.{keeps_rounds, raised_in_time}

-- what is kept beside the leader with each event
pub keeps_beside : (c : Config) (r : ℕ) (mine : List Event) → IsConfig c → r < c.replicas → IsPossible c r mine → InCycleOrder c r mine → AtEachStep (WasMade c r) mine → AtEachStep (KeepsBeside c r) mine
keeps_beside c r [] good inside possible order made = tt
keeps_beside c r (e ∷ mine) good inside possible order made = (
  keeps_beside c r mine good inside (parts_shorten_law c r mine e possible).before order.0 made.0,
  record {
    rounds = keeps_rounds c r (e ∷ mine) inside made;
    grants = cycles c r (e ∷ mine) inside (steps_within c r (e ∷ mine) possible) order;
    replayer = record {
      replays = record {
        reads = last_moment (IsInTime (reading_own c r)) (e ∷ mine) (own_in_time c r (e ∷ mine) made);
        learns = last_moment (IsInTime (replaying c r)) (e ∷ mine) (rows_in_time c r (e ∷ mine) good possible made);
      };
      head = last_moment (IsInTime (raising_head c r)) (e ∷ mine) (raised_in_time c r (e ∷ mine) made);
    };
  },
)

-- so all of it comes in time
pub paced_beside : MadeArePacedBeside
paced_beside c r mine good inside possible made = record {
  reads = rounds_read_in_time c r mine (keeps_rounds c r mine inside made);
  grants = cycles c r mine inside (steps_within c r mine possible) (in_order c r mine made);
  heads = rounds_tell_heads c r mine (keeps_rounds c r mine inside made) (raised_in_time c r mine made);
  replays = replay_goes_on c r mine (own_in_time c r mine made) (rows_in_time c r mine good possible made);
}
