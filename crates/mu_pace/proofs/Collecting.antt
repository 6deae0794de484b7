-- Collecting what the machines of a node keep.
use Rattle.std.proofs.Common.{ℕ, ◌-◌, ◌*◌, ◌≤◌, Bool, List, ◌∷◌, arith}
use Rattle.std.proofs.Math.Nat.{mul-le-mul_right}
use Rattle.mu_model.specs.declared.event.Event.{Event}
use Rattle.mu_model.specs.Bounds.{cycle}
use Rattle.mu_model.specs.Steps.{is_ask_read, is_beat, is_beat_read, is_head_of}
use Rattle.mu_pace.specs.Collecting.{PartsKeepPace}
use Rattle.mu_pace.specs.Keeping.{CameLately}
use Rattle.mu_pace.proofs.Opening.{grants_counted}
use Rattle.mu_pace.proofs.Rounds.{rounds_keep_pace}

-- what came lately in a shorter round came lately in a longer one
longer : (test : Event → Bool) (n m : ℕ) (now : List Event) → n ≤ m → CameLately test n now → CameLately test m now
longer test n m now l h = omega arith

pub parts_keep_pace : PartsKeepPace
parts_keep_pace again c r past e rounds grants leader replayer = record {
  heartbeat_pace = record {
    beat = rounds_keep_pace.lately (cycle c) rounds.beat.0 is_beat (e ∷ past) rounds.beat.1.0 rounds.beat.1.1;
    beats = λ q l d. (let k = rounds.beats q l d in rounds_keep_pace.lately (cycle c) k.0 (is_beat_read q) (e ∷ past) k.1.0 k.1.1);
    asks = λ w l. (let k = rounds.asks w l in rounds_keep_pace.lately (cycle c) k.0 (is_ask_read w) (e ∷ past) k.1.0 k.1.1);
    apart = λ q p some. (let k = rounds.apart q in let far = rounds_keep_pace.apart (cycle c) k.0 (is_beat_read q) past e (omega arith) k.1 p some in omega arith);
  };
  grant_pace = grants_counted c r (e ∷ past) grants;
  election_pace = leader.asks;
  progress_bound = leader.places.progressing;
  evidence_after_a_miss = leader.evidence;
  ask_discipline = leader.cause;
  confirmation = leader.confirmation;
  raised_fuos = leader.raises;
  asking_after = leader.places.asking;
  joining = leader.joins;
  bringing_up = λ p l. leader.places.bringing p;
  replayer_pace = replayer.replays;
  head_pace = record {
    raises = replayer.head;
    reads = λ q l d. (let k = rounds.heads q l d in
        longer (is_head_of q) ((c.replicas - 1) * cycle c) (c.replicas * cycle c) (e ∷ past) (mul-le-mul_right (cycle c) (omega arith)) (rounds_keep_pace.lately ((c.replicas - 1) * cycle c) k.0 (is_head_of q) (e ∷ past) k.1.0 k.1.1));
  };
}
