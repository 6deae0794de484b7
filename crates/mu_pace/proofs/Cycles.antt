-- What stands at places of its own comes in time in each stretch.
use Rattle.std.proofs.Common.{◌≡◌, ℕ, ◌+◌, ◌-◌, ◌*◌, ◌<◌, ◌≤◌, Bool, true, false, None, Some, List, [], ◌∷◌, arith}
use Rattle.std.specs.Prelude.{if◌then◌else◌}
use Rattle.std.proofs.Math.Nat.{mul-le-mul_right}
use Rattle.mu_agree.specs.Paces.{IsRecent, IsSpaced}
use Rattle.mu_agree.proofs.Windows.{reads_in_time}
use Rattle.mu_model.specs.declared.config.Config.{Config}
use Rattle.mu_model.specs.declared.event.Event.{Event}
use Rattle.mu_model.specs.Bounds.{cycle}
use Rattle.mu_model.specs.Steps.{is_ask_read, is_beat, is_beat_read, is_head_of}
use Rattle.mu_pace.specs.Collecting.{LeaderKeepsBy}
use Rattle.mu_model.proofs.Basics.{none_some, same_some}
use Rattle.mu_pace.specs.Counters.{IsInTime, Watch, allowed_while}
use Rattle.mu_agree.specs.Moments.{AtEachMoment, AtEachStep}
use Rattle.mu_pace.specs.Cycles.{KeepsBeside, LeadersAdvance, MachinesAreDiligent, RoundsReadInTime, RoundsTellHeads}
use Rattle.mu_pace.specs.Keeping.{IsDiligentAtEachMomentBy}
use Rattle.mu_pace.specs.Watches.{advancing}
use Rattle.mu_pace.specs.Rounds.{IsClosedAt, IsMadeAt, IsMadeOnlyAt}
use Rattle.mu_pace.proofs.Collecting.{parts_keep_pace}
use Rattle.mu_pace.proofs.Keeping.{kept_pace_is_diligent}
use Rattle.mu_pace.proofs.Leading.{advances_come}
use Rattle.mu_pace.proofs.Replaying.{heads_told}
use Rattle.mu_pace.proofs.Rounds.{rounds_keep_pace}

-- a fact of each event gives what follows from it at each
pub steps_give : (P Q : List Event → Event → Type 0) → ((past : List Event) (e : Event) → P past e → Q past e) → (past : List Event) → AtEachStep P past → AtEachStep Q past
steps_give P Q gives [] h = tt
steps_give P Q gives (e ∷ past) h = (steps_give P Q gives past h.0, gives past e h.1)

-- what is made in each round of n events came fewer than m events ago, if m is no less
recent : (n k m : ℕ) (test : Event → Bool) (past : List Event) → k < n → n ≤ m → IsMadeAt n k test past → IsRecent test m past
recent n k m test [] l most h = tt
recent n k m test (e ∷ past) l most h = (recent n k m test past l most h.0, let few = rounds_keep_pace.lately n k test (e ∷ past) l h in omega (arith, few, most))

-- what is made nowhere else is a round apart
spaced : (n k m : ℕ) (test : Event → Bool) (past : List Event) → m + 1 ≡ n → IsMadeOnlyAt n k test past → IsSpaced test m past
spaced n k m test [] one h = tt
spaced n k m test (e ∷ past) one h = (spaced n k m test past one h.0, λ passes some. let far = rounds_keep_pace.apart n k test past e (omega (arith, one)) h passes some in omega (arith, far, one))

pub rounds_read_in_time : RoundsReadInTime
rounds_read_in_time c r past rounds = reads_in_time c r past (record {
  beat = let k = rounds.beat in recent (cycle c) k.0 (cycle c) is_beat past k.1.0 (omega arith) k.1.1;
  beats = λ q low other. (let k = rounds.beats q low other in recent (cycle c) k.0 (cycle c) (is_beat_read q) past k.1.0 (omega arith) k.1.1);
  asks = λ w low. (let k = rounds.asks w low in recent (cycle c) k.0 (cycle c) (is_ask_read w) past k.1.0 (omega arith) k.1.1);
}) (λ q. let k = rounds.apart q in spaced (cycle c) k.0 (4 * c.replicas + 43) (is_beat_read q) past (omega arith) k.1)

pub rounds_tell_heads : RoundsTellHeads
rounds_tell_heads c r past rounds raised =
    heads_told c r past raised
    (λ q low other. (let k = rounds.heads q low other in recent ((c.replicas - 1) * cycle c) k.0 (c.replicas * cycle c) (is_head_of q) past k.1.0 (mul-le-mul_right (cycle c) (omega arith)) k.1.1))

each_moment : (again : Bool) (c : Config) (r : ℕ) (past : List Event) → AtEachStep (KeepsBeside c r) past → AtEachStep (LeaderKeepsBy again c r) past → IsDiligentAtEachMomentBy again c r past
each_moment again c r [] beside leader = tt
each_moment again c r (e ∷ past) beside leader = (each_moment again c r past beside.0 leader.0, let kept = beside.1 in parts_keep_pace again c r past e kept.rounds kept.grants leader.1 kept.replayer)

pub machines_are_diligent : MachinesAreDiligent
machines_are_diligent again c r past beside leader = kept_pace_is_diligent again c r past (each_moment again c r past beside leader)

-- what a leader keeps holds its count of advances at each moment
pub advancing_moments : (again : Bool) (c : Config) (r : ℕ) (past : List Event) → AtEachStep (LeaderKeepsBy again c r) past → AtEachMoment (IsInTime (advancing c r)) past
advancing_moments again c r [] kept = λ left is. absurd (none_some left is)
advancing_moments again c r (e ∷ past) kept = (advancing_moments again c r past kept.0, kept.1.places.advancing)

pub leaders_advance : LeadersAdvance
leaders_advance again c r past kept = advances_come c r past (advancing_moments again c r past kept)

-- a count that each round closes is in time at each moment
pub closed_moments : (n k : ℕ) (w : Watch) (past : List Event) → k < n → ((now : List Event) (allowed : ℕ) → w.allows now ≡ Some allowed → n ≤ allowed) → IsClosedAt n k w past → AtEachMoment (IsInTime w) past
closed_moments n k w [] low most h = rounds_keep_pace.closed n k w [] low most h
closed_moments n k w (e ∷ past) low most h = (closed_moments n k w past low most h.0, rounds_keep_pace.closed n k w (e ∷ past) low most h)

-- what a moment that passes allows
pub while_allows : (test : List Event → Bool) (amount : List Event → ℕ) (now : List Event) (allowed : ℕ) → allowed_while test amount now ≡ Some allowed → amount now ≡ allowed
while_allows test amount now allowed is = go (test now) is
  where
    go : (t : Bool) → (if t then Some (amount now) else None) ≡ Some allowed → amount now ≡ allowed
    go true is = same_some (amount now) allowed is
    go false is = absurd (none_some allowed is)
