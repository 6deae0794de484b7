-- keeps beside: what the cycle, the host and the replayer keep with each event; and what reads at
-- places of their own come to in stretches.
use Rattle.std.specs.Prelude.{Bool, List, ◌∷◌, ℕ}
use Rattle.mu_model.specs.declared.config.Config.{Config}
use Rattle.mu_model.specs.declared.event.Event.{Event}
use Rattle.mu_model.specs.Diligence.{GrantsInTime, IsDiligentBy, ReadsInTime, TellsHeads}
use Rattle.mu_pace.specs.Blocking.{AdvancesInTime}
use Rattle.mu_pace.specs.Collecting.{KeepsRounds, LeaderKeepsBy, ReplayerKeeps}
use Rattle.mu_pace.specs.Counters.{IsInTime}
use Rattle.mu_agree.specs.Moments.{AtEachMoment, AtEachStep}
use Rattle.mu_pace.specs.Watches.{raising_head}

-- the reads that stand at places of their own are the heartbeat pace
abbrev pub RoundsReadInTime : Type 0
RoundsReadInTime =
    (c : Config) (r : ℕ) (past : List Event) → KeepsRounds c r past → ReadsInTime c r past

-- with a head that is raised in time they are the head pace
abbrev pub RoundsTellHeads : Type 0
RoundsTellHeads =
    (c : Config) (r : ℕ) (past : List Event) → KeepsRounds c r past
    → AtEachMoment (IsInTime (raising_head c r)) past → TellsHeads c r past

-- what the cycle, the host and the replayer keep with the event
pub record KeepsBeside (c : Config) (r : ℕ) (past : List Event) (e : Event) : Type 0 where
  pub rounds : KeepsRounds c r (e ∷ past)
  pub grants : GrantsInTime c r (e ∷ past)
  pub replayer : ReplayerKeeps c r past e

-- a journal in which each event keeps this, and what the leader keeps, is diligent
abbrev pub MachinesAreDiligent : Type 0
MachinesAreDiligent =
    (again : Bool) (c : Config) (r : ℕ) (past : List Event) → AtEachStep (KeepsBeside c r) past
    → AtEachStep (LeaderKeepsBy again c r) past → IsDiligentBy again c r past

-- a journal in which each event keeps what the leader keeps advances in time
abbrev pub LeadersAdvance : Type 0
LeadersAdvance =
    (again : Bool) (c : Config) (r : ℕ) (past : List Event)
    → AtEachStep (LeaderKeepsBy again c r) past → AdvancesInTime c r past
