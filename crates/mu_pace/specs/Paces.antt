-- paces in time: the laws that lead from each moment to each stretch: a journal that keeps its
-- paces at each moment is diligent.
use Rattle.std.specs.Prelude.{Bool, List, ℕ, ◌<◌, ◌≢◌, ◌*◌}
use Rattle.mu_agree.specs.Paces.{IsRecent}
use Rattle.mu_model.specs.declared.config.Config.{Config}
use Rattle.mu_model.specs.declared.event.Event.{Event}
use Rattle.mu_model.specs.Bounds.{cycle}
use Rattle.mu_model.specs.Diligence.{AsksAfterOthers, AsksWithCauseBy, BeginsInTime, BringsUpInTime, CommitsInTime, GrantsInTime, IsDiligentBy, JoinsInTime, LooksIntoMisses, RaisesInTime, Replays, TellsHeads}
use Rattle.mu_model.specs.Steps.{is_head_of}
use Rattle.mu_pace.specs.Blocking.{AdvancesInTime}
use Rattle.mu_pace.specs.Counters.{IsInTime}
use Rattle.mu_agree.specs.Moments.{AtEachMoment, AtEachStep}
use Rattle.mu_pace.specs.Keeping.{ConfirmsInTime, HasCauseBy, IsDiligentAtEachMomentBy}
use Rattle.mu_pace.specs.Watches.{advancing, asking_after, bringing_up, explaining, granting, joining, progressing, raising, raising_head, reading_own, replaying}

-- grants that are in time at each moment come within a round
abbrev pub GrantsComeInTime : Type 0
GrantsComeInTime =
    (c : Config) (r : ℕ) (past : List Event)
    → ((w : ℕ) → AtEachMoment (IsInTime (granting c r w)) past) → GrantsInTime c r past

-- and grants that come within a round are in time at each moment
abbrev pub GrantsAreCounted : Type 0
GrantsAreCounted =
    (c : Config) (r : ℕ) (past : List Event) → GrantsInTime c r past → (w : ℕ)
    → IsInTime (granting c r w) past

-- a leader that is in time at each moment makes progress within the bound
abbrev pub ProgressComesInTime : Type 0
ProgressComesInTime =
    (c : Config) (r : ℕ) (past : List Event) → AtEachMoment (IsInTime (progressing c r)) past
    → CommitsInTime c r past

-- and advances, if that is what it is in time for
abbrev pub AdvancesComeInTime : Type 0
AdvancesComeInTime =
    (c : Config) (r : ℕ) (past : List Event) → AtEachMoment (IsInTime (advancing c r)) past
    → AdvancesInTime c r past

-- the fence is the next replication event after a miss
abbrev pub MissesAreExplained : Type 0
MissesAreExplained =
    (c : Config) (r : ℕ) (past : List Event)
    → ((p : ℕ) → AtEachMoment (IsInTime (explaining c r p)) past) → LooksIntoMisses c r past

-- a journal whose asks each had a cause asks with cause
abbrev pub AsksHaveCause : Type 0
AsksHaveCause =
    (again : Bool) (c : Config) (r : ℕ) (past : List Event) → AtEachStep (HasCauseBy again c r) past
    → AsksWithCauseBy again c r past

-- a confirmed leadership begins in time
abbrev pub ConfirmedBeginInTime : Type 0
ConfirmedBeginInTime =
    (c : Config) (r : ℕ) (past : List Event) → AtEachStep (ConfirmsInTime c r) past
    → BeginsInTime c r past

-- FUOs are raised after a commit
abbrev pub FuosAreRaisedInTime : Type 0
FuosAreRaisedInTime =
    (c : Config) (r : ℕ) (past : List Event)
    → ((p : ℕ) → p < c.replicas → AtEachMoment (IsInTime (raising c r p)) past)
    → RaisesInTime c r past

-- late followers are asked after
abbrev pub OthersAreAskedAfter : Type 0
OthersAreAskedAfter =
    (c : Config) (r : ℕ) (past : List Event)
    → ((p : ℕ) → p < c.replicas → AtEachMoment (IsInTime (asking_after c r p)) past)
    → AsksAfterOthers c r past

-- late followers that grant join
abbrev pub WelcomedJoinInTime : Type 0
WelcomedJoinInTime =
    (c : Config) (r : ℕ) (past : List Event)
    → ((p : ℕ) → p < c.replicas → AtEachMoment (IsInTime (joining c r p)) past)
    → JoinsInTime c r past

-- members are brought up
abbrev pub MembersAreBroughtUp : Type 0
MembersAreBroughtUp =
    (c : Config) (r : ℕ) (past : List Event)
    → ((p : ℕ) → p < c.replicas → AtEachMoment (IsInTime (bringing_up c r p)) past)
    → BringsUpInTime c r past

-- a replica that isn't named replays
abbrev pub ReplayGoesOn : Type 0
ReplayGoesOn =
    (c : Config) (r : ℕ) (past : List Event) → AtEachMoment (IsInTime (reading_own c r)) past
    → AtEachMoment (IsInTime (replaying c r)) past → Replays c r past

-- heads are raised and read
abbrev pub HeadsAreTold : Type 0
HeadsAreTold =
    (c : Config) (r : ℕ) (past : List Event) → AtEachMoment (IsInTime (raising_head c r)) past
    → ((q : ℕ) → q < c.replicas → q ≢ r → IsRecent (is_head_of q) (c.replicas * cycle c) past)
    → TellsHeads c r past

-- a journal in which each event keeps every pace is diligent
abbrev pub KeptPaceIsDiligent : Type 0
KeptPaceIsDiligent =
    (again : Bool) (c : Config) (r : ℕ) (past : List Event)
    → IsDiligentAtEachMomentBy again c r past → IsDiligentBy again c r past
