-- diligent: the journal of replica r keeps thirteen rules, of how soon it does what it has to and
-- of what gives it cause.
--
-- A replica that may ask again keeps the same rules, but has one more cause to begin a leadership.
use Rattle.std.specs.Prelude.{Bool, List, [], false, if◌then◌else◌, is_some, length, min, nat_le, not, true, ℕ, ◌%◌, ◌&&◌, ◌*◌, ◌++◌, ◌+◌, ◌<◌, ◌==◌, ◌||◌, ◌∷◌, ◌≡◌, ◌≢◌, ◌≤◌, ◌⊎◌}
use Rattle.mu_model.specs.declared.config.Config.{Config}
use Rattle.mu_model.specs.declared.event.Event.{Event}
use Rattle.mu_model.specs.declared.event.Verb.{Verb}
use Rattle.mu_model.specs.Again.{asks_again}
use Rattle.mu_model.specs.Bounds.{Follows, bound, cycle, is_at_most, is_learning, members}
use Rattle.mu_model.specs.Contents.{is_batch, rest_of}
use Rattle.mu_model.specs.Ends.{outrun}
use Rattle.mu_model.specs.Histories.{all_below, count_below, greatest, has, how_many}
use Rattle.mu_model.specs.Knowledge.{applied, fuo_read, greatest_fuo_read, has_row, known}
use Rattle.mu_model.specs.Leaderships.{begins_leadership, has_begun, is_member, is_over, leadership, leaderships, majority_of, noted_grant, proposal_number}
use Rattle.mu_model.specs.Picks.{is_joining}
use Rattle.mu_model.specs.Placing.{fuo_read_or_raised}
use Rattle.mu_model.specs.Regions.{region_head}
use Rattle.mu_model.specs.Serving.{has_unserved_ask}
use Rattle.mu_model.specs.Steps.{commits_more, has_min, is_any_fencing, is_ask_read, is_asking, is_beat, is_beat_read, is_fencing, is_fuo_of, is_granting, is_head_of, is_head_raise, is_lagging, is_min, is_min_put, is_missed_at, is_named, is_over_after, is_raise_above, knows_all, knows_more, leads, named_throughout, replicates, unnamed_throughout}
use Rattle.mu_model.specs.Stretches.{IsStretch, each_step, is_replication, replications, some_step}

-- heartbeat pace: beats and asks are read in each round of the cycle, and no beat is read twice in
-- it
pub record ReadsInTime (c : Config) (r : ℕ) (past : List Event) : Type 0 where
  pub beat :
      (window older : List Event) → IsStretch past window older → length window ≡ cycle c
      → has is_beat window ≡ true
  pub beats :
      (q : ℕ) (window older : List Event) → q < c.replicas → q ≢ r → IsStretch past window older
      → length window ≡ cycle c → has (is_beat_read q) window ≡ true
  pub asks :
      (w : ℕ) (window older : List Event) → w < c.replicas → IsStretch past window older
      → length window ≡ cycle c → has (is_ask_read w) window ≡ true
  pub apart :
      (q : ℕ) (later earlier : Event) (between older : List Event)
      → IsStretch past (later ∷ between ++ earlier ∷ []) older
      → is_beat_read q later ≡ true → is_beat_read q earlier ≡ true
      → 4 * c.replicas + 43 ≤ length between

-- grant pace: a read of asks that leaves a replica unserved is followed by a grant within a round
-- of the cycle
abbrev pub GrantsInTime : Config → ℕ → List Event → Type 0
GrantsInTime c r past =
    (w : ℕ) (e : Event) (window older : List Event) → IsStretch past window (e ∷ older)
    → is_ask_read w e ≡ true → has_unserved_ask r (e ∷ older) w ≡ true
    → length window ≡ cycle c → has is_granting window ≡ true

-- r is named, some command is not known, and r does not lead
abbrev pub has_to_ask : Config → ℕ → List Event → Bool
has_to_ask c r past = is_named c r past && (not (knows_all c r past) && not (leads r past))

-- election pace: a replica that has to ask asks every region and reads every fence
pub record AsksInTime (c : Config) (r : ℕ) (past : List Event) : Type 0 where
  pub asks :
      (p : ℕ) (window older : List Event) → p < c.replicas → IsStretch past window older
      → replications window older ≡ 17 * c.replicas + 1
      → each_step (λ before e. not (is_replication before e) || has_to_ask c r before) window older
      ≡ true
      → replicates (λ before e. is_asking p e) window older ≡ true
  pub fences :
      (p : ℕ) (window older : List Event) → p < c.replicas → IsStretch past window older
      → replications window older ≡ 17 * c.replicas + 1
      → each_step (λ before e. not (is_replication before e) || has_to_ask c r before) window older
      ≡ true
      → replicates (λ before e. is_fencing p e) window older ≡ true

-- the event begins a stretch of progress: the first `Min` of a leadership, a commit, or a lagging
-- head
abbrev pub is_milestone : Config → ℕ → List Event → Event → Bool
is_milestone c r past e =
    (is_min e && not (has is_min (leadership r past)))
    || (commits_more c r past e || (is_replication past e && is_lagging c r past e))

-- the event ends such a stretch
abbrev pub is_progress : Config → ℕ → List Event → Event → Bool
is_progress c r past e =
    commits_more c r past e
    || (is_over_after r past e
    || (is_lagging c r past e || (knows_all c r past || is_some (outrun c r (e ∷ past)))))

-- progress bound: after a milestone comes progress within the bound
abbrev pub CommitsInTime : Config → ℕ → List Event → Type 0
CommitsInTime c r past =
    (e : Event) (window older : List Event) → is_milestone c r older e ≡ true
    → Follows c r past window (e ∷ older) (bound c r window (e ∷ older))
    → replicates (is_progress c r) window (e ∷ older) ≡ true

-- evidence after a miss: the next replication event of a leader reads the fence
abbrev pub LooksIntoMisses : Config → ℕ → List Event → Type 0
LooksIntoMisses c r past =
    (p : ℕ) (e next : Event) (between older : List Event)
    → IsStretch past (next ∷ between) (e ∷ older) → is_missed_at p e ≡ true
    → replications between (e ∷ older) ≡ 0 → is_replication (between ++ e ∷ older) next ≡ true
    → is_named c r (between ++ e ∷ older) ≡ true → is_fencing p next ≡ true

-- another replica was named before some replication event of the leadership
abbrev pub was_unnamed : Config → ℕ → List Event → Bool
was_unnamed c r [] = false
was_unnamed c r (e ∷ past) =
    if is_replication past e && not (is_named c r past) then true else if begins_leadership r e
    then false else was_unnamed c r past

-- r may begin another leadership
abbrev pub may_ask_anew : Config → ℕ → List Event → Bool
may_ask_anew c r past =
    not (has_begun r past)
    || (is_over r past
    || (was_unnamed c r past
    || (not (has_min r past)
    && all_below c.replicas (λ p. nat_le 16 (how_many (is_fencing p) (leadership r past))))))

-- r may begin another leadership; if the first argument is true, also since a region has gone
-- astray
abbrev pub may_begin : Bool → Config → ℕ → List Event → Bool
may_begin false c r past = may_ask_anew c r past
may_begin true c r past = may_ask_anew c r past || asks_again c r past

-- ask discipline: r asks only if it is named, and begins a leadership only if it may
pub record AsksWithCauseBy (again : Bool) (c : Config) (r : ℕ) (past : List Event) : Type 0 where
  pub named :
      (p : ℕ) (e : Event) (older : List Event) → IsStretch past (e ∷ []) older
      → is_asking p e ≡ true → is_named c r older ≡ true
  pub anew :
      (e : Event) (older : List Event) → IsStretch past (e ∷ []) older → is_asking 0 e ≡ true
      → may_begin again c r older ≡ true

-- ask discipline of a replica to which a region gone astray is no cause
abbrev pub AsksWithCause : Config → ℕ → List Event → Type 0
AsksWithCause c r past = AsksWithCauseBy false c r past

-- the last fences of the leadership name r, not closing, at a majority with r's own region
abbrev pub is_confirmed : Config → ℕ → List Event → Bool
is_confirmed c r past =
    is_some (noted_grant r r past)
    && nat_le (majority_of c.replicas)
    (count_below c.replicas (λ p. is_some (noted_grant r p past)))

-- confirmation: a leader that is confirmed reads a minimum within as many replication events as
-- there are replicas
abbrev pub BeginsInTime : Config → ℕ → List Event → Type 0
BeginsInTime c r past =
    (e : Event) (window older : List Event) → IsStretch past window (e ∷ older)
    → has_begun r older ≡ true → is_any_fencing e ≡ true → has_min r older ≡ false
    → is_confirmed c r (e ∷ older) ≡ true
    → replications window (e ∷ older) ≡ c.replicas → named_throughout c r window (e ∷ older) ≡ true
    → replicates
    (λ before f. (is_min f && (leaderships r before == leaderships r older))
    || (is_any_fencing f && not (is_confirmed c r (f ∷ before))))
    window (e ∷ older)
    ≡ true

-- raised FUOs: after a commit the FUO of each member is raised above it
abbrev pub RaisesInTime : Config → ℕ → List Event → Type 0
RaisesInTime c r past =
    (p : ℕ) (e : Event) (window older : List Event) → commits_more c r older e ≡ true
    → Follows c r past window (e ∷ older) (members c r (e ∷ older))
    → p < c.replicas → is_member r p (e ∷ older) ≡ true
    → replicates (λ before f. is_raise_above p (length (known c r older)) f) window (e ∷ older)
    ≡ true

-- asking after late followers: the fence of each region that is no member is read
abbrev pub AsksAfterOthers : Config → ℕ → List Event → Type 0
AsksAfterOthers c r past =
    (p : ℕ) (window older : List Event) → Follows c r past window older (2 * bound c r window older)
    → each_step (λ before f. not (is_replication before f) || leads r before) window older ≡ true
    → p < c.replicas → is_member r p (window ++ older) ≡ false
    → replicates (λ before f. is_fencing p f) window older ≡ true

-- the event is a `Fuo(p)` answer above i
abbrev pub is_fuo_above : ℕ → ℕ → ℕ → Event → Bool
is_fuo_above r p i e =
    not (is_at_most i (fuo_read r p e.by e.verb e.answer))
    && is_some (fuo_read r p e.by e.verb e.answer)

-- joining: a late follower that grants to the leader becomes a member, unless it is ahead
abbrev pub JoinsInTime : Config → ℕ → List Event → Type 0
JoinsInTime c r past =
    (p : ℕ) (e : Event) (window older : List Event) → p < c.replicas → is_fencing p e ≡ true
    → is_some (proposal_number r older) ≡ true → is_over r older ≡ false
    → is_member r p older ≡ false → is_some (noted_grant r p (e ∷ older)) ≡ true
    → Follows c r past window (e ∷ older) 4
    → replicates
    (λ before f. is_min_put p f
    || (is_over_after r before f || is_fuo_above r p (length (known c r before)) f))
    window (e ∷ older)
    ≡ true

-- by the event a region becomes a member
abbrev pub is_joining_step : ℕ → List Event → Event → Bool
is_joining_step r past e = is_joining r past e.by e.verb e.answer

-- bringing up: the members are brought to what is known within the bound
abbrev pub BringsUpInTime : Config → ℕ → List Event → Type 0
BringsUpInTime c r past =
    (e : Event) (window older : List Event)
    → (is_joining_step r older e || is_learning c r older e) ≡ true
    → is_some (proposal_number r (e ∷ older)) ≡ true
    → Follows c r past window (e ∷ older) (bound c r window (e ∷ older))
    → (replicates (is_over_after r) window (e ∷ older) ≡ true)
    ⊎ ((p : ℕ) → p < c.replicas → is_member r p (e ∷ older) ≡ true
    → length (known c r (e ∷ older))
    ≤ greatest (λ f. fuo_read_or_raised r p f.by f.verb f.answer)
    (leadership r (window ++ e ∷ older)))

-- the payload number u is that of a row of one of these entries
abbrev pub is_row_of : Config → ℕ → List ℕ → Bool
is_row_of c u [] = false
is_row_of c u (v ∷ vs) =
    (is_batch c v && (nat_le v u && nat_le u (v + rest_of c (v % 4096)))) || is_row_of c u vs

-- the verb reads the last missing word of a row of a known entry
abbrev pub completes_row_verb : Config → ℕ → List Event → List Event → Verb → Bool
completes_row_verb c r past now (Verb.ReadRow u k) =
    is_row_of c u (known c r past) && (not (has_row r u past) && has_row r u now)
completes_row_verb c r past now _ = false

-- the event does so
abbrev pub completes_row : Config → ℕ → List Event → Event → Bool
completes_row c r past e = completes_row_verb c r past (e ∷ past) e.verb

-- replayer pace: a replica that is not named reads its FUO, and learns or fetches what lies below
-- it
pub record Replays (c : Config) (r : ℕ) (past : List Event) : Type 0 where
  pub reads :
      (window older : List Event) → IsStretch past window older
      → length window ≡ 8 * c.replicas + 88 → unnamed_throughout c r window older ≡ true
      → has (is_fuo_of r) window ≡ true
  pub learns :
      (window older : List Event) → IsStretch past window older
      → length window ≡ 8 * c.replicas + 88 → unnamed_throughout c r window older ≡ true
      → length (applied c r older) < greatest_fuo_read r r older
      → some_step (λ before e. knows_more c r before e || completes_row c r before e) window older
      ≡ true

-- head pace: heads are raised and read
pub record TellsHeads (c : Config) (r : ℕ) (past : List Event) : Type 0 where
  pub raises :
      (window older : List Event) → IsStretch past window older
      → region_head r older
      < min (length (applied c r older))
      (greatest (λ e. fuo_read_or_raised r r e.by e.verb e.answer) older)
      → length window ≡ cycle c → has is_head_raise window ≡ true
  pub reads :
      (q : ℕ) (window older : List Event) → q < c.replicas → q ≢ r → IsStretch past window older
      → length window ≡ c.replicas * cycle c → has (is_head_of q) window ≡ true

-- the journal of r is diligent; if `again` is true, a region gone astray may be a cause to ask
pub record IsDiligentBy (again : Bool) (c : Config) (r : ℕ) (past : List Event) : Type 0 where
  pub heartbeat_pace : ReadsInTime c r past
  pub grant_pace : GrantsInTime c r past
  pub election_pace : AsksInTime c r past
  pub progress_bound : CommitsInTime c r past
  pub evidence_after_a_miss : LooksIntoMisses c r past
  pub ask_discipline : AsksWithCauseBy again c r past
  pub confirmation : BeginsInTime c r past
  pub raised_fuos : RaisesInTime c r past
  pub asking_after : AsksAfterOthers c r past
  pub joining : JoinsInTime c r past
  pub bringing_up : BringsUpInTime c r past
  pub replayer_pace : Replays c r past
  pub head_pace : TellsHeads c r past

-- the journal of r is diligent, and no region gone astray is a cause to ask
abbrev pub IsDiligent : Config → ℕ → List Event → Type 0
IsDiligent c r past = IsDiligentBy false c r past
