-- leads last, last steps: replicas ask in turn, and the last of them goes on with a majority; the
-- steps after which it knows every command.
use Rattle.std.specs.Prelude.{Bool, List, None, false, length, true, ℕ, ◌*◌, ◌+◌, ◌<◌, ◌≡◌, ◌≤◌, ◌⊎◌}
use Rattle.mu_model.specs.declared.config.Config.{Config}
use Rattle.mu_model.specs.declared.event.Event.{Event}
use Rattle.mu_model.specs.Bounds.{cycle}
use Rattle.mu_model.specs.Contents.{IsConfig, holds_all, row_count}
use Rattle.mu_model.specs.Diligence.{AsksInTime, GrantsInTime, ReadsInTime, completes_row}
use Rattle.mu_model.specs.Ends.{outrun}
use Rattle.mu_model.specs.Histories.{count_below, part}
use Rattle.mu_model.specs.Knowledge.{applied, known}
use Rattle.mu_model.specs.Leaderships.{has_begun, majority_of}
use Rattle.mu_model.specs.Legal.{IsLegalHistory}
use Rattle.mu_model.specs.Room.{reserve}
use Rattle.mu_model.specs.Steps.{is_named, knows_all}
use Rattle.mu_model.specs.Stretches.{IsStretch, some_step}
use Rattle.mu_pace.specs.Collecting.{LeaderKeeps}
use Rattle.mu_agree.specs.Moments.{AtEachMoment, AtEachStep}
use Rattle.mu_alive.specs.Calm.{calm_steps}
use Rattle.mu_alive.specs.Enough.{HasLargeRing, asking_steps}
use Rattle.mu_alive.specs.Near.{IsNear}
use Rattle.mu_alive.specs.Turns.{AreInTurn}
use Rattle.mu_alive.specs.Alone.{WritesAlone}

-- a names itself once it has asked, and also once it has taken `start` steps
abbrev pub NamesItself : Config → ℕ → ℕ → List Event → Type 0
NamesItself c a start mine =
    (start ≤ length mine) ⊎ (has_begun a mine ≡ true) → is_named c a mine ≡ true

-- replicas ask in turn, and none above a has asked; a names itself after `start` steps; a majority
-- with a keeps up with it, and these hosts keep their paces; a keeps a leader's, and was never
-- outrun
pub record LeadsLast (c : Config) (live : ℕ → Bool) (a start : ℕ) (past : List Event) : Type 0 where
  pub inside : a < c.replicas
  pub lives : live a ≡ true
  pub majority : majority_of c.replicas ≤ count_below c.replicas live
  pub legal : IsLegalHistory c past
  pub turns : AreInTurn past
  pub highest : (w : ℕ) → a < w → has_begun w past ≡ false
  pub near : AtEachMoment (IsNear c live a) past
  pub reads : (r : ℕ) → r < c.replicas → live r ≡ true → ReadsInTime c r (part r past)
  pub grants : (r : ℕ) → r < c.replicas → live r ≡ true → GrantsInTime c r (part r past)
  pub asks : AsksInTime c a (part a past)
  pub led : AtEachStep (LeaderKeeps c a) (part a past)
  pub named : AtEachMoment (NamesItself c a start) (part a past)
  pub going : outrun c a (part a past) ≡ None

-- the steps until each region is granted to it, from then on: all hosts that may grant to another
-- replica before have two rounds for each
abbrev pub last_granting_steps : Config → ℕ → ℕ
last_granting_steps c a = asking_steps c + (a + 1) * (2 * cycle c) + 2

-- the steps until it knows every command
abbrev pub last_steps : Config → ℕ → ℕ
last_steps c a =
    last_granting_steps c a + 2 * asking_steps c + 2 * calm_steps c (row_count c + reserve c)

-- the last that asks, while a majority keeps up with it, knows every command `last_steps` after it
-- began to name itself
abbrev pub LastLeadersKnowAll : Type 0
LastLeadersKnowAll =
    (c : Config) (live : ℕ → Bool) (a start : ℕ) (past : List Event) → IsConfig c → HasLargeRing c
    → LeadsLast c live a start past
    → start + last_steps c a ≤ length (part a past) → knows_all c a (part a past) ≡ true

-- a replica that knows an entry that it hasn't applied completes a row of one within two rounds of
-- the cycle, whether the scores name it or not
abbrev pub FetchesInTime : Config → ℕ → List Event → Type 0
FetchesInTime c r past =
    (window older : List Event) → IsStretch past window older → length window ≡ 2 * cycle c
    → length (applied c r older) < length (known c r older)
    → some_step (completes_row c r) window older ≡ true

-- the steps more until it has every row of every entry
abbrev pub fetching_steps : Config → ℕ
fetching_steps c = (c.width * (row_count c + reserve c) + 1) * (2 * cycle c)

-- if it fetches rows in time, it has applied every command `fetching_steps` later, also those whose
-- rows earlier leaders wrote
abbrev pub LastLeadersApplyAll : Type 0
LastLeadersApplyAll =
    (c : Config) (live : ℕ → Bool) (a start : ℕ) (past : List Event) → IsConfig c → HasLargeRing c
    → LeadsLast c live a start past → FetchesInTime c a (part a past)
    → start + last_steps c a + fetching_steps c ≤ length (part a past)
    → holds_all c (applied c a (part a past)) ≡ true

-- if no other wrote rows, it has applied every command as soon as it knows it
abbrev pub LoneWritersApplyAll : Type 0
LoneWritersApplyAll =
    (c : Config) (live : ℕ → Bool) (a start : ℕ) (past : List Event) → IsConfig c → HasLargeRing c
    → LeadsLast c live a start past → WritesAlone a past
    → start + last_steps c a ≤ length (part a past)
    → holds_all c (applied c a (part a past)) ≡ true
