-- holds failed, reads in order, entry steps, last steps in any ring: those that don't go on are held
-- failed; rows are read in the order of the entries; the steps for each entry, besides those in
-- which somebody gains; and those within which the last that asks has applied every command,
-- whatever the ring.
use Rattle.std.specs.Prelude.{Bool, List, false, length, take, true, ℕ, ◌*◌, ◌+◌, ◌<◌, ◌≡◌, ◌≤◌}
use Rattle.mu_model.specs.declared.config.Config.{Config}
use Rattle.mu_model.specs.declared.event.Event.{Event}
use Rattle.mu_model.specs.declared.event.Verb.{Verb}
use Rattle.mu_model.specs.Bounds.{cycle}
use Rattle.mu_model.specs.Contents.{IsConfig, holds_all, row_count}
use Rattle.mu_model.specs.Diligence.{is_row_of}
use Rattle.mu_model.specs.Histories.{part}
use Rattle.mu_model.specs.Knowledge.{applied, known}
use Rattle.mu_model.specs.Room.{reserve}
use Rattle.mu_model.specs.Scores.{is_failed}
use Rattle.mu_agree.specs.Moments.{AtEachMoment, AtEachStep}
use Rattle.mu_pace.specs.Watches.{limit}
use Rattle.mu_alive.specs.Bringing.{most_paid}
use Rattle.mu_alive.specs.Enough.{asking_steps}
use Rattle.mu_alive.specs.Finishing.{HaveAllRaised, KeepUp, spreading_steps}
use Rattle.mu_alive.specs.Lagging.{gain_steps}
use Rattle.mu_alive.specs.Last.{FetchesInTime, LeadsLast, last_granting_steps}
use Rattle.mu_alive.specs.Opens.{OpensInTime}

-- after `start` steps a holds each to be failed that doesn't go on
abbrev pub HoldsFailed : Config → (ℕ → Bool) → ℕ → ℕ → List Event → Type 0
HoldsFailed c live a start mine =
    start ≤ length mine → (q : ℕ) → q < c.replicas → live q ≡ false → is_failed a q mine ≡ true

-- a row whose words r reads is of the first entry that it hasn't applied, or of one before that
abbrev pub ReadsInOrder : Config → ℕ → List Event → Event → Type 0
ReadsInOrder c r past e =
    (u k : ℕ) → e.verb ≡ Verb.ReadRow u k
    → is_row_of c u (take (length (applied c r past) + 1) (known c r past)) ≡ true

-- a opens its leadership in time, those that go on keep up with it, fetch rows in time and read them
-- in order, and the others are held failed
pub record IsUnblocked (c : Config) (live : ℕ → Bool) (a start : ℕ) (past : List Event)
    : Type 0 where
  pub opens : OpensInTime c a (part a past)
  pub fetches : (r : ℕ) → r < c.replicas → live r ≡ true → FetchesInTime c r (part r past)
  pub ordered :
      (r : ℕ) → r < c.replicas → live r ≡ true → AtEachStep (ReadsInOrder c r) (part r past)
  pub keep : KeepUp c live a past
  pub failed : AtEachMoment (HoldsFailed c live a start) (part a past)

-- for each entry: FUOs are raised and read, heads are raised, and the leader commits the next;
-- meanwhile late followers are asked after, and join
abbrev pub entry_steps : Config → ℕ
entry_steps c = 4 * limit c c.replicas + gain_steps c + (cycle c + 2)

-- each region is granted to a, and it opens its leadership; it commits entry after entry, and each
-- is learnt and fetched once by the replica that is last; and what a leadership is paid, four times
abbrev pub last_steps_in_any_ring : Config → ℕ → ℕ
last_steps_in_any_ring c a =
    last_granting_steps c a + 2 * asking_steps c + 2 * (c.replicas + 2)
    + (row_count c + reserve c) * entry_steps c
    + ((c.width + 1) * (row_count c + reserve c) + 1) * gain_steps c
    + 4 * most_paid c

-- then it has applied every command
abbrev pub LastLeadersApplyAllInAnyRing : Type 0
LastLeadersApplyAllInAnyRing =
    (c : Config) (live : ℕ → Bool) (a start : ℕ) (past : List Event) → IsConfig c
    → c.version ≡ 2 → LeadsLast c live a start past → IsUnblocked c live a start past
    → start + last_steps_in_any_ring c a ≤ length (part a past)
    → holds_all c (applied c a (part a past)) ≡ true

-- the steps until all that keep up with it have applied all, and raised their heads to it
abbrev pub last_raising_in_any_ring : Config → ℕ → ℕ
last_raising_in_any_ring c a = last_steps_in_any_ring c a + spreading_steps c

abbrev pub LastLeadersRaiseAllInAnyRing : Type 0
LastLeadersRaiseAllInAnyRing =
    (c : Config) (live : ℕ → Bool) (a start : ℕ) (past : List Event) → IsConfig c
    → c.version ≡ 2 → LeadsLast c live a start past → IsUnblocked c live a start past
    → start + last_raising_in_any_ring c a ≤ length (part a past) → HaveAllRaised c live past
