-- follows the listing, leads after: what a leader's listing says of its asks, fences and minima;
-- the least of those that go on leads them after whatever came before, and the steps after which it
-- knows every command.
use Rattle.std.specs.Prelude.{Bool, List, None, false, is_some, length, not, true, ℕ, ◌*◌, ◌++◌, ◌+◌, ◌<◌, ◌==◌, ◌||◌, ◌≡◌, ◌≢◌, ◌≤◌}
use Rattle.mu_model.specs.declared.config.Config.{Config}
use Rattle.mu_model.specs.declared.event.Event.{Event}
use Rattle.mu_model.specs.declared.event.Verb.{Verb}
use Rattle.mu_model.specs.Bounds.{cycle}
use Rattle.mu_model.specs.Contents.{IsConfig, holds_all, row_count}
use Rattle.mu_model.specs.Diligence.{AsksInTime, was_unnamed}
use Rattle.mu_model.specs.Ends.{outrun}
use Rattle.mu_model.specs.Histories.{has, how_many, part}
use Rattle.mu_model.specs.Knowledge.{applied}
use Rattle.mu_model.specs.Leaderships.{begins_leadership, has_begun, leadership, noted_grant, proposal_number}
use Rattle.mu_model.specs.Room.{reserve}
use Rattle.mu_model.specs.Steps.{has_min, is_asking, is_fencing, is_min, is_named, knows_all}
use Rattle.mu_model.specs.Stretches.{is_replication}
use Rattle.mu_pace.specs.Collecting.{LeaderKeepsBy}
use Rattle.mu_agree.specs.Moments.{AtEachStep}
use Rattle.mu_pace.specs.Watches.{limit}
use Rattle.mu_alive.specs.Clearing.{clearing_steps}
use Rattle.mu_alive.specs.Enough.{HasLargeRing, asking_steps}
use Rattle.mu_alive.specs.Failing.{failing_steps}
use Rattle.mu_alive.specs.Fair.{KeepsUp}
use Rattle.mu_alive.specs.Last.{FetchesInTime, fetching_steps}
use Rattle.mu_alive.specs.Settling.{KeepGoing}

-- the verb is `Min(p)`
abbrev pub is_min_of_verb : ℕ → Verb → Bool
is_min_of_verb p (Verb.Min q) = q == p
is_min_of_verb p _ = false

-- the event is a `Min(p)`
abbrev pub is_min_of : ℕ → Event → Bool
is_min_of p e = is_min_of_verb p e.verb

-- the event puts the number of a leadership that has none yet
pub record PutsFirst (r : ℕ) (past : List Event) (e : Event) : Type 0 where
  pub region : ℕ
  pub number : ℕ
  pub puts : e.verb ≡ Verb.PutMin region number
  pub first : proposal_number r past ≡ None

-- a replica that names itself again, or for the first time, asks region 0 at once; it asks each
-- region before the first minimum of a leadership; before its number is put it reads each fence,
-- and the minimum of each region that it noted
pub record FollowsListing (c : Config) (r : ℕ) (past : List Event) (e : Event) : Type 0 where
  pub returns :
      is_replication past e ≡ true → is_named c r past ≡ true
      → (was_unnamed c r past || not (has_begun r past)) ≡ true → begins_leadership r e ≡ true
  pub asked :
      (p : ℕ) → p < c.replicas → p ≢ 0 → is_min e ≡ true → has_min r past ≡ false
      → has (is_asking p) (leadership r past) ≡ true
  pub fenced :
      (p : ℕ) → p < c.replicas → PutsFirst r past e
      → 1 ≤ how_many (is_fencing p) (leadership r past)
  pub read :
      (p : ℕ) → p < c.replicas → PutsFirst r past e → is_some (noted_grant r p past) ≡ true
      → has (is_min_of p) (leadership r past) ≡ true

-- a goes on with a majority that keeps up with it, and it follows the listing and keeps the paces of
-- a leader, which asks again if it may
pub record LeadsAfter (again : Bool) (c : Config) (live : ℕ → Bool) (ratio lag a : ℕ)
    (newer older : List Event) : Type 0 where
  pub on : KeepGoing c live a newer older
  pub keeps_up : KeepsUp c live ratio lag a newer
  pub asks : AsksInTime c a (part a (newer ++ older))
  pub led : AtEachStep (LeaderKeepsBy again c a) (part a (newer ++ older))
  pub listed : AtEachStep (FollowsListing c a) (part a (newer ++ older))
  pub going : outrun c a (part a (newer ++ older)) ≡ None

-- the steps in which a asks anew three times, if it doesn't know all by then: what became known before
-- one ask isn't missing after it
abbrev pub waiting_steps : Config → ℕ
waiting_steps c =
    6 * asking_steps c
    + 2
    * (limit c c.replicas * (row_count c + reserve c + 3) + 18 * c.replicas
    + 24 * (row_count c + reserve c + c.replicas * (row_count c + reserve c)))

-- the steps after the last disturbance until it knows every command: the scores settle, the hosts
-- serve old asks, a leadership ends that began before, another asks for the regions again, it ends
-- too, and the one after that is never over; what the hosts do takes as many steps as they lag
abbrev pub resuming_steps : Config → ℕ → ℕ → ℕ
resuming_steps c ratio lag =
    ratio * (failing_steps c + clearing_steps c + 2 * cycle c) + 3 * lag + asking_steps c
    + waiting_steps c

-- after the last disturbance the least that goes on knows every command in time, in a large ring,
-- whether it may ask again or not
abbrev pub ResumedLeadersKnowAll : Type 0
ResumedLeadersKnowAll =
    (again : Bool) (c : Config) (live : ℕ → Bool) (ratio lag a : ℕ) (newer older : List Event)
    → IsConfig c → HasLargeRing c → LeadsAfter again c live ratio lag a newer older
    → resuming_steps c ratio lag ≤ length (part a newer)
    → knows_all c a (part a (newer ++ older)) ≡ true

-- and has applied it, if it fetches rows in time
abbrev pub ResumedLeadersApplyAll : Type 0
ResumedLeadersApplyAll =
    (again : Bool) (c : Config) (live : ℕ → Bool) (ratio lag a : ℕ) (newer older : List Event)
    → IsConfig c → HasLargeRing c → LeadsAfter again c live ratio lag a newer older
    → FetchesInTime c a (part a (newer ++ older))
    → resuming_steps c ratio lag + fetching_steps c ≤ length (part a newer)
    → holds_all c (applied c a (part a (newer ++ older))) ≡ true
