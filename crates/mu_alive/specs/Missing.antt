-- missing steps, knew: the most replication events that a leadership which nothing interrupts takes from some
-- moment of it on, by how many entries were missing then.
use Rattle.std.specs.Prelude.{Bool, List, length, true, ℕ, ◌*◌, ◌++◌, ◌+◌, ◌<◌, ◌∷◌, ◌≡◌, ◌≤◌}
use Rattle.mu_model.specs.declared.config.Config.{Config}
use Rattle.mu_model.specs.declared.event.Event.{Event}
use Rattle.mu_model.specs.Bounds.{cycle}
use Rattle.mu_model.specs.Contents.{IsConfig, row_count}
use Rattle.mu_model.specs.Diligence.{is_milestone}
use Rattle.mu_model.specs.Histories.{part}
use Rattle.mu_model.specs.Knowledge.{known}
use Rattle.mu_model.specs.Room.{reserve}
use Rattle.mu_model.specs.Steps.{knows_all}
use Rattle.mu_model.specs.Stretches.{replications}
use Rattle.mu_pace.specs.Counters.{IsInTime}
use Rattle.mu_agree.specs.Moments.{AtEachMoment}
use Rattle.mu_pace.specs.Watches.{limit, progressing}
use Rattle.mu_alive.specs.Calm.{IsCalm}
use Rattle.mu_alive.specs.Clearing.{clearing_steps}
use Rattle.mu_alive.specs.Enough.{HasLargeRing, asking_steps}
use Rattle.mu_alive.specs.Failing.{failing_steps}
use Rattle.mu_alive.specs.Resuming.{LeadsAfter}

-- commits are counted only for what is missing; looks for what was known already, and copies for all
abbrev pub missing_steps : Config → ℕ → ℕ → ℕ → ℕ
missing_steps c already missing most =
    limit c c.replicas * (missing + 1) + 6 * c.replicas + 8 * (already + c.replicas * most)

-- in a leadership that nothing interrupts a stretch in which so many entries become known has fewer
-- replication events than that, whatever was known before
abbrev pub CalmLeadersCommitMissing : Type 0
CalmLeadersCommitMissing =
    (c : Config) (r most already missing : ℕ) (first : Event) (window middle older : List Event)
    → AtEachMoment (IsInTime (progressing c r)) (window ++ (middle ++ first ∷ older))
    → is_milestone c r older first ≡ true → IsCalm c r (window ++ middle) (first ∷ older)
    → length (known c r (window ++ (middle ++ first ∷ older))) ≤ most
    → already ≤ length (known c r (middle ++ first ∷ older)) → most ≤ already + missing
    → replications window (middle ++ first ∷ older) < missing_steps c already missing most

-- a knew so many entries before, and no more than the others are missing
pub record Knew (c : Config) (already missing a : ℕ) (older : List Event) : Type 0 where
  pub knew : already ≤ length (known c a (part a older))
  pub lacks : row_count c + reserve c ≤ already + missing

-- the steps within which a asks anew, if it doesn't know all by then
abbrev pub waiting_for : Config → ℕ → ℕ → ℕ
waiting_for c already missing =
    2 * asking_steps c + 2 * missing_steps c already missing (row_count c + reserve c)

-- the steps after the last disturbance until it knows every command: it waits three times, and what
-- became known in one of these isn't missing in the next
abbrev pub resuming_for : Config → ℕ → ℕ → ℕ → ℕ → ℕ
resuming_for c already missing ratio lag =
    ratio * (failing_steps c + clearing_steps c + 2 * cycle c) + 3 * lag + 7 * asking_steps c
    + 2 * (limit c c.replicas * (missing + 3) + 18 * c.replicas
    + 24 * (already + missing + c.replicas * (row_count c + reserve c)))

-- after the last disturbance the least that goes on knows every command in time, by how many it
-- lacked then, in a large ring
abbrev pub ResumedLeadersKnowMissing : Type 0
ResumedLeadersKnowMissing =
    (again : Bool) (c : Config) (already missing : ℕ) (live : ℕ → Bool) (ratio lag a : ℕ)
    (newer older : List Event) → IsConfig c → HasLargeRing c
    → LeadsAfter again c live ratio lag a newer older → Knew c already missing a older
    → resuming_for c already missing ratio lag ≤ length (part a newer)
    → knows_all c a (part a (newer ++ older)) ≡ true
