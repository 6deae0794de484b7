-- why not committed, why not finished, promises: why a job promises nothing, and what it promises.
use Rattle.std.specs.Prelude.{None, Some, if◌then◌else◌, not, ℕ, ◌*◌, ◌+◌, ◌==◌, ◌≡◌}
use Rattle.std.specs.declared.option.Option.{Option}
use Rattle.mu_enough.specs.declared.promises.Cause.{Cause}
use Rattle.mu_enough.specs.declared.promises.Promise.{Promise}
use Rattle.mu_enough.specs.declared.promises.Promises.{Promises}
use Rattle.mu_enough.specs.Committed.{committed_by}
use Rattle.mu_enough.specs.Finished.{finished_by}
use Rattle.mu_enough.specs.Lines.{has_large_ring, has_pause, has_stop, is_majority_left}
use Rattle.mu_model.specs.declared.config.Config.{Config}
use Rattle.mu_model.specs.declared.script.Script.{Script}
use Rattle.mu_model.specs.Contents.{row_count}
use Rattle.mu_model.specs.Room.{reserve}

-- why no number is promised after stops, in a ring that lacks a place for some entry, if no line
-- pauses
abbrev pub why_not_after_stops : Config → Script → Option Cause
why_not_after_stops c script =
    if not (has_stop script) then None
    else
    if c.version == 2 then None else Some Cause.StoppedInSmallRing

-- the same, if a line may pause
abbrev pub why_not_in_small_ring : Config → Script → Option Cause
why_not_in_small_ring c script =
    if has_pause script then Some Cause.PausedInSmallRing else why_not_after_stops c script

-- why no replica is promised to have every command
abbrev pub why_not_committed : Config → Script → Option Cause
why_not_committed c script =
    if not (is_majority_left c script) then Some Cause.HalfStopped
    else
    if has_large_ring c then None else why_not_in_small_ring c script

-- why none is promised to finish
abbrev pub why_not_finished : Config → Script → Option Cause
why_not_finished c script =
    if not (is_majority_left c script) then Some Cause.HalfStopped
    else
    if has_pause script then Some Cause.Paused
    else
    if has_large_ring c then None
    else why_not_after_stops c script

-- either this number is promised and there is no cause, or none is and this is the cause
abbrev pub IsPromise : Option ℕ → Option Cause → Promise → Type 0
IsPromise number why (Promise.By steps) = (number ≡ Some steps) × (why ≡ None)
IsPromise number why (Promise.Nothing cause) = (number ≡ None) × (why ≡ Some cause)

-- this is what the job promises of its replay, with its budget and the places of a large ring
pub record ArePromises (c : Config) (script : Script) (promises : Promises) : Type 0 where
  pub committed : IsPromise (committed_by c script) (why_not_committed c script) promises.committed
  pub finished : IsPromise (finished_by c script) (why_not_finished c script) promises.finished
  pub budget : promises.budget ≡ c.budget
  pub large_ring : promises.large_ring ≡ row_count c + 2 * reserve c
