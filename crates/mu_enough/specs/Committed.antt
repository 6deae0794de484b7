-- committed by: the steps by which a replica has every command in its log, a number of the job alone,
-- by the case that the job is.
use Rattle.std.specs.Prelude.{None, Some, if◌then◌else◌, not, ℕ, ◌+◌, ◌==◌}
use Rattle.std.specs.declared.option.Option.{Option}
use Rattle.mu_alive.specs.Enough.{steps_enough}
use Rattle.mu_alive.specs.Failing.{failing_steps}
use Rattle.mu_alive.specs.Lagging.{steps_in_any_ring}
use Rattle.mu_alive.specs.Last.{fetching_steps, last_steps}
use Rattle.mu_alive.specs.Resuming.{resuming_steps}
use Rattle.mu_alive.specs.Stopping.{last_steps_in_any_ring}
use Rattle.mu_model.specs.declared.config.Config.{Config}
use Rattle.mu_model.specs.declared.script.Script.{Script}
use Rattle.mu_enough.specs.Lines.{disturbed_until, has_large_ring, has_pause, has_stop, is_left, is_majority_left, last_stop_below, last_stop_step, least_left}

-- the steps after the last pause and the last stop until s has every command
abbrev pub steps_after_pauses : Config → ℕ
steps_after_pauses c = resuming_steps c 1 1 + fetching_steps c

-- the steps after the last one of each lower replica until s has every command
abbrev pub steps_after : Config → ℕ → ℕ
steps_after c s = failing_steps c + last_steps c s + fetching_steps c

-- the steps after the last one of all that were stopped until s has every command, in any ring
abbrev pub steps_after_in_any_ring : Config → ℕ → ℕ
steps_after_in_any_ring c s = failing_steps c + last_steps_in_any_ring c s

-- in a large ring, by the first of these that the script is: a line pauses; none stops replica 0;
-- one does
abbrev pub committed_in_large_ring : Config → Script → ℕ
committed_in_large_ring c script =
    if has_pause script then disturbed_until c script + steps_after_pauses c
    else
    if is_left script.stops 0 then steps_enough c
    else
    last_stop_below script.stops (least_left c script) + steps_after c (least_left c script)

-- in any ring: there is no line; no line pauses, in version 2
abbrev pub committed_in_any_ring : Config → Script → Option ℕ
committed_in_any_ring c script =
    if has_pause script then None
    else
    if not (has_stop script) then Some (steps_in_any_ring c)
    else
    if c.version == 2
    then Some (last_stop_step script.stops + steps_after_in_any_ring c (least_left c script))
    else None

-- the steps by which a replica has every command, if more than half are stopped by no line
abbrev pub committed_by : Config → Script → Option ℕ
committed_by c script =
    if not (is_majority_left c script) then None
    else
    if has_large_ring c then Some (committed_in_large_ring c script)
    else committed_in_any_ring c script
