-- finishing steps, finished by: the steps with which each replica of a replay has applied all,
-- raised its head, and read the others' heads, also after leaders stopped; those by which each that
-- isn't stopped has finished, a number of the job alone, by the case that the job is.
use Rattle.std.specs.Prelude.{None, Some, if◌then◌else◌, max, not, ℕ, ◌*◌, ◌+◌, ◌==◌}
use Rattle.std.specs.declared.option.Option.{Option}
use Rattle.mu_alive.specs.Failing.{failing_steps}
use Rattle.mu_alive.specs.Finishing.{last_raising_steps, raising_steps}
use Rattle.mu_alive.specs.Lagging.{raising_in_any_ring}
use Rattle.mu_alive.specs.Stopping.{last_raising_in_any_ring}
use Rattle.mu_model.specs.declared.config.Config.{Config}
use Rattle.mu_model.specs.declared.script.Script.{Script}
use Rattle.mu_model.specs.Bounds.{cycle}
use Rattle.mu_enough.specs.Lines.{has_large_ring, has_pause, has_stop, is_left, is_majority_left, last_stop_below, last_stop_step, least_left}

-- the steps with which each replica has applied all, raised its head, and read the others' heads, if
-- replica 0 isn't stopped
abbrev pub finishing_steps : Config → ℕ
finishing_steps c = raising_steps c + c.replicas * cycle c

-- those after the last one of each replica below s, if s is the least that goes on
abbrev pub finishing_after : Config → ℕ → ℕ
finishing_after c s = failing_steps c + last_raising_steps c s + c.replicas * cycle c

-- the same in any ring, if nobody is stopped; and in version 2 those after the last step of all that
-- were stopped
abbrev pub finishing_in_any_ring : Config → ℕ
finishing_in_any_ring c = raising_in_any_ring c + c.replicas * cycle c

abbrev pub finishing_after_in_any_ring : Config → ℕ → ℕ
finishing_after_in_any_ring c s =
    failing_steps c + last_raising_in_any_ring c s + c.replicas * cycle c

-- in a large ring, by what the script is: no line stops replica 0; one does
abbrev pub finishing_in_large_ring : Config → Script → ℕ
finishing_in_large_ring c script =
    if is_left script.stops 0 then finishing_steps c
    else
    last_stop_below script.stops (least_left c script) + finishing_after c (least_left c script)

-- and whoever is stopped is held failed
abbrev pub finished_in_large_ring : Config → Script → ℕ
finished_in_large_ring c script =
    max (finishing_in_large_ring c script) (last_stop_step script.stops + failing_steps c)

-- in any ring: no line stops anybody; in version 2
abbrev pub finished_in_any_ring : Config → Script → Option ℕ
finished_in_any_ring c script =
    if not (has_stop script) then Some (finishing_in_any_ring c)
    else
    if c.version == 2
    then Some (last_stop_step script.stops + finishing_after_in_any_ring c (least_left c script))
    else None

-- the steps by which each replica that isn't stopped has finished, if no line pauses and more than
-- half are stopped by none
abbrev pub finished_by : Config → Script → Option ℕ
finished_by c script =
    if not (is_majority_left c script) then None
    else
    if has_pause script then None
    else
    if has_large_ring c then Some (finished_in_large_ring c script)
    else finished_in_any_ring c script
