-- is left, last line step, disturbed until, least left: what the lines of a script say of a job: who
-- is stopped by none, the greatest step of the lines, the rounds after which no line disturbs a
-- replay, and the least replica that no line stops.
use Rattle.std.specs.Prelude.{Bool, List, [], false, if◌then◌else◌, length, max, nat_le, nat_lt, not, suc, zero, ℕ, ◌*◌, ◌+◌, ◌==◌, ◌∷◌}
use Rattle.mu_model.specs.declared.config.Config.{Config}
use Rattle.mu_model.specs.declared.script.Pause.{Pause}
use Rattle.mu_model.specs.declared.script.Script.{Script}
use Rattle.mu_model.specs.declared.script.Stop.{Stop}
use Rattle.mu_model.specs.Contents.{row_count}
use Rattle.mu_model.specs.Histories.{count_below}
use Rattle.mu_model.specs.Leaderships.{majority_of}
use Rattle.mu_model.specs.Room.{reserve}
use Rattle.mu_model.specs.Scores.{least_below}
use Rattle.mu_model.specs.Stops.{is_stopped}

-- no line stops r
abbrev pub is_left : List Stop → ℕ → Bool
is_left stops r = not (is_stopped r stops)

-- the greatest step of these lines
abbrev pub last_stop_step : List Stop → ℕ
last_stop_step [] = 0
last_stop_step (stop ∷ stops) = max stop.steps (last_stop_step stops)

-- of the lines that stop a replica below s
abbrev pub last_stop_below : List Stop → ℕ → ℕ
last_stop_below [] s = 0
last_stop_below (stop ∷ stops) s =
    max (if nat_lt stop.replica s then stop.steps else 0) (last_stop_below stops s)

abbrev pub last_pause_step : List Pause → ℕ
last_pause_step [] = 0
last_pause_step (pause ∷ pauses) = max pause.steps (last_pause_step pauses)

abbrev pub last_line_step : Script → ℕ
last_line_step script = max (last_stop_step script.stops) (last_pause_step script.pauses)

-- the rounds of all pauses of r together
abbrev pub paused_rounds : List Pause → ℕ → ℕ
paused_rounds [] r = 0
paused_rounds (pause ∷ pauses) r =
    (if pause.replica == r then pause.rounds else 0) + paused_rounds pauses r

-- of the replicas below n, the most rounds that the pauses of one have together
abbrev pub most_paused_rounds : List Pause → ℕ → ℕ
most_paused_rounds pauses zero = 0
most_paused_rounds pauses (suc n) =
    max (paused_rounds pauses n) (most_paused_rounds pauses n)

-- after this many rounds each replica that a line stops has ended, and no pause holds or is to come
abbrev pub disturbed_until : Config → Script → ℕ
disturbed_until c script =
    last_line_step script + most_paused_rounds script.pauses c.replicas + 1

-- a line pauses a replica; a line stops one
abbrev pub has_pause : Script → Bool
has_pause script = nat_le 1 (length script.pauses)

abbrev pub has_stop : Script → Bool
has_stop script = nat_le 1 (length script.stops)

-- more than half of the replicas are stopped by no line
abbrev pub is_majority_left : Config → Script → Bool
is_majority_left c script =
    nat_le (majority_of c.replicas) (count_below c.replicas (is_left script.stops))

-- the least of those
abbrev pub least_left : Config → Script → ℕ
least_left c script = least_below c.replicas (is_left script.stops)

-- the ring has a place for each entry
abbrev pub has_large_ring : Config → Bool
has_large_ring c = nat_le (row_count c + 2 * reserve c) c.ring
