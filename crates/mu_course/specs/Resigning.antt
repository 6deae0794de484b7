-- yields, resigns: in a turn of replication a replica beats because another is named; it gives up a
-- leadership by that.
--
-- In a turn of replication a replica is told which leader its scores name, and does nothing but
-- beat if that is another replica.
use Rattle.std.specs.Prelude.{ℕ, Bool, false, if◌then◌else◌, not, ◌&&◌, ◌||◌, List, [], ◌∷◌}
use Rattle.mu_model.specs.declared.config.Config.{Config}
use Rattle.mu_model.specs.declared.event.Event.{Event}
use Rattle.mu_model.specs.Leaderships.{begins_leadership, has_begun, is_over}
use Rattle.mu_model.specs.Steps.{is_beat, is_named}
use Rattle.mu_model.specs.Stretches.{is_replication}

-- r beats in a turn of replication, while its scores name another replica
abbrev pub yields : Config → ℕ → List Event → Event → Bool
yields c r mine e = is_beat e && (is_replication mine e && not (is_named c r mine))

-- it did so since its last leadership began, and gave that up by it
abbrev pub has_resigned : Config → ℕ → List Event → Bool
has_resigned c r [] = false
has_resigned c r (e ∷ mine) =
    if begins_leadership r e then false else (yields c r mine e || has_resigned c r mine)

-- a leadership of r is under way: it has begun, is not over and wasn't given up
abbrev pub is_leading : Config → ℕ → List Event → Bool
is_leading c r mine = has_begun r mine && (not (is_over r mine) && not (has_resigned c r mine))

-- by the event r gives up the leadership that is under way
abbrev pub resigns : Config → ℕ → List Event → Event → Bool
resigns c r mine e = is_leading c r mine && yields c r mine e
