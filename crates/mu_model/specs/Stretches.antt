-- stretch, replication event: some successive events, and those before them; the events at odd
-- places of a journal.
use Rattle.std.specs.Prelude.{Bool, List, [], false, if◌then◌else◌, length, true, ℕ, ◌%◌, ◌++◌, ◌+◌, ◌==◌, ◌∷◌, ◌≡◌}
use Rattle.mu_model.specs.declared.event.Event.{Event}

-- the window comes right after the older events in the history
pub record IsStretch (past window older : List Event) : Type 0 where
  pub newer : List Event
  pub is : past ≡ newer ++ (window ++ older)

-- some event of the stretch passes a test that sees what came before it
abbrev pub some_step : (List Event → Event → Bool) → List Event → List Event → Bool
some_step test [] older = false
some_step test (e ∷ window) older =
    if test (window ++ older) e then true else some_step test window older

-- each event of the stretch passes such a test
abbrev pub each_step : (List Event → Event → Bool) → List Event → List Event → Bool
each_step test [] older = true
each_step test (e ∷ window) older =
    if test (window ++ older) e then each_step test window older else false

-- how many events of the stretch pass such a test
abbrev pub steps : (List Event → Event → Bool) → List Event → List Event → ℕ
steps test [] older = 0
steps test (e ∷ window) older =
    if test (window ++ older) e then steps test window older + 1 else steps test window older

-- n is odd
abbrev pub is_odd : ℕ → Bool
is_odd n = n % 2 == 1

-- the event is a replication event: its index, counted from 0, is odd
abbrev pub is_replication : List Event → Event → Bool
is_replication past e = is_odd (length past)

-- how many replication events the stretch has
abbrev pub replications : List Event → List Event → ℕ
replications window older = steps is_replication window older
