-- turns: the order of ids in a replay, pauses included: rounds, in which each replica in order of
-- id takes one turn.
use Rattle.std.specs.Prelude.{ℕ, zero, suc, ◌+◌, ◌≡◌, ◌<◌, Bool, true, false, if◌then◌else◌, ◌&&◌, not, ◌==◌, nat_lt, List, [], ◌∷◌, ◌++◌, length, slice_index}
use Rattle.mu_model.specs.declared.script.Script.{Script}
use Rattle.mu_model.specs.declared.script.Pause.{Pause}

-- for how many rounds a replica is passed over once it has taken this number of steps
abbrev pub rounds_paused : List Pause → ℕ → ℕ → ℕ
rounds_paused [] r steps = 0
rounds_paused (pause ∷ pauses) r steps =
    if (pause.replica == r) && (pause.steps == steps) then pause.rounds
    else rounds_paused pauses r steps

-- how far a replica is: the steps that it has taken, and the rounds since then without a step
pub record Pace : Type 0 where
  pub taken : ℕ
  pub waited : ℕ

-- a replica that takes `all` steps takes its next one now: some are left, and no pause holds
abbrev pub is_due : List Pause → ℕ → ℕ → Pace → Bool
is_due pauses r all pace =
    nat_lt pace.taken all && not (nat_lt pace.waited (rounds_paused pauses r pace.taken))

-- how far it is after one more round
abbrev pub pace_after : Bool → Pace → Pace
pace_after true pace = record { taken = pace.taken + 1; waited = 0 }
pace_after false pace = record { taken = pace.taken; waited = pace.waited + 1 }

-- how far a replica that takes `all` steps is after a number of rounds
abbrev pub pace : List Pause → ℕ → ℕ → ℕ → Pace
pace pauses r all zero = record { taken = 0; waited = 0 }
pace pauses r all (suc round) =
    pace_after (is_due pauses r all (pace pauses r all round)) (pace pauses r all round)

-- the ids below n that take a step in the round, ascending
abbrev pub ids_in_round : List Pause → List ℕ → ℕ → ℕ → List ℕ
ids_in_round pauses lengths round zero = []
ids_in_round pauses lengths round (suc n) =
    ids_in_round pauses lengths round n
    ++
    (if is_due pauses n (slice_index lengths n) (pace pauses n (slice_index lengths n) round)
    then n ∷ [] else [])

-- the ids of the steps of a number of rounds
abbrev pub ids_after : List Pause → List ℕ → ℕ → List ℕ
ids_after pauses lengths zero = []
ids_after pauses lengths (suc round) =
    ids_after pauses lengths round ++ ids_in_round pauses lengths round (length lengths)

-- these are the ids of the rounds in which each replica takes as many steps as its length says
pub record IsTurns (script : Script) (lengths ids : List ℕ) : Type 0 where
  pub rounds : ℕ
  pub all :
      (r : ℕ) → r < length lengths
      → (pace script.pauses r (slice_index lengths r) rounds).taken ≡ slice_index lengths r
  pub is : ids ≡ ids_after script.pauses lengths rounds
