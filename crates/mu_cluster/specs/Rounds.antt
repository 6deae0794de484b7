-- keeps pace, played: where the replicas of a replay are after a number of rounds.
use Rattle.std.specs.Prelude.{Bool, List, Some, [], false, if◌then◌else◌, length, map, nat_lt, not, slice_index, suc, true, ℕ, ◌*◌, ◌++◌, ◌+◌, ◌-◌, ◌<◌, ◌^◌, ◌∷◌, ◌≡◌, ◌≢◌, ◌≤◌, ◌⊎◌}
use Rattle.std.specs.List.{slice_get}
use Rattle.mu_model.specs.declared.config.Config.{Config}
use Rattle.mu_model.specs.declared.event.Event.{Event}
use Rattle.mu_model.specs.declared.script.End.{End}
use Rattle.mu_model.specs.declared.script.Pause.{Pause}
use Rattle.mu_model.specs.declared.script.Script.{Script}
use Rattle.mu_model.specs.Ends.{EndsBy}
use Rattle.mu_model.specs.Histories.{has, history, part}
use Rattle.mu_node.specs.declared.zeal.Zeal.{Zeal}
use Rattle.mu_node.specs.Following.{FollowsTurns}
use Rattle.mu_cluster.specs.declared.rounds.Seat.{Seat}
use Rattle.mu_outcome.specs.Turns.{ids_after, ids_in_round, is_due, pace}
use Rattle.mu_cluster.specs.Pauses.{IsNextPause}

-- the events of r among these, newest first
abbrev pub part_of : ℕ → List Event → List Event
part_of r events = part r (history events)

abbrev pub id_of : Event → ℕ
id_of e = e.by

-- a replica that took this many steps, and has waited this many rounds since, keeps the pace of one
-- that takes `all` steps: exactly the steps taken if it has ended, and at least those if not
abbrev pub KeepsPace : List Pause → ℕ → Bool → ℕ → ℕ → ℕ → Type 0
KeepsPace pauses r ended taken waited rounds =
    (all : ℕ) → taken ≤ all → (ended ≡ true → all ≡ taken)
    → ((pace pauses r all rounds).taken ≡ taken)
    × (taken < all → (pace pauses r all rounds).waited ≡ waited)

-- no shorter beginning of the events has an end
abbrev pub EndsNowhereBefore : Config → Script → ℕ → List Event → Type 0
EndsNowhereBefore c script r mine =
    (newer older : List Event) (end : End) → mine ≡ newer ++ older → newer ≢ []
    → EndsBy c script r older end → ⊥

-- replica r, whose node is of this kind, is at this point after this many rounds
pub record Sits (kind : Zeal) (c : Config) (script : Script) (r : ℕ) (mine : List Event)
    (seat : Seat) (rounds : ℕ) : Type 0 where
  pub follows : FollowsTurns c r mine seat.node
  pub stops : seat.node.stops.items ≡ script.stops
  pub zeal : seat.node.zeal ≡ kind
  pub next : IsNextPause script.pauses r (length mine) seat.next
  pub keeps : KeepsPace script.pauses r seat.ended (length mine) seat.waited rounds
  pub ended : seat.ended ≡ true → (end : End) × EndsBy c script r mine end
  pub before : EndsNowhereBefore c script r mine

-- a round of replica r: it takes a step if it is due, and is at this point after it
pub record Plays (kind : Zeal) (c : Config) (script : Script) (r : ℕ) (old new : List Event)
    (before after : Seat) (rounds : ℕ) : Type 0 where
  pub sits : Sits kind c script r (part_of r new) after (suc rounds)
  pub grows : (new ≡ old) ⊎ ((e : Event) × (e.by ≡ r) × (new ≡ old ++ e ∷ []))
  pub stays : before.ended ≡ true → (after.ended ≡ true) × (new ≡ old)
  pub ids :
      (all : ℕ) → length (part_of r new) ≤ all → (after.ended ≡ true → all ≡ length (part_of r new))
      → map id_of new
      ≡ map id_of old
      ++ (if is_due script.pauses r all (pace script.pauses r all rounds) then r ∷ [] else [])

-- how many turns are left to a replica at most, with the rounds of its pauses
abbrev pub left_of : Seat → ℕ
left_of seat =
    if seat.ended then 0
    else 1 + (seat.node.budget - seat.node.follow.steps) * 2 ^ 33 + (2 ^ 32 - seat.waited)

-- the same of all
abbrev pub all_left : List Seat → ℕ
all_left [] = 0
all_left (seat ∷ seats) = left_of seat + all_left seats

abbrev pub one_if_going : Bool → ℕ
one_if_going true = 0
one_if_going false = 1

-- the replicas may take this many steps in all: exactly those that they took if they have ended,
-- and at least those if not
pub record MayTake (events : List Event) (seats : List Seat) (lengths : List ℕ) : Type 0 where
  pub count : length lengths ≡ length seats
  pub each :
      (r : ℕ) (seat : Seat) → slice_get seats r ≡ Some seat
      → (length (part_of r events) ≤ slice_index lengths r)
      × (seat.ended ≡ true → slice_index lengths r ≡ length (part_of r events))

-- nodes of this kind after this many rounds, and the turns of the first k replicas in the next one
pub record PlayedBy (kind : Zeal) (c : Config) (script : Script) (events : List Event)
    (seats : List Seat) (rounds k : ℕ) : Type 0 where
  pub count : length seats ≡ c.replicas
  pub played :
      (r : ℕ) (seat : Seat) → slice_get seats r ≡ Some seat → r < k
      → Sits kind c script r (part_of r events) seat (suc rounds)
  pub waits :
      (r : ℕ) (seat : Seat) → slice_get seats r ≡ Some seat → k ≤ r
      → Sits kind c script r (part_of r events) seat rounds
  pub ids :
      (lengths : List ℕ) → MayTake events seats lengths
      → map id_of events
      ≡ ids_after script.pauses lengths rounds ++ ids_in_round script.pauses lengths rounds k
  pub own : has (λ e. not (nat_lt e.by c.replicas)) (history events) ≡ false

-- the same of plain nodes
abbrev pub Played : Config → Script → List Event → List Seat → ℕ → ℕ → Type 0
Played c script events seats rounds k = PlayedBy Zeal.Plain c script events seats rounds k
