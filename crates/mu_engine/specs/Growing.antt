-- growth, copies, rooms: a row that comes at a moment, seen from a replica; the configuration
-- with it, for all that keep one; and room for it in all replicas.
use Rattle.std.specs.Prelude.{List, Some, length, ℕ, ◌≡◌}
use Rattle.std.specs.List.{slice_get}
use Rattle.mu_model.specs.declared.config.Config.{Config}
use Rattle.mu_model.specs.declared.config.Row.{Row}
use Rattle.mu_model.specs.declared.event.Event.{Event}
use Rattle.mu_model.specs.Histories.{history, part}
use Rattle.mu_node.specs.Growing.{Growth, HasRoomForRow}
use Rattle.mu_engine.specs.declared.growing.Copies.{Copies}
use Rattle.mu_engine.specs.declared.seat.Seat.{Seat}

-- a row comes after these events, seen from replica r
abbrev pub growth_of : Config → Row → ℕ → List Event → Growth
growth_of c row r events =
    record { config = c; row = row; replica = r; mine = part r (history events) }

-- each pair is of this configuration twice
abbrev pub ArePairs : Config → List (Config × Config) → Type 0
ArePairs grown pairs =
    (k : ℕ) (pair : Config × Config) → slice_get pairs k ≡ Some pair
    → (pair.0 ≡ grown) × (pair.1 ≡ grown)

-- these are copies of this configuration, two of them for each of so many nodes
pub record AreCopies (grown : Config) (nodes : ℕ) (copies : Copies) : Type 0 where
  pub own : copies.own ≡ grown
  pub memory : copies.memory ≡ grown
  pub count : length copies.nodes.items ≡ nodes
  pub pairs : ArePairs grown copies.nodes.items

-- each node has room for one row more
abbrev pub HaveRoom : Config → List Seat → Type 0
HaveRoom c seats =
    (r : ℕ) (seat : Seat) → slice_get seats r ≡ Some seat → HasRoomForRow c seat.node
