-- fabric, value of a port, same port, of one list: the shared memory and its ports as contracts see
-- them; when two values are one port; and that parts are of one legal list.
use Rattle.std.specs.Prelude.{List, None, Some, [], length, reverse, slice_index_or, suc, zero, ℕ, ◌++◌, ◌<◌, ◌∷◌, ◌≡◌}
use Rattle.std.specs.List.{slice_get}
use Rattle.std.specs.declared.option.Option.{Option}
use Rattle.atomic_table.specs.Seated.{TableId}
use Rattle.mu_model.specs.declared.config.Config.{Config}
use Rattle.mu_model.specs.declared.event.Event.{Event}
use Rattle.mu_model.specs.Contents.{IsConfig}
use Rattle.mu_model.specs.Legal.{IsLegal}
use Rattle.mu_model.specs.Parts.{HasParts, IsPossible}
use Rattle.shared_steps.specs.declared.rule.Entry.{Entry}
use Rattle.shared_steps.specs.Rule.{empty_entries, entry_of}
use Rattle.shared_steps.specs.Seats.{Board, IsOf, IsRootOf, Port, Root}

-- which table it is, the configuration, and the entries that no port has
pub record Fabric : Type 0 where
  pub table : TableId
  pub config : Config
  pub entries : List Entry

-- no port was given yet
abbrev pub IsFresh : Fabric → Type 0
IsFresh f = f.entries ≡ empty_entries f.config.replicas

-- the first seat is of the words, and the configuration is the table's
pub record IsFabric (b : Board) (root : Root) (c : Config) : Type 0 where
  pub of : IsRootOf b root
  pub key : b.key ≡ c
  pub is_config : IsConfig c

-- a port: which table it is of, the configuration, the replica, and its part, newest first
pub record PortValue : Type 0 where
  pub table : TableId
  pub config : Config
  pub id : ℕ
  pub part : List Event

-- the seat is of the words, its part is possible, and this is the newest event of it
pub record IsHeld (b : Board) (p : Port) (newest : Option Event) : Type 0 where
  pub of : IsOf b p
  pub possible : IsPossible b.key p.id p.part
  pub newest_is : newest ≡ slice_get p.part 0

-- two values are one port: of one table and configuration, and of one replica
pub record IsSamePort (p q : PortValue) : Type 0 where
  pub table : q.table ≡ p.table
  pub config : q.config ≡ p.config
  pub id : q.id ≡ p.id

abbrev pub fresh_port : TableId → Config → ℕ → PortValue
fresh_port table c r = record { table = table; config = c; id = r; part = [] }

-- the ports of all replicas below n, in order, each with an empty part
abbrev pub fresh_ports : TableId → Config → ℕ → List PortValue
fresh_ports table c zero = []
fresh_ports table c (suc n) = fresh_ports table c n ++ fresh_port table c n ∷ []

-- a port of r of this table
pub record IsPortOf (table : TableId) (c : Config) (r : ℕ) (p : PortValue) : Type 0 where
  pub same_table : p.table ≡ table
  pub same_config : p.config ≡ c
  pub same_id : p.id ≡ r

-- the ports of all replicas, in order, and all of this table
pub record ArePorts (table : TableId) (c : Config) (ports : List PortValue) : Type 0 where
  pub count : length ports ≡ c.replicas
  pub each : (r : ℕ) (p : PortValue) → slice_get ports r ≡ Some p → IsPortOf table c r p

-- the same of some table
pub record AreAllPorts (ports : List PortValue) : Type 0 where
  pub table : TableId
  pub config : Config
  pub are : ArePorts table config ports

-- each port of the new list is the same port as that of the old one
pub record StayPorts (old new : List PortValue) : Type 0 where
  pub count : length new ≡ length old
  pub each :
      (r : ℕ) (d : PortValue) → r < length old
      → IsSamePort (slice_index_or old r d) (slice_index_or new r d)

-- so they are the ports of all replicas as before
abbrev pub StayingIsEnough : Type 0
StayingIsEnough =
    (table : TableId) (c : Config) (old new : List PortValue) → ArePorts table c old
    → StayPorts old new → ArePorts table c new

-- a configuration, and the parts of all replicas, each in true order
pub record Collected : Type 0 where
  pub config : Config
  pub parts : List (List Event)

-- the part of an entry, in true order, if there is one
abbrev pub part_of_entry : Option Entry → List Event
part_of_entry None = []
part_of_entry (Some e) = reverse e.part

-- the parts of n replicas from k on, in order, each in true order
abbrev pub parts_from : ℕ → ℕ → List Entry → List (List Event)
parts_from k zero entries = []
parts_from k (suc n) entries = part_of_entry (entry_of k entries) ∷ parts_from (suc k) n entries

-- the parts of all replicas, as entries have them
abbrev pub collected : Config → List Entry → Collected
collected c entries = record { config = c; parts = parts_from 0 c.replicas entries }

-- one legal list has exactly these parts
pub record AreOfOneList (c : Collected) : Type 0 where
  pub events : List Event
  pub legal : IsLegal c.config events
  pub has_parts : HasParts c.config events c.parts
