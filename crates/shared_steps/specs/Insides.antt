-- seated: a seat has the entry of its replica, and keeps what its next step needs.
use Rattle.std.specs.Prelude.{List, [], ℕ, ◌≡◌}
use Rattle.atomic_table.specs.Table.{Me}
use Rattle.mu_model.specs.declared.config.Config.{Config}
use Rattle.mu_model.specs.declared.event.Event.{Event}
use Rattle.mu_model.specs.Contents.{IsConfig}
use Rattle.mu_model.specs.Parts.{IsPossible}
use Rattle.mu_words.specs.declared.found.Found.{Found}
use Rattle.mu_words.specs.Founds.{FoundIs}
use Rattle.mu_words.specs.Places.{word_count}
use Rattle.shared_steps.specs.declared.rule.View.{View}
use Rattle.shared_steps.specs.declared.root.RootSeat.TheInside as root
use Rattle.shared_steps.specs.declared.seat.PortSeat.TheInside as seat
use Rattle.shared_steps.specs.declared.words.Words.TheInside as words
use Rattle.shared_steps.specs.Rule.{layout_of, part_in, single}
use Rattle.shared_steps.specs.Seats.{Board, Port, Root}

abbrev pub board_of : words.Inside → Board
board_of w = record { table = w.table.shared.table_id; key = w.table.shared.key }

-- the table has the words of its configuration, and no slots
pub record IsBoard (w : words.Inside) : Type 0 where
  pub is_config : IsConfig w.table.shared.key
  pub layout : w.layout ≡ layout_of w.table.shared.key
  pub count : w.table.shared.table_id.words ≡ word_count (layout_of w.table.shared.key)
  pub slots : w.table.shared.table_id.slots ≡ 0

-- the part of the replica: that of the seat's entry
abbrev pub mine_of : seat.Inside → List Event
mine_of s = part_in s.seat.me.0.entries

abbrev pub port_of : seat.Inside → Port
port_of s =
    record { table = s.seat.table_id; config = s.seat.me.0.config; id = s.id; part = mine_of s }

-- the seat has the one entry of r; what is kept of the words found stands for it, and the part is
-- possible
pub record Seated (c : Config) (r : ℕ) (mine : List Event) (found : Found)
    (me : Me (Unit {0}) View) : Type 0 where
  pub seen : List (Event × ℕ)
  pub is_single : me ≡ (single c r mine seen, [])
  pub found_is : FoundIs c r found mine seen
  pub possible : IsPossible c r mine

-- the seat has the entry of its replica, and no slot of the table
pub record IsPort (s : seat.Inside) : Type 0 where
  pub config : Config
  pub is_config : IsConfig config
  pub seated : Seated config s.id (mine_of s) s.found s.seat.me

abbrev pub root_of : root.Inside → Root
root_of s =
    record { table = s.seat.table_id; config = s.seat.me.0.config; entries = s.seat.me.0.entries }

-- the seat has no slot of the table
pub record IsRoot (s : root.Inside) : Type 0 where
  pub slots : s.seat.me.1 ≡ []
