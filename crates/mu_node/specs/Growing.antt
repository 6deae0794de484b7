-- room for a row, growth, in turn, stands on: a node has room for one row more; a configuration gets
-- one row while a replica has these events; a node stands for events in the midst of a turn too; what
-- it stood for it stands for still.
use Rattle.std.specs.Prelude.{List, length, vec_capacity, ℕ, ◌+◌, ◌<◌}
use Rattle.mu_model.specs.declared.config.Config.{Config}
use Rattle.mu_model.specs.declared.config.Row.{Row}
use Rattle.mu_model.specs.declared.event.Event.{Event}
use Rattle.mu_model.specs.Contents.{row_count}
use Rattle.mu_model.specs.Room.{reserve}
use Rattle.mu_follow.specs.Growing.{HasRoomToFollow}
use Rattle.mu_node.specs.declared.deciding.Decision.{Decision}
use Rattle.mu_node.specs.declared.node.Node.{Node}
use Rattle.mu_node.specs.Deciding.{HasDecided}
use Rattle.mu_node.specs.Node.{HoldsNode, StandsForNode}

-- each of its parts has room for one row more
pub record HasRoomForRow (c : Config) (node : Node) : Type 0 where
  pub follow : HasRoomToFollow c node.follow
  pub lead : row_count c < vec_capacity node.lead.written
  pub answers : row_count c < node.answers.left + length node.answers.replies
  pub log_room : row_count c + reserve c + 1 < vec_capacity node.log
  pub commit_room : row_count c + reserve c + 1 < vec_capacity node.commits

-- the configuration before it grows, the row that it gets, and the events of a replica then
pub record Growth : Type 0 where
  pub config : Config
  pub row : Row
  pub replica : ℕ
  pub mine : List Event

-- the node stands for the events at any moment of a turn, also once it decided what it does next
abbrev pub StandsInTurn : Config → ℕ → List Event → Node → Type 0
StandsInTurn c r mine node = HoldsNode c r mine node.follow.progress.handed node

-- it stands for all events that it stood for, and has decided what it had
pub record StandsOn (before after : Node) : Type 0 where
  pub stands :
      (c : Config) (r : ℕ) (mine : List Event) → StandsForNode c r mine before
      → StandsForNode c r mine after
  pub decided :
      (mine : List Event) (decision : Decision) → HasDecided mine before decision
      → HasDecided mine after decision
