-- follows turns: a node made each of its events as it was due, and its leader is where they have it.
use Rattle.std.specs.Prelude.{List, ℕ}
use Rattle.mu_model.specs.declared.config.Config.{Config}
use Rattle.mu_model.specs.declared.event.Event.{Event}
use Rattle.mu_lead.specs.Journal.{IsWhere}
use Rattle.mu_node.specs.declared.node.Node.{Node}
use Rattle.mu_node.specs.Journal.{IsListed, WasMade}
use Rattle.mu_node.specs.Node.{StandsForNode}
use Rattle.mu_agree.specs.Moments.{AtEachStep}

-- the node stands for these events, which it made by its turns: no row came meanwhile
pub record FollowsTurns (c : Config) (r : ℕ) (mine : List Event) (node : Node) : Type 0 where
  pub stands : StandsForNode c r mine node
  pub made : AtEachStep (WasMade c r) mine
  pub listed : AtEachStep (IsListed node.zeal c r) mine
  pub placed : IsWhere c r mine node.lead
