-- branch, driven: a replica with a port of its own: its node stands for the part of the port, which
-- hasn't ended; and what it is at its end.
use Rattle.std.specs.Prelude.{List, Some, [], length, reverse, ℕ, ◌≡◌}
use Rattle.std.specs.List.{slice_get}
use Rattle.mu_model.specs.declared.config.Config.{Config}
use Rattle.mu_model.specs.declared.event.Event.{Event}
use Rattle.mu_model.specs.declared.script.End.{End}
use Rattle.mu_model.specs.declared.script.Script.{Script}
use Rattle.mu_model.specs.Contents.{IsConfig}
use Rattle.mu_model.specs.Ends.{EndsBy}
use Rattle.mu_node.specs.declared.zeal.Zeal.{Zeal}
use Rattle.mu_node.specs.declared.node.Node.{Node}
use Rattle.mu_node.specs.Following.{FollowsTurns}
use Rattle.shared_fabric.specs.Gathering.{IsSamePort, PortValue}
use Rattle.mu_cluster.specs.declared.branch.Branch.{Branch}
use Rattle.mu_cluster.specs.Rounds.{EndsNowhereBefore}

-- the node made these events of r by its turns, and their end is nowhere before
pub record NodeGoesOn (c : Config) (script : Script) (r : ℕ) (mine : List Event)
    (node : Node) : Type 0 where
  pub follows : FollowsTurns c r mine node
  pub stops : node.stops.items ≡ script.stops
  pub zeal : node.zeal ≡ Zeal.Eager
  pub before : EndsNowhereBefore c script r mine

-- the events have an end
abbrev pub HasEnd : Config → Script → ℕ → List Event → Type 0
HasEnd c script r mine = (end : End) × EndsBy c script r mine end

-- the node stands for the part of its port
pub record Drives (script : Script) (node : Node) (port : PortValue) : Type 0 where
  pub config : IsConfig port.config
  pub goes : NodeGoesOn port.config script port.id port.part node

-- the same, before any step
pub record Starts (script : Script) (b : Branch) : Type 0 where
  pub drives : Drives script b.node b.port
  pub empty : b.port.part ≡ []

-- the branch at its end: the same port, and a part that has an end
pub record IsDriven (script : Script) (b d : Branch) : Type 0 where
  pub same : IsSamePort b.port d.port
  pub drives : Drives script d.node d.port
  pub ends : HasEnd d.port.config script d.port.id d.port.part

-- a port of r before any step
pub record IsFreshPort (c : Config) (r : ℕ) (p : PortValue) : Type 0 where
  pub config : p.config ≡ c
  pub id : p.id ≡ r
  pub empty : p.part ≡ []

-- the node of each replica stands for its part, which ends exactly there; each part is in true
-- order
pub record AreLeft (c : Config) (script : Script) (parts : List (List Event))
    (nodes : List Node) : Type 0 where
  pub count : length nodes ≡ c.replicas
  pub each :
      (r : ℕ) (node : Node) → slice_get nodes r ≡ Some node
      → (mine : List Event) × (slice_get parts r ≡ Some (reverse mine))
      × NodeGoesOn c script r mine node × HasEnd c script r mine
