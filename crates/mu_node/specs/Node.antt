-- stands for (node): the state of a node stands for the events of replica r.
use Rattle.std.specs.Prelude.{List, [], take, vec_capacity, ℕ, ◌+◌, ◌<◌, ◌∷◌, ◌≡◌}
use Rattle.kv_store.specs.Commands.{Request}
use Rattle.mu_model.specs.declared.config.Config.{Config}
use Rattle.mu_model.specs.declared.event.Event.{Event}
use Rattle.mu_model.specs.Contents.{row_count}
use Rattle.mu_model.specs.Knowledge.{applied}
use Rattle.mu_model.specs.Room.{reserve}
use Rattle.mu_grant.specs.Stands.{StandsFor as HostStandsFor}
use Rattle.mu_follow.specs.declared.follow.Follow.{Follow}
use Rattle.mu_follow.specs.Follow.{AwaitsEntry, StandsForFollow}
use Rattle.mu_follow.specs.Groups.{AreSpelled}
use Rattle.mu_lead.specs.declared.lead.Lead.{Lead}
use Rattle.mu_lead.specs.Standing.{StandsFor as LeadStandsFor}
use Rattle.mu_node.specs.declared.node.Node.{Node}
use Rattle.mu_node.specs.Answers.{HoldsAnswers}
use Rattle.mu_node.specs.Cycle.{handed, handed_before}
use Rattle.mu_node.specs.Reads.{ReadsNext}
use Rattle.mu_node.specs.Watch.{StandsForWatch}

-- its parts but the leader stand for these events, with what is said of the replayer, and there is
-- room for its log and for what it committed
pub record HoldsWith (Follows : Follow → Type 0) (c : Config) (r : ℕ) (mine : List Event)
    (node : Node) : Type 0 where
  pub id : node.id ≡ r
  pub replicas : node.replicas ≡ c.replicas
  pub budget : node.budget ≡ c.budget
  pub grants : HostStandsFor c.replicas r mine node.grants
  pub watch : StandsForWatch c r mine node.watch
  pub follow : Follows node.follow
  pub no_log : node.log.items ≡ []
  pub log_room : row_count c + reserve c < vec_capacity node.log
  pub no_commits : node.commits.items ≡ []
  pub commit_room : row_count c + reserve c < vec_capacity node.commits

-- its replayer stands for them too
abbrev pub HoldsBeside : Config → ℕ → List Event → Node → Type 0
HoldsBeside c r mine node = HoldsWith (StandsForFollow c r mine) c r mine node

-- its replayer is to be told next which entry the last event, a put, made known
abbrev pub AwaitsBeside : Config → ℕ → List Event → Event → Node → Type 0
AwaitsBeside c r mine event node = HoldsWith (AwaitsEntry c r mine) c r (event ∷ mine) node

-- the leader is that of r, and stands for its events
pub record StandsForLead (c : Config) (r : ℕ) (mine : List Event) (lead : Lead) : Type 0 where
  pub config : lead.config ≡ c
  pub id : lead.id ≡ r
  pub stands : LeadStandsFor mine lead

-- the node stands for the events, with its leader; it has handed on `count` entries, answered to
-- their commands, and read only rows of known batches
pub record HoldsNode (c : Config) (r : ℕ) (mine : List Event) (count : ℕ)
    (node : Node) : Type 0 where
  pub beside : HoldsBeside c r mine node
  pub lead : StandsForLead c r mine node.lead
  pub handed : node.follow.progress.handed ≡ count
  pub answers :
      (commands : List Request) → AreSpelled c commands
      → HoldsAnswers c commands (take count (applied c r mine)) node.answers
  pub reads : ReadsNext c r mine

-- the node stands for the events
abbrev pub StandsForNode : Config → ℕ → List Event → Node → Type 0
StandsForNode c r mine node = HoldsNode c r mine (handed_before c r mine) node

-- the same once the next step is planned, before which what is there is handed on
abbrev pub HasPlanned : Config → ℕ → List Event → Node → Type 0
HasPlanned c r mine node = HoldsNode c r mine (handed c r mine) node
