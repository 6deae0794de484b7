-- When a leader and what stands with it stand for the events of all replicas.
use Rattle.std.specs.Prelude.{List, ℕ, ◌≡◌}
use Rattle.mu_model.specs.declared.config.Config.{Config}
use Rattle.mu_model.specs.declared.event.Event.{Event}
use Rattle.mu_model.specs.Contents.{IsConfig}
use Rattle.mu_model.specs.Histories.{part}
use Rattle.mu_detect.specs.Stands.{StandsFor as ScoresStandFor}
use Rattle.mu_detect.specs.declared.scores.Scores.{Scores}
use Rattle.mu_lead.specs.Standing.{StandsFor}
use Rattle.mu_replicas.specs.Stands.{StandsForReplica, StandsForReplicas}
use Rattle.mu_replicas.specs.declared.replica.Replica.{Replica}
use Rattle.mu_replicas.specs.declared.replicas.Replicas.{Replicas}
use Rattle.worked_leads.specs.declared.driven.Driven.{Driven}

-- what stands with the leader of r, one of three replicas, stands for the history
pub record Beside (c : Config) (r : ℕ) (past : List Event) (own : Replica) (scores : Scores)
    (all : Replicas) : Type 0 where
  pub config : IsConfig c
  pub three : c.replicas ≡ 3
  pub own_stands : StandsForReplica c r (part r past) own
  pub scores_stand : ScoresStandFor 3 r (part r past) scores
  pub all_stand : StandsForReplicas c past all

-- the leader does too
pub record Drives (past : List Event) (d : Driven) : Type 0 where
  pub beside : Beside d.lead.config d.lead.id past d.own d.scores d.all
  pub stands : StandsFor (part d.lead.id past) d.lead
