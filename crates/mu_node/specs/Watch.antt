-- watch (of scores): what a node keeps of the scores stands for the events of replica r.
use Rattle.std.specs.Prelude.{Bool, List, false, true, ℕ, ◌≡◌}
use Rattle.mu_model.specs.declared.config.Config.{Config}
use Rattle.mu_model.specs.declared.event.Event.{Event}
use Rattle.mu_model.specs.declared.event.Verb.{Verb}
use Rattle.mu_model.specs.Scores.{leader}
use Rattle.mu_detect.specs.Stands.{StandsFor}
use Rattle.mu_knowledge.specs.Telling.{TakesEvent}
use Rattle.mu_lead.specs.Standing.{TellsFailed}
use Rattle.mu_node.specs.declared.watch.Watch.{Watch}

-- the scores stand for them, and so do the replica that they name and the bits of the failed ones
pub record StandsForWatch (c : Config) (r : ℕ) (mine : List Event) (watch : Watch) : Type 0 where
  pub scores : StandsFor c.replicas r mine watch.scores
  pub named : watch.named ≡ leader c r mine
  pub failed : TellsFailed c r mine watch.failed

-- the event of a replica, one of n, is taken
abbrev pub TakesForWatch : ℕ → Event → Watch → Watch → Type 0
TakesForWatch n e before after =
    (c : Config) → (r : ℕ) → (mine : List Event) → n ≡ c.replicas
    → TakesEvent StandsForWatch c r mine e before after

-- the verb reads a count of beats
abbrev pub is_beat_read : Verb → Bool
is_beat_read (Verb.ReadBeat q) = true
is_beat_read _ = false
