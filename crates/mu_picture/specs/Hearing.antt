-- What a read of beats changes for the replica that makes it.
use Rattle.std.specs.Prelude.{ℕ, ◌≡◌, None, Some, List, ◌∷◌}
use Rattle.std.specs.declared.option.Option.{Option}
use Rattle.mu_model.specs.declared.config.Config.{Config}
use Rattle.mu_model.specs.declared.event.Event.{Event}
use Rattle.mu_model.specs.declared.event.Verb.{Verb}
use Rattle.mu_model.specs.Scores.{is_failed, leader}
use Rattle.mu_picture.specs.declared.deeds.Heard.{Heard}

-- the replica whose beats the verb reads
abbrev pub heard_by : Verb → Option ℕ
heard_by (Verb.ReadBeat q) = Some q
heard_by verb = None

-- whether q is failed for the replica of the event before it and after it, and whom that replica
-- names then
pub record Hears (c : Config) (mine : List Event) (q : ℕ) (e : Event) (heard : Heard) : Type 0 where
  pub was : heard.was ≡ is_failed e.by q mine
  pub now : heard.now ≡ is_failed e.by q (e ∷ mine)
  pub named : heard.named ≡ leader c e.by (e ∷ mine)
