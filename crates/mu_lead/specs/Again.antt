-- is at its first ask, tells astray: a leader that asks again is at the first ask with its tables, and
-- its note names the first region that has gone astray.
use Rattle.std.specs.Prelude.{List, Some, ℕ, ◌≡◌}
use Rattle.mu_model.specs.declared.config.Config.{Config}
use Rattle.mu_model.specs.declared.event.Event.{Event}
use Rattle.mu_model.specs.declared.event.Fence.{Fence}
use Rattle.mu_model.specs.Again.{is_astray}
use Rattle.mu_model.specs.Histories.{newest}
use Rattle.mu_model.specs.Leaderships.{fence_seen}
use Rattle.mu_knowledge.specs.Offers.{IsFirst}
use Rattle.mu_lead.specs.declared.lead.Lead.{Lead}
use Rattle.mu_lead.specs.declared.note.Note.{Note}
use Rattle.mu_lead.specs.declared.place.Place.{Place}
use Rattle.mu_lead.specs.Lasting.{tables_of}

-- the new leader is the old one with the same tables, and is at its first ask
pub record IsSameAtFirstAsk (old new : Lead) : Type 0 where
  pub config : new.config ≡ old.config
  pub id : new.id ≡ old.id
  pub tables : tables_of new ≡ tables_of old
  pub place : new.place ≡ Place.Ask 0

-- the note names the first region that has gone astray, and the fence of it that r saw last
pub record TellsAstray (c : Config) (r : ℕ) (mine : List Event) (note : Note) : Type 0 where
  pub region : ℕ
  pub fence : Fence
  pub first : IsFirst (λ p. is_astray r mine p) 0 c.replicas (Some region)
  pub seen : newest (λ e. fence_seen r region e.by e.verb e.answer) mine ≡ Some fence
  pub told : note ≡ Note.Astray region fence
