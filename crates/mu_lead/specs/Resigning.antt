-- gives up, is told: a leader that is told which leader the scores name gives up what it does if they
-- name a lower replica.
use Rattle.std.specs.Prelude.{Bool, if◌then◌else◌, nat_lt, ℕ, ◌&&◌, ◌||◌, ◌≡◌}
use Rattle.mu_model.specs.declared.event.Answer.{Answer}
use Rattle.mu_model.specs.declared.event.Event.{Event}
use Rattle.mu_model.specs.declared.event.Verb.{Verb}
use Rattle.mu_lead.specs.declared.lead.Lead.{Lead}
use Rattle.mu_lead.specs.declared.place.Place.{Place}
use Rattle.mu_lead.specs.Beside.{leads_at}
use Rattle.mu_lead.specs.Lasting.{tables_of}

-- a beat of r
abbrev pub beat_of : ℕ → Answer → Event
beat_of r answer = record { by = r; verb = Verb.Beat; answer = answer }

-- the scores name a lower replica, and a leadership is under way or was confirmed
abbrev pub gives_up : Lead → ℕ → Bool
gives_up l leader = (l.under_way || leads_at l.place) && nat_lt leader l.id

-- it is the same leader, told which leader the scores name: if it gives up, it next asks again
pub record IsTold (old : Lead) (leader : ℕ) (new : Lead) : Type 0 where
  pub config : new.config ≡ old.config
  pub id : new.id ≡ old.id
  pub written : new.written ≡ old.written
  pub tables : tables_of new ≡ tables_of old
  pub place : new.place ≡ (if gives_up old leader then Place.Ask 0 else old.place)
