-- found, prepared, notes: what a replica keeps of the words that it found; what a step needs of the
-- replica's own events; what one more event makes of it.
use Rattle.std.specs.Prelude.{List, None, Some, if◌then◌else◌, ℕ, ◌%◌, ◌*◌, ◌+◌, ◌<◌, ◌==◌, ◌∷◌, ◌≡◌}
use Rattle.std.specs.declared.option.Option.{Option}
use Rattle.std.specs.List.{slice_get}
use Rattle.mu_model.specs.declared.config.Config.{Config}
use Rattle.mu_model.specs.declared.event.Answer.{Answer}
use Rattle.mu_model.specs.declared.event.Event.{Event}
use Rattle.mu_model.specs.declared.event.Target.{Target}
use Rattle.mu_model.specs.declared.event.Verb.{Verb}
use Rattle.mu_model.specs.Allowed.{Allowed}
use Rattle.mu_model.specs.Histories.{newest, part}
use Rattle.mu_model.specs.Leaderships.{noted_grant}
use Rattle.mu_words.specs.declared.found.Found.{Found}
use Rattle.mu_words.specs.Finding.{kept, known_target, loaded, loaded_by}
use Rattle.mu_words.specs.Standing.{close_grant, close_target}

-- the target of an `Enter` at p
abbrev pub entered_for : ℕ → Verb → Option Target
entered_for p (Verb.Enter q t) = if q == p then Some t else None
entered_for p _ = None

-- the target of the last `Enter` at p among the replica's events
abbrev pub last_entered : ℕ → List Event → Option Target
last_entered p mine = newest (λ e. entered_for p e.verb) mine

-- the word that the last `Enter` at p, if it was for the target, fixed for the put; 0 if there was
-- none
abbrev pub fixed_word : Config → ℕ → Option Target → List (Event × ℕ) → ℕ
fixed_word c p None seen = 0
fixed_word c p (Some t) seen = (kept c p t seen).1

-- what is kept stands for the events of r and for the words that its loads found
pub record FoundIs (c : Config) (r : ℕ) (f : Found) (mine : List Event)
    (seen : List (Event × ℕ)) : Type 0 where
  pub ring : f.ring ≡ c.ring
  pub noted : (p : ℕ) → p < c.replicas → slice_get f.noted p ≡ Some (noted_grant r p mine)
  pub targets : (p : ℕ) → p < c.replicas → slice_get f.targets p ≡ Some (known_target r p mine)
  pub minimums :
      (p : ℕ) → p < c.replicas → slice_get f.minimums p ≡ Some ((kept c p Target.Min seen).0)
  pub places :
      (p s : ℕ) → p < c.replicas → s < c.ring
      → slice_get f.places.items (p * c.ring + s) ≡ Some ((kept c p (Target.Place s) seen).0)
  pub fixed :
      (p : ℕ) → p < c.replicas
      → slice_get f.fixed p ≡ Some (fixed_word c p (last_entered p mine) seen)
  pub loaded : f.loaded ≡ loaded seen
  pub close_target : f.close_target ≡ close_target r mine
  pub close_grant : f.close_grant ≡ close_grant r mine

-- the place that the target names, if it names one, is in the ring
abbrev pub IsInRing : ℕ → Target → Type 0
IsInRing ring (Target.Place s) = s < ring
IsInRing ring _ = Unit {0}

-- an exchange is of a region that there is; an `Enter` names a place of the ring, and a put is for
-- the word that the last `Enter` at its region named
abbrev pub IsPrepared : Config → List Event → Verb → Type 0
IsPrepared c mine (Verb.Enter p t) = (p < c.replicas) × IsInRing c.ring t
IsPrepared c mine (Verb.PutMin p b) = (p < c.replicas) × (last_entered p mine ≡ Some Target.Min)
IsPrepared c mine (Verb.PutSlot p i b v) =
    (p < c.replicas) × (last_entered p mine ≡ Some (Target.Place (i % c.ring)))
IsPrepared c mine _ = Unit {0}

-- each step that is allowed is so prepared
abbrev pub AllowedArePrepared : Type 0
AllowedArePrepared =
    (c : Config) (r : ℕ) (past : List Event) (v : Verb) → Allowed c r (part r past) v
    → IsPrepared c (part r past) v

-- the event of r with the word that its step found, if that was a load
abbrev pub sight : ℕ → Verb → Answer → ℕ → Event × ℕ
sight r v a w = (record { by = r; verb = v; answer = a }, loaded_by v w)

-- if what was kept stood for r's own events before the step, what is kept now stands for them with
-- its event
abbrev pub Notes : ℕ → Verb → Answer → ℕ → Found → Found → Type 0
Notes r v a w old new =
    (c : Config) (mine : List Event) (seen : List (Event × ℕ)) → FoundIs c r old mine seen
    → IsPrepared c mine v
    → FoundIs c r new ((record { by = r; verb = v; answer = a }) ∷ mine) (sight r v a w ∷ seen)
