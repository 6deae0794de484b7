-- loses, unlike: when the note of a lost region comes: the fence is closing, or has another grant
-- than the noted one.
use Rattle.std.specs.Prelude.{Bool, List, Some, true, ℕ, ◌≡◌, ◌⊎◌, ◌↔◌}
use Rattle.mu_model.specs.declared.event.Answer.{Answer}
use Rattle.mu_model.specs.declared.event.Event.{Event}
use Rattle.mu_model.specs.declared.event.Fence.{Fence}
use Rattle.mu_model.specs.declared.event.Target.{Target}
use Rattle.mu_model.specs.declared.event.Verb.{Verb}
use Rattle.mu_model.specs.Leaderships.{is_changed, is_member, noted_grant}
use Rattle.mu_lead.specs.declared.note.AbortCause.{AbortCause}
use Rattle.mu_lead.specs.declared.note.Note.{Note}
use Rattle.mu_lead.specs.declared.place.Place.{Place}

-- the fence f of p is closing, or has another grant than the noted one
abbrev pub is_unlike : ℕ → ℕ → List Event → Fence → Bool
is_unlike r p mine f = is_changed (Some (noted_grant r p mine)) f

-- an `Enter` of p was lost by this fence, which is closing or has another grant than the noted one
pub record LosesEntering (r : ℕ) (mine : List Event) (verb : Verb) (answer : Answer) (p : ℕ)
    (f : Fence) : Type 0 where
  pub target : Target
  pub entered : verb ≡ Verb.Enter p target
  pub lost : answer ≡ Answer.Lost f
  pub unlike : is_unlike r p mine f ≡ true

-- this fence of p was read after a put there that missed, or it is that of a member; and it is
-- closing or has another grant than the noted one
pub record LosesReading (r : ℕ) (mine : List Event) (place : Place) (verb : Verb) (answer : Answer)
    (p : ℕ) (f : Fence) : Type 0 where
  pub read : verb ≡ Verb.Fence p
  pub seen : answer ≡ Answer.Seen f
  pub unlike : is_unlike r p mine f ≡ true
  pub why : (place ≡ Place.Evidence p) ⊎ (is_member r p mine ≡ true)

-- the note of a lost region comes exactly in these cases
abbrev pub SaysLost : ℕ → List Event → Place → Verb → Answer → Note → Type 0
SaysLost r mine place verb answer note =
    (p : ℕ) (f : Fence)
    → (note ≡ Note.Aborted (AbortCause.Lost p f))
    ↔ (LosesEntering r mine verb answer p f ⊎ LosesReading r mine place verb answer p f)
