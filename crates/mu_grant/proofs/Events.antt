-- An event from its parts, and how events keep the order of a look and a drain.
use Rattle.std.proofs.Common.{Bool, List, false, true, ℕ, ◌∷◌, ◌≡◌, ◌==◌, refl}
use Rattle.mu_model.specs.declared.event.Answer.{Answer}
use Rattle.mu_model.specs.declared.event.Event.{Event}
use Rattle.mu_model.specs.declared.event.Verb.{Verb}
use Rattle.mu_model.specs.Serving.{looked_since_close}
use Rattle.mu_grant.specs.Stands.{LookedFirst}

-- an event is what its parts make
pub from_parts : (event : Event) (by : ℕ) (verb : Verb) (answer : Answer) → by ≡ event.by → verb ≡ event.verb → answer ≡ event.answer → record { by = by; verb = verb; answer = answer } ≡ event
from_parts event by verb answer own is says = rw (own, is, says) refl

-- an event keeps the order, if a drain comes after a look
pub in_order : (r by : ℕ) (verb : Verb) (answer : Answer) (mine : List Event) → (verb ≡ Verb.Drain → looked_since_close r mine ≡ true) → LookedFirst r mine → LookedFirst r (record { by = by; verb = verb; answer = answer } ∷ mine)
in_order r by Verb.Close answer mine looked held = go (by == r) refl
  where
    go : (t : Bool) → (by == r) ≡ t → LookedFirst r (record { by = by; verb = Verb.Close; answer = answer } ∷ mine)
    go true is = rw is (λ none. none)
    go false is = rw is held
in_order r by Verb.LookTarget answer mine looked held = go (by == r) refl
  where
    go : (t : Bool) → (by == r) ≡ t → LookedFirst r (record { by = by; verb = Verb.LookTarget; answer = answer } ∷ mine)
    go true is = rw is (λ drained. refl)
    go false is = rw is held
in_order r by Verb.Drain answer mine looked held = go (by == r) refl
  where
    go : (t : Bool) → (by == r) ≡ t → LookedFirst r (record { by = by; verb = Verb.Drain; answer = answer } ∷ mine)
    go true is = rw is (λ drained. looked refl)
    go false is = rw is held
in_order r by verb answer mine looked held = held
