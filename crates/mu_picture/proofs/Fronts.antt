-- The events before the one that breaks a list.
use Rattle.std.proofs.Common.{◌≡◌, ◌≤◌, ◌+◌, ◌∙◌, ◌⊎◌, ℕ, Bool, true, List, None, Some, inl, inr, refl, sym, ap, subst, arith, length, take}
use Rattle.std.specs.Prelude.{is_some, min}
use Rattle.std.specs.declared.option.Option.{Option}
use Rattle.std.proofs.lemmas.List.{length-take-le}
use Rattle.std.proofs.lemmas.Option.{slice_get_within}
use Rattle.mu_model.specs.declared.config.Config.{Config}
use Rattle.mu_model.specs.declared.event.Event.{Event}
use Rattle.mu_outcome.proofs.Places.{take-take}
use Rattle.mu_outcome.specs.Breaks.{Explains, reached}
use Rattle.mu_outcome.specs.declared.fault.Broken.{Broken}
use Rattle.mu_picture.specs.Marks.{legal_front}

-- how many they are
pub front_size : (c : Config) (events : List Event) (broken : Option Broken) → Explains c events broken → length (legal_front events broken) ≡ reached broken (length events)
front_size c events None legal = refl
front_size c events (Some broken) breaks = length-take-le broken.index events (omega (arith, slice_get_within events broken.index broken.event breaks.there))

-- they are no more than those of the list
pub front_low : (c : Config) (events : List Event) (broken : Option Broken) → Explains c events broken → length (legal_front events broken) ≤ length events
front_low c events None legal = omega arith
front_low c events (Some broken) breaks = omega (arith, slice_get_within events broken.index broken.event breaks.there, front_size c events (Some broken) breaks)

-- their beginnings are those of the list
pub front_start : (c : Config) (events : List Event) (broken : Option Broken) (n : ℕ) → Explains c events broken → n ≤ length (legal_front events broken) → take n (legal_front events broken) ≡ take n events
front_start c events None n legal low = refl
front_start c events (Some broken) n breaks low = take-take events broken.index n (omega (arith, low, front_size c events (Some broken) breaks))

-- a walk that was to come to a place came there, or the list broke before, and these are the events before that
pub came_to : (c : Config) (events : List Event) (before broken : Option Broken) (to : ℕ) → Explains c events broken → (is_some before ≡ true → broken ≡ before) → (reached before to ≡ to) ⊎ (length (legal_front events broken) ≡ reached before to)
came_to c events None broken to explains same = inl refl
came_to c events (Some b) broken to explains same =
    inr (ap (λ o. length (legal_front events o)) (same refl) ∙ front_size c events (Some b) (subst (Explains c events) (same refl) explains))
