-- asks alone, writes alone: no other replica asks for a region; no other replica writes rows.
use Rattle.std.specs.Prelude.{List, [], ℕ, ◌∷◌, ◌≡◌}
use Rattle.mu_model.specs.declared.event.Event.{Event}
use Rattle.mu_model.specs.declared.event.Verb.{Verb}

-- no replica but a asks for a region
abbrev pub AsksAlone : ℕ → List Event → Type 0
AsksAlone a [] = Unit {0}
AsksAlone a (e ∷ past) = AsksAlone a past × ((p : ℕ) → e.verb ≡ Verb.Ask p → e.by ≡ a)

-- no replica but a writes its rows
abbrev pub WritesAlone : ℕ → List Event → Type 0
WritesAlone a [] = Unit {0}
WritesAlone a (e ∷ past) =
    WritesAlone a past × ((j k x : ℕ) → e.verb ≡ Verb.WriteRow j k x → e.by ≡ a)
