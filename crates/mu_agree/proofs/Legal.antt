-- Induction over legal histories.
use Rattle.std.proofs.Common.{ℕ, List, [], ◌∷◌, ◌++◌, sym, subst}
use Rattle.mu_model.specs.declared.config.Config.{Config}
use Rattle.mu_model.specs.declared.event.Event.{Event}
use Rattle.mu_model.specs.declared.event.Verb.{Verb}
use Rattle.mu_model.specs.declared.event.Answer.{Answer}
use Rattle.mu_model.specs.Allowed.{Allowed}
use Rattle.mu_model.specs.Answers.{answer_of}
use Rattle.mu_model.specs.Histories.{part}
use Rattle.mu_model.specs.Legal.{IsLegalHistory}

-- the event that a verb of `by` makes after the history
abbrev pub event_after : Config → List Event → ℕ → Verb → Event
event_after c past by v = record { by = by; verb = v; answer = answer_of c by past v }

abbrev with_answer : Event → Answer → Event
with_answer e a = record { by = e.by; verb = e.verb; answer = a }

-- what holds of the empty history and is kept by each step holds of every legal one
pub legal_induction : (c : Config) (P : List Event → Type 0) → P []
    → ((past : List Event) (by : ℕ) (v : Verb) → IsLegalHistory c past → Allowed c by (part by past) v → P past → P (event_after c past by v ∷ past))
    → (past : List Event) → IsLegalHistory c past → P past
legal_induction c P base step [] h = base
legal_induction c P base step (e ∷ past) h =
    subst (λ a. P (with_answer e a ∷ past)) (sym h.1.answer)
    (step past e.by e.verb h.0 h.1.allowed (legal_induction c P base step past h.0))

-- the same from a legal history on
pub legal_onward : (c : Config) (P : List Event → Type 0) (older : List Event) → P older
    → ((past : List Event) (by : ℕ) (v : Verb) → IsLegalHistory c past → Allowed c by (part by past) v → P past → P (event_after c past by v ∷ past))
    → (newer : List Event) → IsLegalHistory c (newer ++ older) → P (newer ++ older)
legal_onward c P older base step [] h = base
legal_onward c P older base step (e ∷ newer) h =
    subst (λ a. P (with_answer e a ∷ (newer ++ older))) (sym h.1.answer)
    (step (newer ++ older) e.by e.verb h.0 h.1.allowed (legal_onward c P older base step newer h.0))

pub legal_older : (c : Config) (newer older : List Event) → IsLegalHistory c (newer ++ older) → IsLegalHistory c older
legal_older c [] older h = h
legal_older c (e ∷ newer) older h = legal_older c newer older h.0
