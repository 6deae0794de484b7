-- verdict: what a verdict says of a list of events; no list has two.
use Rattle.std.specs.Prelude.{List, Some, take, ℕ, ◌≡◌, ◌≢◌}
use Rattle.std.specs.List.{slice_get}
use Rattle.mu_model.specs.declared.config.Config.{Config}
use Rattle.mu_model.specs.declared.event.Event.{Event}
use Rattle.mu_model.specs.Allowed.{Allowed}
use Rattle.mu_model.specs.Answers.{answer_of}
use Rattle.mu_model.specs.Histories.{history, part}
use Rattle.mu_model.specs.Legal.{IsLegal}
use Rattle.mu_outcome.specs.declared.verdict.Verdict.{Verdict}
use Rattle.mu_outcome.specs.declared.verdict.Wrong.{Wrong}

-- why the event may not come after the history: its verb isn't allowed, or it is and the answer
-- differs from the defined one
abbrev pub IsWrong : Config → List Event → Event → Wrong → Type 0
IsWrong c past e Wrong.NotAllowed = ¬ Allowed c e.by (part e.by past) e.verb
IsWrong c past e (Wrong.WrongAnswer expected) =
    Allowed c e.by (part e.by past) e.verb × (expected ≡ answer_of c e.by past e.verb)
    × (e.answer ≢ expected)

-- the events before the index are legal, and the one there may not come after them
pub record BreaksAt (c : Config) (events : List Event) (index : ℕ) (cause : Wrong) : Type 0 where
  pub event : Event
  pub there : slice_get events index ≡ Some event
  pub before : IsLegal c (take index events)
  pub wrong : IsWrong c (history (take index events)) event cause

-- the verdict is that of the list
abbrev pub Judges : Config → List Event → Verdict → Type 0
Judges c events Verdict.Legal = IsLegal c events
Judges c events (Verdict.Illegal index cause) = BreaksAt c events index cause

-- no list has two verdicts
abbrev pub AtMostOneVerdict : Type 0
AtMostOneVerdict =
    (c : Config) (events : List Event) (a b : Verdict) → Judges c events a → Judges c events b
    → a ≡ b
