-- reason words: the words of each reason, and the lines on where a list of events breaks and why.
use Rattle.std.specs.Prelude.{ℕ, List, [], ◌∷◌, ◌++◌, None, Some, codes}
use Rattle.std.specs.declared.option.Option.{Option}
use Rattle.std.specs.Fmt.{decimal}
use Rattle.mu_events.specs.Lines.{answer_words, event_line}
use Rattle.mu_outcome.specs.declared.fault.Broken.{Broken}
use Rattle.mu_outcome.specs.declared.fault.Fault.{Fault}
use Rattle.mu_model.specs.Points.{told_of}
use Rattle.mu_model.specs.declared.reason.Reason.{Reason}
use Rattle.mu_report.specs.Sentences.{parts_words}

-- the point that isn't met
abbrev pub reason_words : Reason → List ℕ
reason_words reason = parts_words (told_of reason)

-- what is wrong with an event
abbrev pub fault_words : Fault → List ℕ
fault_words (Fault.NotAllowed reason) = codes "not allowed: " ++ reason_words reason
fault_words (Fault.WrongAnswer expected) = codes "wrong answer: expected " ++ answer_words expected

-- the line of a legal list of this many events, or the first of one that breaks at an event in this
-- line
abbrev pub first_words : ℕ → ℕ → Option Broken → List ℕ
first_words events line None = codes "legal " ++ decimal events
first_words events line (Some broken) =
    codes "illegal " ++ decimal broken.index ++ codes " at line " ++ decimal line

-- what is said of a list of this many events, if the event that breaks it stands in this line
abbrev pub explained_lines : ℕ → ℕ → Option Broken → List (List ℕ)
explained_lines events line None = first_words events line None ∷ []
explained_lines events line (Some broken) =
    first_words events line (Some broken) ∷ event_line broken.event ∷ fault_words broken.fault
    ∷ []
