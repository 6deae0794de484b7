-- line of, explains of: the line of the bytes that spells an event; the answer on where a trace
-- breaks and why.
use Rattle.std.specs.Prelude.{ℕ, ◌+◌, ◌-◌, ◌≡◌, ◌≤◌, List, None, Some, length, ⊤}
use Rattle.std.specs.declared.option.Option.{Option}
use Rattle.std.specs.List.{slice_get}
use Rattle.mu_events.specs.Events.{event_of}
use Rattle.mu_input.specs.Readings.{Fits, Leaves}
use Rattle.mu_input.specs.Traces.{Trace, trace}
use Rattle.mu_mistakes.specs.Misreads.{IsMisread}
use Rattle.mu_mistakes.specs.declared.misread.Misread.{Misread}
use Rattle.mu_model.specs.declared.event.Event.{Event}
use Rattle.mu_outcome.specs.Breaks.{Explains}
use Rattle.mu_outcome.specs.declared.fault.Broken.{Broken}
use Rattle.mu_report.specs.declared.said.Said.{Said}
use Rattle.mu_text.specs.Lines.{lines, words}

-- this line of the bytes, counted from 1, spells the event at this place among the events of the
-- trace: they stand in as many lines, before the last one
pub record IsLineOf (bytes : List ℕ) (spelled : Trace) (line index : ℕ)
    (event : Event) : Type 0 where
  pub counted : 1 ≤ line
  pub place : line + length spelled.events ≡ length (lines bytes) + index
  pub text : List ℕ
  pub there : slice_get (lines bytes) (line - 1) ≡ Some text
  pub spells : event_of spelled.job.config.replicas (words text) ≡ Some event

-- it is the line of the event that breaks the list, if one does
abbrev pub TellsLine : List ℕ → Trace → ℕ → Option Broken → Type 0
TellsLine bytes spelled line None = ⊤
TellsLine bytes spelled line (Some broken) =
    IsLineOf bytes spelled line broken.index broken.event

-- the bytes spell a trace of this many events; where it breaks and why, if it does, and the line
-- there
pub record IsExplained (bytes : List ℕ) (events line : ℕ) (broken : Option Broken) : Type 0 where
  pub spelled : Trace
  pub fits : trace bytes ≡ Fits spelled
  pub count : events ≡ length spelled.events
  pub explains : Explains spelled.job.config spelled.events broken
  pub tells_line : TellsLine bytes spelled line broken

-- the bytes leave the grammar of traces first at the line that is told of, for its cause
pub record LeavesAt (bytes : List ℕ) (misread : Misread) : Type 0 where
  pub leaves : trace bytes ≡ Leaves misread.line misread.cause
  pub tells : IsMisread bytes misread

-- a refusal in words if the bytes leave the grammar, and else where the trace breaks and why; want
-- of memory can come at any bytes, and nothing else is said
abbrev pub ExplainsOf : List ℕ → Said → Type 0
ExplainsOf bytes (Said.Misread misread) = LeavesAt bytes misread
ExplainsOf bytes (Said.Explained events line broken) = IsExplained bytes events line broken
ExplainsOf bytes Said.NoMemory = ⊤
ExplainsOf bytes _ = ⊥
