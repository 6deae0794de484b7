-- has taken, opens: what a judge that takes an input line by line knows of the events that it took,
-- and what it says of them; it is one for the job that bytes spell, and has taken no event yet.
use Rattle.std.specs.Prelude.{ℕ, ◌+◌, ◌<◌, ◌≡◌, ◌^◌, List, [], ◌∷◌, None, Some, length, ⊤}
use Rattle.std.specs.declared.option.Option.{Option}
use Rattle.mu_judge.specs.Judges.{StandsForJudge}
use Rattle.mu_judge.specs.declared.judge.Judge.{Judge}
use Rattle.mu_events.specs.Events.{event_of}
use Rattle.mu_input.specs.Grammar.{job}
use Rattle.mu_input.specs.Readings.{Fits, Leaves}
use Rattle.mu_input.specs.declared.job.InputEnd.{InputEnd}
use Rattle.mu_input.specs.declared.job.Job.{Job}
use Rattle.mu_verdict.specs.declared.line_judge.LineJudge.{LineJudge}
use Rattle.mu_model.specs.Contents.{IsConfig}
use Rattle.mu_model.specs.Histories.{history}
use Rattle.mu_model.specs.declared.config.Config.{Config}
use Rattle.mu_model.specs.declared.event.Event.{Event}
use Rattle.mu_outcome.specs.declared.status.Status.{Status}
use Rattle.mu_outcome.specs.Breaks.{Explains, reached}
use Rattle.mu_outcome.specs.declared.fault.Broken.{Broken}
use Rattle.mu_report.specs.declared.said.Said.{Said}
use Rattle.mu_text.specs.Lines.{lines, words}

-- what may be an event as a list: none or one
abbrev pub list_of : Option Event → List Event
list_of None = []
list_of (Some event) = event ∷ []

-- the event that a line spells, as a list: none, if it spells none
abbrev pub event_in : ℕ → List ℕ → List Event
event_in replicas line = list_of (event_of replicas (words line))

-- while the list isn't broken, the states are those that it leads to
abbrev pub GoesOn : Config → List Event → Option Broken → Judge → Type 0
GoesOn c events None judge = StandsForJudge c (history events) judge
GoesOn c events (Some broken) judge = ⊤

-- the judge knows of these events, the first of which stands in this line, whether they are legal,
-- and if not, where they break and why
pub record HasTaken (c : Config) (start : ℕ) (events : List Event)
    (judge : LineJudge) : Type 0 where
  pub config : judge.config ≡ c
  pub is_config : IsConfig c
  pub first : judge.first ≡ start
  pub few : start < 2 ^ 31
  pub explains : Explains c events judge.broken
  pub count : judge.events ≡ reached judge.broken (length events)
  pub goes_on : GoesOn c events judge.broken judge.judge

-- the bytes spell a job, and the judge has taken no event of it; the first will stand in the line
-- after those of the job
pub record Opens (bytes : List ℕ) (judge : LineJudge) : Type 0 where
  pub given : Job
  pub fits : job bytes ≡ Fits given
  pub taken : HasTaken given.config (length (lines bytes) + 1) [] judge

-- the bytes leave the grammar of jobs first at this line for this cause; want of memory can come at
-- any bytes
abbrev pub IsEndOfJob : List ℕ → InputEnd → Type 0
IsEndOfJob bytes (InputEnd.Refused line cause) = job bytes ≡ Leaves line cause
IsEndOfJob bytes InputEnd.NoMemory = ⊤

-- the status of the list so far: where it breaks, if it does, and else whether the last line was an
-- event
abbrev pub status_with : Option Event → Option Broken → Status
status_with found (Some broken) = Status.Illegal
status_with (Some event) None = Status.Done
status_with None None = Status.Refused

-- what is said of the events that the judge took
abbrev pub said_by : LineJudge → Said
said_by judge = Said.Explained judge.events (judge.first + judge.events) judge.broken
