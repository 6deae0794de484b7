-- asked at, asked after, answers, draws, opens judge, takes line: what the number of a task asks
-- for; what each call on texts or a judge puts into the room, and with which status.
use Rattle.std.specs.Prelude.{ℕ, ◌≡◌, ◌<◌, ◌≤◌, ◌==◌, ◌⊎◌, List, ◌++◌, length, None, Some, if◌then◌else◌, nat_le, ⊤}
use Rattle.std.specs.declared.option.Option.{Option}
use Rattle.mu_drawing.specs.Answers.{text_of}
use Rattle.mu_drawing.specs.Answers as drawing
use Rattle.mu_picture.specs.declared.pictures.Extent.{Extent}
use Rattle.mu_drawing.specs.declared.drawing.Output.{Output}
use Rattle.mu_events.specs.Events.{event_of}
use Rattle.mu_input.specs.Grammar.{job}
use Rattle.mu_input.specs.Readings.{Leaves}
use Rattle.mu_input.specs.declared.TheConstants.{MOST_COMMANDS}
use Rattle.mu_verdict.specs.LineJudges.{event_in, said_by, status_with, HasTaken, Opens}
use Rattle.mu_handle.specs.declared.holding.Held.{Held}
use Rattle.mu_verdict.specs.declared.line_judge.LineJudge.{LineJudge}
use Rattle.mu_library.specs.Front.{Puts}
use Rattle.mu_library.specs.declared.tasks.Work.{Work}
use Rattle.mu_model.specs.Contents.{IsConfig}
use Rattle.mu_model.specs.declared.config.Config.{Config}
use Rattle.mu_model.specs.declared.event.Event.{Event}
use Rattle.mu_outcome.specs.Statuses.{code_of}
use Rattle.mu_outcome.specs.declared.status.Status.{Status}
use Rattle.mu_report.specs.Said.{text}
use Rattle.mu_report.specs.declared.said.Said.{Said}
use Rattle.mu_text.specs.Lines.{words}
use Rattle.mu_text.specs.Numbers.{number_of, within}
use Rattle.mu_report.specs.Statuses.{status_for}
use Rattle.mu_top.specs.Answers.{Tells}
use Rattle.mu_top.specs.OneThread.{task_alone}
use Rattle.mu_top.specs.Words.{of_count}
use Rattle.mu_top.specs.declared.asking.Asked.{Asked}
use Rattle.mu_top.specs.declared.asking.Task.{Task}
use Rattle.mu_top.specs.declared.asking.TheConstants.{INPUT_LIMIT, MOST_SHOWN}

-- what the number of a task asks of the program; the input of the stated large job is the number of
-- its commands
abbrev pub asked_at : ℕ → List ℕ → Option Asked
asked_at task input =
    if task == 1 then Some (Asked.Input Task.Replay)
    else if task == 2 then Some (Asked.Input Task.Trace)
    else if task == 3 then Some (Asked.Input Task.Check)
    else if task == 4 then Some (Asked.Input Task.Why)
    else if task == 5 then Some (Asked.Input Task.Book)
    else if task == 6 then of_count (within 0 MOST_COMMANDS (number_of input))
    else if task == 7 then Some (Asked.Input Task.Tell)
    else if task == 8 then Some (Asked.Input Task.Attest)
    else None

-- what is asked by the number of events after which a moment is to be shown
abbrev pub asked_after : ℕ → Option Asked
asked_after count =
    if nat_le count MOST_SHOWN then Some (Asked.Input (Task.Show count)) else None

-- what is asked, as the program has it
abbrev pub asked_as : Work → Option Asked
asked_as Work.Nothing = None
asked_as (Work.Input task) = Some (Asked.Input (task_alone task))
asked_as (Work.Bulk count) = Some (Asked.Bulk count)

-- no more commands than a job may have
abbrev pub HasRoom : Work → Type 0
HasRoom Work.Nothing = ⊤
HasRoom (Work.Input task) = ⊤
HasRoom (Work.Bulk count) = count ≤ MOST_COMMANDS

-- the text of an answer is put, with the status that the program ends with
abbrev pub PutsSaid : Said → List ℕ → List ℕ → ℕ → ℕ → Type 0
PutsSaid said before after status taken =
    Puts (text said) (code_of (status_for said)) before after status taken

-- the same of an answer on a picture
abbrev pub PutsTold : Output → List ℕ → List ℕ → ℕ → ℕ → Type 0
PutsTold told before after status taken =
    Puts (text_of told) (code_of (drawing.status_for told)) before after status taken

-- what the program says if it is asked this and its source has these bytes is put, or that there
-- was no memory
pub record Answers (asked : Option Asked) (input before after : List ℕ)
    (status taken : ℕ) : Type 0 where
  pub said : Said
  pub tells : (said ≡ Said.NoMemory) ⊎ Tells asked (Some input) (Some input) 0 0 said
  pub puts : PutsSaid said before after status taken

-- the same of the program that draws
pub record Draws (asked : Option Extent) (input before after : List ℕ)
    (status taken : ℕ) : Type 0 where
  pub told : Output
  pub tells :
      (told ≡ Output.Said Said.NoMemory)
      ⊎ drawing.TellsOfCall asked (Some input) (Some input) 0 0 told
  pub puts : PutsTold told before after status taken

-- why bytes spell no job that can be judged: they leave the grammar of jobs first at this line, or
-- are too many; want of memory can come at any bytes
abbrev pub EndsJob : List ℕ → Said → Type 0
EndsJob bytes (Said.Refused line cause) = job bytes ≡ Leaves line cause
EndsJob bytes Said.TooLong = INPUT_LIMIT < length bytes
EndsJob bytes Said.NoMemory = ⊤
EndsJob bytes _ = ⊥

-- it is said why no judge was made
pub record SaysWhyNot (bytes before after : List ℕ) (status taken : ℕ) : Type 0 where
  pub said : Said
  pub ends : EndsJob bytes said
  pub puts : PutsSaid said before after status taken

-- there is a judge of the job that the bytes spell, that has taken no event
abbrev pub HasNew : List ℕ → Option Held → Type 0
HasNew bytes (Some (Held.Judge judge)) = Opens bytes judge
HasNew bytes (Some (Held.Engine engine)) = ⊥
HasNew bytes (Some (Held.Replica replica)) = ⊥
HasNew bytes None = ⊥

-- a new judge is there and nothing is said, with status 0; or the handle is as it was, and it is
-- said why
abbrev pub OpensJudge : List ℕ → Option Held → Option Held → List ℕ → List ℕ → ℕ → ℕ → Type 0
OpensJudge bytes old new before after status taken =
    ((status ≡ 0) × HasNew bytes new × (taken ≡ 0) × (after ≡ before))
    ⊎ ((new ≡ old) × SaysWhyNot bytes before after status taken)

-- a judge, if there is one, is of a job that the grammar allows
abbrev pub CanTake : Option Held → Type 0
CanTake (Some (Held.Judge judge)) = IsConfig judge.config
CanTake (Some (Held.Engine engine)) = ⊤
CanTake (Some (Held.Replica replica)) = ⊤
CanTake None = ⊤

-- what a judge knows after a line, of whatever it knew before, and the status that is told
pub record TakesNext (old : LineJudge) (line : List ℕ) (new : LineJudge)
    (status : ℕ) : Type 0 where
  pub config : new.config ≡ old.config
  pub taken :
      (c : Config) (start : ℕ) (past : List Event) → HasTaken c start past old
      → HasTaken c start (past ++ event_in c.replicas line) new
  pub status_is :
      (c : Config) (start : ℕ) (past : List Event) → HasTaken c start past old
      → status ≡ code_of (status_with (event_of c.replicas (words line)) new.broken)

-- what is held after a line: the judge took it; or there is no judge and nothing changed, with the
-- status of a wrong use
abbrev pub TakesHeld : Held → List ℕ → Held → ℕ → Type 0
TakesHeld (Held.Judge old) line (Held.Judge new) status = TakesNext old line new status
TakesHeld (Held.Judge old) line (Held.Engine new) status = ⊥
TakesHeld (Held.Judge old) line (Held.Replica new) status = ⊥
TakesHeld (Held.Engine old) line new status =
    (status ≡ code_of Status.Usage) × (new ≡ Held.Engine old)
TakesHeld (Held.Replica old) line new status =
    (status ≡ code_of Status.Usage) × (new ≡ Held.Replica old)

-- the same of a handle, which may have nothing
abbrev pub TakesLine : Option Held → List ℕ → Option Held → ℕ → Type 0
TakesLine (Some old) line (Some new) status = TakesHeld old line new status
TakesLine (Some old) line None status = ⊥
TakesLine None line new status = (status ≡ code_of Status.Usage) × (new ≡ None)

-- what is said of the lines that a judge took is put
pub record SaysSoFar (judge : LineJudge) (before after : List ℕ) (status taken : ℕ) : Type 0 where
  pub said : Said
  pub says :
      (said ≡ Said.NoMemory)
      ⊎ ((c : Config) (start : ℕ) (past : List Event) → HasTaken c start past judge
      → said ≡ said_by judge)
  pub puts : PutsSaid said before after status taken

-- nothing is told, with the status of a wrong use
abbrev pub TellsNothing : List ℕ → List ℕ → ℕ → ℕ → Type 0
TellsNothing before after status taken =
    (status ≡ code_of Status.Usage) × (taken ≡ 0) × (after ≡ before)

-- what is told of what is held, if it is a judge
abbrev pub SaysOfHeld : Held → List ℕ → List ℕ → ℕ → ℕ → Type 0
SaysOfHeld (Held.Judge judge) before after status taken =
    SaysSoFar judge before after status taken
SaysOfHeld (Held.Engine engine) before after status taken =
    TellsNothing before after status taken
SaysOfHeld (Held.Replica replica) before after status taken =
    TellsNothing before after status taken

-- the same of a handle, which may have nothing
abbrev pub SaysOfJudge : Option Held → List ℕ → List ℕ → ℕ → ℕ → Type 0
SaysOfJudge (Some held) before after status taken = SaysOfHeld held before after status taken
SaysOfJudge None before after status taken = TellsNothing before after status taken
