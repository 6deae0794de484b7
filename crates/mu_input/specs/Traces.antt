-- trace, has read, reads on: the grammar of a trace: a job, and after its `end` the lines of events
-- and another `end`; the job and first events that were taken from bytes; what the next line says.
use Rattle.std.specs.Prelude.{ℕ, ◌+◌, ◌<◌, ◌^◌, ◌≡◌, List, [], ◌∷◌, ◌++◌, None, Some, codes, if◌then◌else◌, length, ⊤}
use Rattle.std.specs.declared.option.Option.{Option}
use Rattle.std.specs.declared.result.Result.{Result}
use Rattle.std.specs.declared.result.Result.TheVariants.{Ok, Err}
use Rattle.std.specs.Option.{option_map_or}
use Rattle.std.specs.Str.{bytes_eq}
use Rattle.mu_model.specs.declared.event.Event.{Event}
use Rattle.mu_events.specs.Events.{event_of}
use Rattle.mu_input.specs.Grammar.{all_lines, job_at}
use Rattle.mu_text.specs.Lines.{Left, words}
use Rattle.mu_input.specs.Readings.{Front, Begins, Breaks, Reading, Fits, Leaves, followed, whole}
use Rattle.mu_input.specs.declared.cause.TheConstants.{EVENT, NO_END}
use Rattle.mu_input.specs.declared.job.Job.{Job}
use Rattle.mu_input.specs.declared.job.InputEnd.{InputEnd}
use Rattle.mu_input.specs.declared.job.InputEnd.TheVariants.{Refused, NoMemory}

-- the events of this number of replicas that the lines from `number` on give after these, up to an
-- `end`
abbrev pub events_from : ℕ → List Event → ℕ → List (List ℕ) → Front (List Event)
events_from replicas events number [] = Breaks number NO_END
events_from replicas events number (line ∷ lines) =
    if bytes_eq line (codes "end")
    then Begins events (record { number = number + 1; lines = lines })
    else option_map_or (λ event. events_from replicas (events ++ event ∷ []) (number + 1) lines)
    (event_of replicas (words line)) (Breaks number EVENT)

-- the events at the front of the lines that are left
abbrev pub events_at : ℕ → Left → Front (List Event)
events_at replicas left = events_from replicas [] left.number left.lines

-- a job and its events
pub record Trace : Type 0 where
  pub job : Job
  pub events : List Event

-- the job, and then its events
abbrev pub trace_at : Left → Front Trace
trace_at left =
    followed (job_at left) (λ job left.
    followed (events_at job.config.replicas left) (λ events left.
    Begins (record { job = job; events = events }) left))

-- the job and the events that bytes spell, or the first line that leaves the grammar
abbrev pub trace : List ℕ → Reading Trace
trace bytes = whole (trace_at (all_lines bytes))

-- the reading of a trace of which this job and these events were taken, by the lines that are left
abbrev pub trace_after : Job → List Event → Left → Reading Trace
trace_after job events left =
    whole (followed (events_from job.config.replicas events left.number left.lines) (λ events left.
    Begins (record { job = job; events = events }) left))

-- the lines that are left behind a job of this many replicas and this many events
pub record EventsLeft : Type 0 where
  pub left : Left
  pub replicas : ℕ
  pub count : ℕ

-- the bytes begin with this job and these events, and these lines are left
pub record HasRead (bytes : List ℕ) (job : Job) (events : List Event)
    (lines : EventsLeft) : Type 0 where
  pub reading : trace bytes ≡ trace_after job events lines.left
  pub replicas : lines.replicas ≡ job.config.replicas
  pub count : lines.count ≡ length events
  pub few : length events < 2 ^ 32

-- the bytes spell this job and these events
pub record HasReadAll (bytes : List ℕ) (job : Job) (events : List Event)
    (lines : EventsLeft) : Type 0 where
  pub fits : trace bytes ≡ Fits (record { job = job; events = events })
  pub count : lines.count ≡ length events

-- the bytes leave the grammar of traces first at this line for this cause
abbrev pub IsRefused : List ℕ → InputEnd → Type 0
IsRefused bytes (Refused line cause) = trace bytes ≡ Leaves line cause
IsRefused bytes NoMemory = ⊥

-- the same, and want of memory can come at any bytes
abbrev pub IsEndOfTrace : List ℕ → InputEnd → Type 0
IsEndOfTrace bytes (Refused line cause) = trace bytes ≡ Leaves line cause
IsEndOfTrace bytes NoMemory = ⊤

-- the next line was the next event, or the last one of the trace, or it leaves the grammar
abbrev pub ReadsOn :
    List ℕ → Job → List Event → Result (Option Event) InputEnd → EventsLeft → Type 0
ReadsOn bytes job events (Ok (Some event)) lines = HasRead bytes job (events ++ event ∷ []) lines
ReadsOn bytes job events (Ok None) lines = HasReadAll bytes job events lines
ReadsOn bytes job events (Err end) lines = IsRefused bytes end

-- the bytes spell this job and this many events, of which these are the first
pub record GoesOn (bytes : List ℕ) (job : Job) (events : List Event) (all : ℕ) : Type 0 where
  pub more : List Event
  pub fits : trace bytes ≡ Fits (record { job = job; events = events ++ more })
  pub count : all ≡ length (events ++ more)

-- a result says how many events the trace has, or which line leaves the grammar
abbrev pub CountsAll : List ℕ → Job → List Event → Result ℕ InputEnd → Type 0
CountsAll bytes job events (Ok count) = GoesOn bytes job events count
CountsAll bytes job events (Err end) = IsRefused bytes end

-- a result says what the reading is; want of memory can come at any bytes
abbrev pub ReadsTrace : Result (Job × List Event) InputEnd → Reading Trace → Type 0
ReadsTrace (Ok (job, events)) reading = reading ≡ Fits (record { job = job; events = events })
ReadsTrace (Err (Refused line cause)) reading = reading ≡ Leaves line cause
ReadsTrace (Err NoMemory) reading = ⊤
