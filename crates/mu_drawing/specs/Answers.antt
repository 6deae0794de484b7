-- What the call tells, and when each answer comes.
use Rattle.std.specs.Prelude.{ℕ, ◌-◌, ◌≡◌, ◌<◌, ◌≤◌, ◌⊎◌, ◌+◌, Bool, true, false, List, [], ◌∷◌, codes, length, take, ⊤, None, Some, Err, Ok, IfSome}
use Rattle.std.specs.declared.option.Option.{Option}
use Rattle.std.specs.declared.result.Result.{Result}
use Rattle.mu_io.specs.Faults.{Rose}
use Rattle.mu_io.specs.Whole.{TakesAtMost}
use Rattle.mu_input.specs.declared.TheConstants.{TRACE_LIMIT}
use Rattle.mu_input.specs.declared.job.Job.{Job}
use Rattle.mu_input.specs.Readings.{Fits, Leaves}
use Rattle.mu_input.specs.Traces.{Trace, trace}
use Rattle.mu_model.specs.declared.event.Event.{Event}
use Rattle.mu_model.specs.Legal.{IsLegal}
use Rattle.mu_outcome.specs.declared.status.Status.{Status}
use Rattle.mu_picture.specs.Drawing.{svg_of}
use Rattle.mu_picture.specs.Marks.{IsPictureOf}
use Rattle.mu_picture.specs.Xml.{IsDocument}
use Rattle.mu_picture.specs.declared.drawing.Breach.{Breach}
use Rattle.mu_picture.specs.declared.marks.Mark.{Mark}
use Rattle.mu_picture.specs.declared.pictures.Extent.{Extent}
use Rattle.mu_picture.specs.declared.pictures.Picture.{Picture}
use Rattle.mu_input.specs.declared.job.InputEnd.{InputEnd}
use Rattle.mu_text.specs.Lines.{lines}
use Rattle.std.specs.List.{slice_get}
use Rattle.mu_verdict.specs.Explained.{IsLineOf}
use Rattle.mu_outcome.specs.Breaks.{Explains}
use Rattle.mu_outcome.specs.declared.fault.Broken.{Broken}
use Rattle.mu_report.specs.Reasons.{fault_words}
use Rattle.mu_report.specs.Statuses.{status_for as status_for_said}
use Rattle.mu_report.specs.Said.{text, said_of_end, IsShort}
use Rattle.mu_report.specs.declared.said.Said.{Said}
use Rattle.mu_drawing.specs.declared.drawing.Output.{Output}

-- each mark is of the event at its step
abbrev pub AreOfTheirSteps : List Event → List Mark → Type 0
AreOfTheirSteps events [] = ⊤
AreOfTheirSteps events (mark ∷ marks) =
    (slice_get events mark.step ≡ Some mark.event) × AreOfTheirSteps events marks

-- the events are legal, and this is the drawing of the picture of the steps that are asked for, a
-- document of XML
pub record IsDrawingOf (job : Job) (line : ℕ) (events : List Event) (asked : Extent)
    (drawing : List ℕ) : Type 0 where
  pub legal : IsLegal job.config events
  pub picture : Picture
  pub is : IsPictureOf job.config job.script events asked.brief asked.first asked.last picture
  pub theirs : AreOfTheirSteps events picture.marks.items
  pub drawn : drawing ≡ svg_of job line picture None
  pub document : IsDocument drawing

-- the event that breaks a list, and what is wrong with it, in the words of `mu why`
abbrev pub breach_with : Broken → Breach
breach_with broken =
    record { step = broken.index; event = broken.event; fault = fault_words broken.fault }

-- the list breaks here for this reason, and this is the drawing of the picture of the steps before
-- that are asked for, and of the event that breaks it: a document of XML
pub record IsBrokenDrawingOf (job : Job) (line : ℕ) (events : List Event) (broken : Broken)
    (asked : Extent) (drawing : List ℕ) : Type 0 where
  pub breaks : Explains job.config events (Some broken)
  pub picture : Picture
  pub is :
      IsPictureOf job.config job.script (take broken.index events) asked.brief asked.first
      asked.last picture
  pub theirs : AreOfTheirSteps events picture.marks.items
  pub drawn : drawing ≡ svg_of job line picture (Some (breach_with broken))
  pub document : IsDocument drawing

-- an event breaks the list, and this is its drawing
pub record IsBroken (job : Job) (line : ℕ) (events : List Event) (asked : Extent)
    (drawing : List ℕ) : Type 0 where
  pub broken : Broken
  pub draws : IsBrokenDrawingOf job line events broken asked drawing

-- what is told of events: a picture if they are legal, and else one up to the first
-- that breaks the list; want of memory can come at any events
abbrev pub TellsOfEvents : Job → ℕ → List Event → Extent → Output → Type 0
TellsOfEvents job line events asked (Output.Drawn sheet) = IsDrawingOf job line events asked sheet
TellsOfEvents job line events asked (Output.Broken sheet) = IsBroken job line events asked sheet
TellsOfEvents job line events asked (Output.Said Said.NoMemory) = Unit {0}
TellsOfEvents job line events asked _ = ⊥

-- each event of the trace is spelled by the line that its tooltip names
abbrev pub TooltipsNameLines : List ℕ → Trace → Type 0
TooltipsNameLines bytes spelled =
    (index : ℕ) (event : Event) → slice_get spelled.events index ≡ Some event
    → IsLineOf bytes spelled (length (lines bytes) - length spelled.events + index) index event

-- the bytes spell a trace, whose events stand in the last lines but one, and this is told of them
pub record TellsOfTrace (bytes : List ℕ) (asked : Extent) (told : Output) : Type 0 where
  pub spelled : Trace
  pub fits : trace bytes ≡ Fits spelled
  pub tells :
      TellsOfEvents spelled.job (length (lines bytes) - length spelled.events) spelled.events asked
      told
  pub tooltips : TooltipsNameLines bytes spelled

-- what is told of bytes: the first line that leaves the grammar, or what is told of a
-- trace; want of memory can come at any bytes
abbrev pub Draws : List ℕ → Extent → Output → Type 0
Draws bytes asked (Output.Said (Said.Refused line cause)) = trace bytes ≡ Leaves line cause
Draws bytes asked (Output.Said Said.NoMemory) = Unit {0}
Draws bytes asked told = TellsOfTrace bytes asked told

-- bytes within the limit were read, all that the source had left if it tells them, and this is
-- told of them
pub record TellsOfInput (left : Option (List ℕ)) (asked : Extent) (told : Output) : Type 0 where
  pub bytes : List ℕ
  pub within : length bytes ≤ TRACE_LIMIT
  pub whole : IfSome left (λ all. all ≡ bytes)
  pub draws : Draws bytes asked told

-- the source failed, or had more bytes than the limit, or there was no memory to read any; or all
-- were read
abbrev pub TellsOfSource : Option (List ℕ) → Option (List ℕ) → ℕ → ℕ → Extent → Output → Type 0
TellsOfSource left now before after asked told =
    ((told ≡ Output.Said Said.ReadFault) × Rose before after × TakesAtMost left now TRACE_LIMIT)
    ⊎ (((told ≡ Output.Said Said.TooLong) × (after ≡ before)
    × IfSome left (λ bytes. TRACE_LIMIT < length bytes))
    ⊎ (((told ≡ Output.Said Said.NoMemory) × (now ≡ left) × (after ≡ before))
    ⊎ ((after ≡ before) × TellsOfInput left asked told)))

-- the usage is told exactly if the words ask for nothing, and then nothing is read
abbrev pub TellsOfCall : Option Extent → Option (List ℕ) → Option (List ℕ) → ℕ → ℕ → Output → Type 0
TellsOfCall None left now before after told =
    (told ≡ Output.Usage) × (now ≡ left) × (after ≡ before)
TellsOfCall (Some asked) left now before after told = TellsOfSource left now before after asked told

-- what is told of a drawing of a trace that is legal or not, or of why there is none
abbrev pub told_with : Result (List ℕ × Bool) InputEnd → Output
told_with (Ok (sheet, true)) = Output.Drawn sheet
told_with (Ok (sheet, false)) = Output.Broken sheet
told_with (Err end) = Output.Said (said_of_end end)

-- what is told, as the bytes that are written
abbrev pub text_of : Output → List ℕ
text_of Output.Usage =
    codes "usage: mu_draw, mu_draw FIRST LAST, mu_draw brief, mu_draw brief FIRST LAST\n"
text_of (Output.Said said) = text said
text_of (Output.Drawn sheet) = sheet
text_of (Output.Broken sheet) = sheet

-- the status of an answer, once it is written
abbrev pub status_for : Output → Status
status_for Output.Usage = Status.Usage
status_for (Output.Said said) = status_for_said said
status_for (Output.Drawn sheet) = Status.Done
status_for (Output.Broken sheet) = Status.Illegal

-- what is said can be printed
abbrev pub IsSayable : Output → Type 0
IsSayable (Output.Said said) = IsShort said
IsSayable _ = Unit {0}
