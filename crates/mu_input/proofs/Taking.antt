-- What a line of a trace does to what is left to read.
use Rattle.std.proofs.Common.{◌≡◌, ◌≢◌, ℕ, ◌+◌, Bool, true, if◌then◌else◌, List, [], ◌∷◌, ◌++◌, Option, append_assoc, codes, refl, ap, subst, ◌∙◌}
use Rattle.std.specs.Option.{option_map_or}
use Rattle.std.specs.Str.{bytes_eq}
use Rattle.std.specs.declared.result.Result.TheVariants.{Err}
use Rattle.mu_events.specs.Events.{event_of}
use Rattle.mu_model.specs.declared.event.Event.{Event}
use Rattle.mu_text.specs.Lines.{Left, words}
use Rattle.mu_input.specs.Readings.{Begins, Breaks, EndsHere, Leaves, Reading, followed, whole, whole_from}
use Rattle.mu_input.specs.Traces.{Trace, events_from, trace, trace_after, EventsLeft, GoesOn, HasRead, HasReadAll, IsEndOfTrace, IsRefused}
use Rattle.mu_input.specs.declared.cause.TheConstants.{AFTER_END, EVENT}
use Rattle.mu_input.specs.declared.job.InputEnd.{InputEnd}
use Rattle.mu_input.specs.declared.job.InputEnd.TheVariants.{Refused, NoMemory}
use Rattle.mu_input.specs.declared.job.Job.{Job}

abbrev reading_at : Job → List Event → ℕ → List (List ℕ) → Reading Trace
reading_at job past number text = trace_after job past (record { number = number; lines = text })

-- what is read if the next line ends the events, or else says this
abbrev reading_by : Job → List Event → ℕ → List (List ℕ) → Bool → Option Event → Reading Trace
reading_by job past number text ends said =
    whole (followed (if ends then Begins past (record { number = number + 1; lines = text })
    else option_map_or (λ event. events_from job.config.replicas (past ++ event ∷ []) (number + 1) text) said (Breaks number EVENT))
    (λ events left. Begins (record { job = job; events = events }) left))

by_line : (job : Job) (past : List Event) (left after : Left) (line : List ℕ) (ends : Bool) → left.lines ≡ line ∷ after.lines → bytes_eq line (codes "end") ≡ ends
    → trace_after job past left ≡ reading_by job past left.number after.lines ends (event_of job.config.replicas (words line))
by_line job past left after line ends first is =
    ap (reading_at job past left.number) first ∙ ap (λ b. reading_by job past left.number after.lines b (event_of job.config.replicas (words line))) is

lines_over : (spelled : Trace) (number line cause : ℕ) (text : List (List ℕ)) → text ≢ [] → line ≡ number → cause ≡ AFTER_END → whole_from spelled number text ≡ Leaves line cause
lines_over spelled number line cause [] some is why = absurd (some refl)
lines_over spelled number line cause (next ∷ text) some is why = cc

-- a line after the end of the events
pub after_end : (bytes : List ℕ) (job : Job) (past : List Event) (left after : Left) (line : List ℕ) (end : InputEnd) → trace bytes ≡ trace_after job past left → left.lines ≡ line ∷ after.lines → after.number ≡ left.number + 1
    → bytes_eq line (codes "end") ≡ true → EndsHere (Err end) after → IsRefused bytes end
after_end bytes job past left after line (Refused number cause) reading first more is ends =
    reading ∙ by_line job past left after line true first is ∙ lines_over (record { job = job; events = past }) (left.number + 1) number cause after.lines ends.0 (ends.1 ∙ more) ends.2
after_end bytes job past left after line NoMemory reading first more is ends = ends

-- a refusal is an end of the trace
pub refused_ends : (bytes : List ℕ) (end : InputEnd) → IsRefused bytes end → IsEndOfTrace bytes end
refused_ends bytes (Refused line cause) is = is
refused_ends bytes NoMemory is = tt

-- the bytes begin with this job, these events and some more
pub record HasReadMore (bytes : List ℕ) (job : Job) (past : List Event) (lines : EventsLeft) : Type 0 where
  pub more : List Event
  pub read : HasRead bytes job (past ++ more) lines

pub one_more : (bytes : List ℕ) (job : Job) (past more : List Event) (event : Event) (lines : EventsLeft) → HasRead bytes job (past ++ more ++ event ∷ []) lines → HasReadMore bytes job past lines
one_more bytes job past more event lines read = record { more = more ++ event ∷ []; read = subst (λ es. HasRead bytes job es lines) (append_assoc past more (event ∷ [])) read }

pub all_more : (bytes : List ℕ) (job : Job) (past more : List Event) (count : ℕ) (lines : EventsLeft) → HasReadAll bytes job (past ++ more) lines → count ≡ lines.count → GoesOn bytes job past count
all_more bytes job past more count lines read is = record { more = more; fits = read.fits; count = is ∙ read.count }
