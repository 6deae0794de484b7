-- notes of: what `why` says of a trace: of a legal one also after which stops of the script
-- replicas go on.
use Rattle.std.specs.Prelude.{ℕ, ◌<◌, ◌==◌, ◌≡◌, List, None, Some, [], if◌then◌else◌, length, ◌⊎◌, ⊤}
use Rattle.mu_input.specs.Readings.{Fits}
use Rattle.mu_input.specs.declared.job.Job.{Job}
use Rattle.mu_input.specs.Traces.{Trace, trace}
use Rattle.mu_verdict.specs.Explained.{IsExplained, LeavesAt}
use Rattle.mu_model.specs.Histories.{history}
use Rattle.mu_model.specs.Legal.{IsLegal}
use Rattle.mu_model.specs.declared.event.Event.{Event}
use Rattle.mu_model.specs.declared.script.Stop.{Stop}
use Rattle.mu_report.specs.declared.said.Said.{Said}
use Rattle.mu_telling.specs.Straying.{strays}

-- the bytes spell a trace of this many events, they are legal, and these are the stops after which
-- replicas go on
pub record IsNoted (bytes : List ℕ) (events : ℕ) (told : List Stop) : Type 0 where
  pub spelled : Trace
  pub fits : trace bytes ≡ Fits spelled
  pub count : events ≡ length spelled.events
  pub legal : IsLegal spelled.job.config spelled.events
  pub strays_are :
      told
      ≡ strays spelled.job.config.replicas spelled.job.script.stops (history spelled.events)

-- what is said of a legal list of this many events with these strays
abbrev pub said_with : ℕ → List Stop → Said
said_with events told =
    if length told == 0 then Said.Explained events 0 None else Said.Noted events told

-- what is said of the legal events of a job; want of memory can come
abbrev pub SaysLegal : Job → List Event → Said → Type 0
SaysLegal job events said =
    (said ≡ Said.NoMemory)
    ⊎ (said
    ≡ said_with (length events) (strays job.config.replicas job.script.stops (history events)))

-- where the trace breaks and why; of a legal one the stops after which replicas go on, if there are
-- any; a refusal in words if the bytes leave the grammar. Want of memory can come at any bytes, and
-- nothing else is said
abbrev pub NotesOf : List ℕ → Said → Type 0
NotesOf bytes (Said.Misread misread) = LeavesAt bytes misread
NotesOf bytes (Said.Explained events line (Some broken)) =
    IsExplained bytes events line (Some broken)
NotesOf bytes (Said.Explained events line None) = IsNoted bytes events []
NotesOf bytes (Said.Noted events told) = IsNoted bytes events told × (0 < length told)
NotesOf bytes Said.NoMemory = ⊤
NotesOf bytes _ = ⊥
