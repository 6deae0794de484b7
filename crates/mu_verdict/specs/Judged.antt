-- says of: the answer on the bytes of a trace.
use Rattle.std.specs.Prelude.{ℕ, ◌≡◌, List, Err, Ok, length, ⊤}
use Rattle.mu_input.specs.declared.job.InputEnd.{InputEnd}
use Rattle.mu_input.specs.Readings.{Fits, Leaves}
use Rattle.mu_input.specs.Traces.{Trace, trace}
use Rattle.std.specs.declared.result.Result.{Result}
use Rattle.mu_outcome.specs.Verdicts.{Judges}
use Rattle.mu_outcome.specs.declared.verdict.Verdict.{Verdict}
use Rattle.mu_report.specs.declared.said.Said.{Said}
use Rattle.mu_report.specs.Said.{said_of_end}
pub use Rattle.mu_verdict.specs.Attested.{AttestsOf}
pub use Rattle.mu_verdict.specs.Noted.{NotesOf}
pub use Rattle.mu_verdict.specs.Shown.{ShowsOf}
pub use Rattle.mu_verdict.specs.Told.{TellsOf}

-- the bytes spell a trace of this many events, and this is the verdict on them
pub record IsJudged (bytes : List ℕ) (events : ℕ) (verdict : Verdict) : Type 0 where
  pub spelled : Trace
  pub fits : trace bytes ≡ Fits spelled
  pub count : events ≡ length spelled.events
  pub judges : Judges spelled.job.config spelled.events verdict

-- a refusal if the bytes leave the grammar, at that line with that cause, and else the verdict;
-- want of memory can come at any bytes, and nothing else is said of a trace
abbrev pub SaysOf : List ℕ → Said → Type 0
SaysOf bytes (Said.Refused line cause) = trace bytes ≡ Leaves line cause
SaysOf bytes (Said.Judged events verdict) = IsJudged bytes events verdict
SaysOf bytes Said.NoMemory = ⊤
SaysOf bytes _ = ⊥

-- what is said of this many events with this verdict, or of why no trace was judged
abbrev pub said_of : Result (ℕ × Verdict) InputEnd → Said
said_of (Ok judged) = Said.Judged judged.0 judged.1
said_of (Err end) = said_of_end end
