-- is shown, shows of: what holds after the first events that the bytes of a trace spell, if these
-- are legal; else what is said of where they break, or of where the bytes leave the grammar.
use Rattle.std.specs.Prelude.{ℕ, ◌<◌, ◌≡◌, List, Some, length, min, take, ⊤}
use Rattle.mu_input.specs.Readings.{Fits}
use Rattle.mu_input.specs.Traces.{Trace, trace}
use Rattle.mu_verdict.specs.Explained.{IsExplained, LeavesAt}
use Rattle.mu_model.specs.Legal.{IsLegal}
use Rattle.mu_report.specs.declared.said.Said.{Said}
use Rattle.mu_telling.specs.Shown.{IsMoment}
use Rattle.mu_outcome.specs.declared.moment.Moment.{Moment}

-- the bytes spell a trace, its first n events are legal (all, if there are fewer), and this is what
-- holds after them
pub record IsShown (n : ℕ) (bytes : List ℕ) (moment : Moment) : Type 0 where
  pub spelled : Trace
  pub fits : trace bytes ≡ Fits spelled
  pub legal : IsLegal spelled.job.config (take n spelled.events)
  pub is : IsMoment spelled.job.config spelled.events (min n (length spelled.events)) moment

-- what holds after the first n events if they are legal, else what is said of where they break and
-- why, or of where the bytes leave the grammar; want of memory can come at any bytes, and nothing
-- else is said
abbrev pub ShowsOf : ℕ → List ℕ → Said → Type 0
ShowsOf n bytes (Said.Shown moment) = IsShown n bytes moment
ShowsOf n bytes (Said.Explained events line (Some broken)) =
    IsExplained bytes events line (Some broken) × (broken.index < n)
ShowsOf n bytes (Said.Misread misread) = LeavesAt bytes misread
ShowsOf n bytes Said.NoMemory = ⊤
ShowsOf n bytes _ = ⊥
