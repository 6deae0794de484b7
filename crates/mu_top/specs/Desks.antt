-- job at a desk, served: what a desk reads of bytes, or where it refuses them; what it keeps of a
-- job, and that its commands are an arrival.
use Rattle.std.specs.Prelude.{ℕ, ◌≡◌, List, ⊤, None, Some}
use Rattle.std.specs.declared.option.Option.{Option}
use Rattle.front_desk.specs.Arrivals.{IsArrival}
use Rattle.front_desk.specs.Collected.{IsCollected}
use Rattle.mu_input.specs.Grammar.{job}
use Rattle.mu_input.specs.Readings.{Fits, Leaves, Reading}
use Rattle.mu_input.specs.Senders.{desk_line}
use Rattle.mu_input.specs.declared.job.InputEnd.{InputEnd}
use Rattle.mu_input.specs.declared.job.Job.{Job}
use Rattle.mu_report.specs.declared.said.Said.{Said}
use Rattle.mu_input.specs.declared.cause.TheConstants.{SENDERS}
use Rattle.mu_top.specs.Commands.{IsReplay}

-- a desk reads what the grammar reads, but leaves a job at the line that keeps it from a desk
abbrev pub at_desk : Option ℕ → Reading Job → Reading Job
at_desk found (Leaves line cause) = Leaves line cause
at_desk None (Fits given) = Fits given
at_desk (Some line) (Fits given) = Leaves line SENDERS

-- the job that bytes spell at a desk, or the line at which they leave what a desk serves
abbrev pub job_at_desk : List ℕ → Reading Job
job_at_desk bytes = at_desk (desk_line bytes) (job bytes)

-- the job is the one that the bytes spell at a desk, except for the order in which its commands
-- arrived
pub record IsServed (bytes : List ℕ) (collected : Job) : Type 0 where
  pub given : Job
  pub fits : job_at_desk bytes ≡ Fits given
  pub arrival : IsArrival given.commands collected.commands
  pub same : IsCollected given collected

-- the bytes leave what a desk serves first at this line for this cause; want of memory can come at
-- any bytes
abbrev pub IsEndOfDesk : List ℕ → InputEnd → Type 0
IsEndOfDesk bytes (InputEnd.Refused line cause) = job_at_desk bytes ≡ Leaves line cause
IsEndOfDesk bytes InputEnd.NoMemory = ⊤

-- `desk`: the bytes leave what a desk serves first at this line for this cause, or this is the
-- replay of their job with its commands as they arrived; want of memory can come at any bytes
abbrev pub Desks : List ℕ → Said → Type 0
Desks bytes (Said.Refused line cause) = job_at_desk bytes ≡ Leaves line cause
Desks bytes (Said.Ran outcome) = IsServed bytes outcome.job × IsReplay outcome
Desks bytes Said.NoMemory = ⊤
Desks bytes _ = ⊥
