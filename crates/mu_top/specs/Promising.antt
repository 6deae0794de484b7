-- tells enough: the numbers and causes that `mu enough` tells are those of the job that the bytes
-- spell.
use Rattle.std.specs.Prelude.{List, ⊤, ℕ, ◌≡◌}
use Rattle.mu_enough.specs.Promises.{ArePromises}
use Rattle.mu_enough.specs.declared.promises.Promises.{Promises}
use Rattle.mu_input.specs.Grammar.{job}
use Rattle.mu_input.specs.Readings.{Fits, Leaves}
use Rattle.mu_input.specs.declared.job.Job.{Job}
use Rattle.mu_report.specs.declared.said.Said.{Said}

-- the bytes spell a job, and these are its promises: the numbers by which its replay has every command
-- and has finished, those of `StaysAlive`, or why there are none
pub record ArePromisesOf (bytes : List ℕ) (promises : Promises) : Type 0 where
  pub asked : Job
  pub fits : job bytes ≡ Fits asked
  pub promised : ArePromises asked.config asked.script promises

-- `enough`: the bytes leave the grammar first at this line for this cause, or this is what their job
-- promises; want of memory can come at any bytes
abbrev pub TellsEnough : List ℕ → Said → Type 0
TellsEnough bytes (Said.Refused line cause) = job bytes ≡ Leaves line cause
TellsEnough bytes (Said.Promised promises) = ArePromisesOf bytes promises
TellsEnough bytes Said.NoMemory = ⊤
TellsEnough bytes _ = ⊥
