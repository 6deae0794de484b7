-- attests of: the answer on a trace with lines of what clients see.
use Rattle.std.specs.Prelude.{ℕ, ◌≡◌, List, ⊤}
use Rattle.mu_verdict.specs.Attests.{IsRight, IsWrong}
use Rattle.mu_verdict.specs.Traces.{attested_trace}
use Rattle.mu_input.specs.Readings.{Leaves}
use Rattle.mu_report.specs.declared.said.Said.{Said}

-- `attest`: the bytes leave the grammar first at this line for this cause; or all items are right, and
-- this is how many there are of each kind; or this is the first that is wrong, and why; want of memory
-- can come at any bytes
abbrev pub AttestsOf : List ℕ → Said → Type 0
AttestsOf bytes (Said.Refused line cause) = attested_trace bytes ≡ Leaves line cause
AttestsOf bytes (Said.Attested counts) = IsRight bytes counts
AttestsOf bytes (Said.Flawed flawed) = IsWrong bytes flawed
AttestsOf bytes Said.NoMemory = ⊤
AttestsOf bytes _ = ⊥
