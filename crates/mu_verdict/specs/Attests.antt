-- right, wrong (attested trace): what bytes spell as a trace with lines of what clients see is right;
-- an item of it is the first that isn't.
use Rattle.std.specs.Prelude.{ℕ, ◌+◌, ◌++◌, ◌≡◌, List, Some, length, take, ⊤}
use Rattle.std.specs.declared.result.Result.{Result}
use Rattle.std.specs.declared.result.Result.TheVariants.{Ok, Err}
use Rattle.std.specs.List.{slice_get}
use Rattle.mu_verdict.specs.Traces.{AttestedTrace, attested_trace, items_with, job_lines}
use Rattle.mu_verdict.specs.declared.finding.Found.{Found}
use Rattle.mu_clients.specs.Attested.{IsAttested, IsFlaw, events_in, items_back, rows_got}
use Rattle.mu_clients.specs.Laws.{IsInRealTime, RepliesAgree}
use Rattle.mu_clients.specs.declared.items.Attested.{Attested}
use Rattle.mu_clients.specs.declared.items.Flawed.{Flawed}
use Rattle.mu_clients.specs.declared.items.Item.{Item}
use Rattle.mu_input.specs.Readings.{Fits, Leaves}
use Rattle.mu_input.specs.declared.job.InputEnd.{InputEnd}
use Rattle.mu_text.specs.Lines.{Left, lines}

-- the bytes spell a job and items that are attested, and this is how many of each kind there are;
-- any two replies that are told of one row are equal, and the logs are in real time
pub record IsRight (bytes : List ℕ) (counts : Attested) : Type 0 where
  pub spelled : AttestedTrace
  pub fits : attested_trace bytes ≡ Fits spelled
  pub attested : IsAttested spelled.job spelled.items
  pub events : counts.events ≡ length (events_in (items_back spelled.items))
  pub gots : counts.gots ≡ length (rows_got (items_back spelled.items))
  pub all : counts.events + counts.gots + counts.tolds ≡ length spelled.items
  pub agree : RepliesAgree spelled.items
  pub in_time : IsInRealTime spelled.job spelled.items

-- the bytes spell a job and items of which those before this one are attested, and this is wrong with
-- it; its line follows those of the job and of the items before it
pub record IsWrong (bytes : List ℕ) (flawed : Flawed) : Type 0 where
  pub spelled : AttestedTrace
  pub fits : attested_trace bytes ≡ Fits spelled
  pub there : slice_get spelled.items flawed.index ≡ Some flawed.item
  pub before : IsAttested spelled.job (take flawed.index spelled.items)
  pub flaw :
      IsFlaw spelled.job (items_back (take flawed.index spelled.items)) flawed.item flawed.flaw
  pub events : flawed.events ≡ length (events_in (items_back (take flawed.index spelled.items)))
  pub line : flawed.line ≡ length (job_lines (lines bytes)) + flawed.index + 1

-- the bytes leave the grammar first at this line for this cause; want of memory can come at any bytes
abbrev pub IsEndOfItems : List ℕ → InputEnd → Type 0
IsEndOfItems bytes (InputEnd.Refused line cause) = attested_trace bytes ≡ Leaves line cause
IsEndOfItems bytes InputEnd.NoMemory = ⊤

-- what the trace that the bytes spell comes to
abbrev pub IsFound : List ℕ → Found → Type 0
IsFound bytes (Found.Right counts) = IsRight bytes counts
IsFound bytes (Found.Wrong flawed) = IsWrong bytes flawed

-- the lines that are left give more items after these, and this is what is found wrong; or one of them
-- leaves the grammar
abbrev pub GivesMore :
    ℕ → ℕ → List Item → Left → Flawed → Result Found InputEnd → Type 0
GivesMore replicas rows items left flawed (Ok found) =
    (found ≡ Found.Wrong flawed)
    × (more : List Item) × (items_with replicas rows items left ≡ Fits (items ++ more))
GivesMore replicas rows items left flawed (Err (InputEnd.Refused line cause)) =
    items_with replicas rows items left ≡ Leaves line cause
GivesMore replicas rows items left flawed (Err InputEnd.NoMemory) = ⊥
