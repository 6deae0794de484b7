-- what a command says: the answer of each command, and no other: each relation lists all that may
-- be said.
use Rattle.std.specs.Prelude.{true, ℕ, ◌≡◌, List, None, ⊤}
use Rattle.match_book.specs.Stands.{StandsFor}
use Rattle.mu_input.specs.Grammar.{job}
use Rattle.mu_input.specs.Readings.{Fits, Leaves}
use Rattle.mu_input.specs.Bulk.{bulk_job}
use Rattle.mu_input.specs.declared.job.InputEnd.{InputEnd}
use Rattle.mu_cluster.specs.Fair.{HasAllIfFair}
use Rattle.mu_cluster.specs.Leading.{LeadOnUnpaused}
use Rattle.mu_cluster.specs.Living.{StaysAlive}
use Rattle.mu_cluster.specs.Naming.{NamesFirstUnpaused, SpendsBudgets}
use Rattle.mu_cluster.specs.Paces.{AreDiligent, AreDiligentBy, AreEager}
use Rattle.mu_outcome.specs.declared.outcome.Outcome.{Outcome}
use Rattle.mu_outcome.specs.Completion.{Completes}
use Rattle.mu_outcome.specs.Entries.{commands_in, longest}
use Rattle.mu_outcome.specs.Outcomes.{IsRun, Agrees}
use Rattle.mu_outcome.specs.Runs.{IsThreadRun}
use Rattle.mu_report.specs.declared.said.Said.{Said}
use Rattle.snap_reads.specs.Lives.{AreAllSights}

-- the outcome is a run of its job in turns: its journals are diligent and its replicas agree. If a
-- command is missing, each replica was cut short, and if the script has no line, by its budget. If
-- the script has no pause, each replica names replica 0 until that has ended, and no leadership is
-- ever over. If its budget is enough, a replica has every command by a step that the job alone tells,
-- and each that isn't stopped has finished by another. Nothing was gathered of threads
pub record IsReplay (o : Outcome) : Type 0 where
  pub run : IsRun o
  pub diligent : AreDiligent o
  pub names : NamesFirstUnpaused o
  pub agrees : Agrees o
  pub completes : Completes o
  pub spends : SpendsBudgets o
  pub lives : StaysAlive o
  pub leads : LeadOnUnpaused o
  pub gathered : o.gathered ≡ None

-- the outcome is a run of its job in turns by the nodes of `run`: in the turns of their leaders
-- they do what is due to eager nodes, their journals are diligent, with leaders that ask again if a
-- region has gone astray, and they agree. If a command is missing, each replica was cut short, and
-- if the script has no line, by its budget. If the script has no pause, each replica names replica 0
-- until that has ended. Nothing was gathered of threads
pub record IsEagerReplay (o : Outcome) : Type 0 where
  pub run : IsRun o
  pub eager : AreEager o
  pub diligent : AreDiligentBy true o
  pub names : NamesFirstUnpaused o
  pub agrees : Agrees o
  pub completes : Completes o
  pub spends : SpendsBudgets o
  pub gathered : o.gathered ≡ None

-- the outcome is a run of its job by threads: in the turns of their leaders its nodes do what is due
-- to eager ones, its journals are diligent, with leaders that ask again if a region has gone astray,
-- its replicas agree, and if a command is missing each was cut short; none is missing if the run is
-- fair for long enough
pub record IsThreaded (o : Outcome) : Type 0 where
  pub run : IsThreadRun o
  pub eager : AreEager o
  pub diligent : AreDiligentBy true o
  pub agrees : Agrees o
  pub completes : Completes o
  pub lives_if_fair : HasAllIfFair o

-- the bytes leave the grammar of jobs first at this line for this cause; want of memory can come at
-- any bytes
abbrev pub IsEndOf : List ℕ → InputEnd → Type 0
IsEndOf bytes (InputEnd.Refused line cause) = job bytes ≡ Leaves line cause
IsEndOf bytes InputEnd.NoMemory = ⊤

-- `replay`: the bytes leave the grammar first at this line for this cause, or this is the replay of
-- their job; want of memory can come at any bytes
abbrev pub Replays : List ℕ → Said → Type 0
Replays bytes (Said.Refused line cause) = job bytes ≡ Leaves line cause
Replays bytes (Said.Ran outcome) = (job bytes ≡ Fits outcome.job) × IsReplay outcome
Replays bytes Said.NoMemory = ⊤
Replays bytes _ = ⊥

-- `eager`: the same, and this is the replay of their job by eager nodes
abbrev pub ReplaysEagerly : List ℕ → Said → Type 0
ReplaysEagerly bytes (Said.Refused line cause) = job bytes ≡ Leaves line cause
ReplaysEagerly bytes (Said.Ran outcome) = (job bytes ≡ Fits outcome.job) × IsEagerReplay outcome
ReplaysEagerly bytes Said.NoMemory = ⊤
ReplaysEagerly bytes _ = ⊥

-- `run`: the same, and this is a run of their job by threads
abbrev pub Runs : List ℕ → Said → Type 0
Runs bytes (Said.Refused line cause) = job bytes ≡ Leaves line cause
Runs bytes (Said.Ran outcome) = (job bytes ≡ Fits outcome.job) × IsThreaded outcome
Runs bytes Said.NoMemory = ⊤
Runs bytes _ = ⊥

-- `trace`: the same as for `replay`, and the events of the replay are told
abbrev pub Traces : List ℕ → Said → Type 0
Traces bytes (Said.Refused line cause) = job bytes ≡ Leaves line cause
Traces bytes (Said.Traced outcome) = (job bytes ≡ Fits outcome.job) × IsReplay outcome
Traces bytes Said.NoMemory = ⊤
Traces bytes _ = ⊥

-- `eager trace`: the same as for `eager`, and the events of the replay are told
abbrev pub TracesEagerly : List ℕ → Said → Type 0
TracesEagerly bytes (Said.Refused line cause) = job bytes ≡ Leaves line cause
TracesEagerly bytes (Said.Traced outcome) = (job bytes ≡ Fits outcome.job) × IsEagerReplay outcome
TracesEagerly bytes Said.NoMemory = ⊤
TracesEagerly bytes _ = ⊥

-- `bulk`: this is the replay of the stated large job of this many commands, except for want of
-- memory
abbrev pub Sums : ℕ → Said → Type 0
Sums count (Said.Summed outcome) = (outcome.job ≡ bulk_job count) × IsReplay outcome
Sums count Said.NoMemory = ⊤
Sums count _ = ⊥

-- `book`: the same as for `replay`, and the book is that of the commands of the longest log
abbrev pub Books : List ℕ → Said → Type 0
Books bytes (Said.Refused line cause) = job bytes ≡ Leaves line cause
Books bytes (Said.Booked outcome book) =
    (job bytes ≡ Fits outcome.job) × IsReplay outcome
    × StandsFor (commands_in outcome.job (longest outcome.logs)) book
Books bytes Said.NoMemory = ⊤
Books bytes _ = ⊥

-- `live K`: the same as for `replay`, and these are the sights of that many readers of the commands
-- of the longest log
abbrev pub Lives : ℕ → List ℕ → Said → Type 0
Lives readers bytes (Said.Refused line cause) = job bytes ≡ Leaves line cause
Lives readers bytes (Said.Lived outcome lived) =
    (job bytes ≡ Fits outcome.job) × IsReplay outcome
    × AreAllSights outcome readers lived.sights
Lives readers bytes Said.NoMemory = ⊤
Lives readers bytes _ = ⊥
