-- asked, session: what the words of the command line ask for.
use Rattle.std.specs.Prelude.{ℕ, ◌≤◌, ◌&&◌, List, [], ◌∷◌, codes, string_bytes, None, Some, if◌then◌else◌, ⊤}
use Rattle.std.specs.declared.option.Option.{Option}
use Rattle.std.specs.declared.string.String.{String}
use Rattle.std.specs.declared.alloc.Global.{Global}
use Rattle.std.specs.Str.{bytes_eq}
use Rattle.mu_input.specs.declared.TheConstants.{MOST_COMMANDS, MOST_REPLICAS, TRACE_LIMIT}
use Rattle.snap_reads.specs.declared.TheConstants.{MOST_READERS}
use Rattle.mu_text.specs.Numbers.{number_of, within}
use Rattle.mu_top.specs.declared.asking.Task.{Task}
use Rattle.mu_top.specs.declared.asking.Asked.{Asked}
use Rattle.mu_top.specs.declared.asking.TheConstants.{INPUT_LIMIT, MOST_SHOWN}

-- what one word asks for
abbrev pub task_named : List ℕ → Option Task
task_named word =
    if bytes_eq word (codes "replay") then Some Task.Replay
    else if bytes_eq word (codes "eager") then Some Task.Eager
    else if bytes_eq word (codes "run") then Some Task.Run
    else if bytes_eq word (codes "trace") then Some Task.Trace
    else if bytes_eq word (codes "enough") then Some Task.Enough
    else if bytes_eq word (codes "check") then Some Task.Check
    else if bytes_eq word (codes "why") then Some Task.Why
    else if bytes_eq word (codes "tell") then Some Task.Tell
    else if bytes_eq word (codes "attest") then Some Task.Attest
    else if bytes_eq word (codes "desk") then Some Task.Desk
    else if bytes_eq word (codes "book") then Some Task.Book
    else None

-- a task with its input, if one is named
abbrev pub with_input : Option Task → Option Asked
with_input None = None
with_input (Some task) = Some (Asked.Input task)

-- the stated large job of this many commands, if there is a number
abbrev pub of_count : Option ℕ → Option Asked
of_count None = None
of_count (Some count) = Some (Asked.Bulk count)

-- this many live readers, if there is a number
abbrev pub of_readers : Option ℕ → Option Asked
of_readers None = None
of_readers (Some readers) = Some (Asked.Input (Task.Live readers))

-- the first events of a trace, this many, if there is a number
abbrev pub of_events : Option ℕ → Option Asked
of_events None = None
of_events (Some count) = Some (Asked.Input (Task.Show count))

-- what two words ask for: `bulk` with a number up to the most commands of a job, `live` with one
-- from 1 to the most readers, `show` with one up to the most events, or `eager trace`
abbrev pub asked_of_two : List ℕ → List ℕ → Option Asked
asked_of_two word other =
    if bytes_eq word (codes "bulk") then of_count (within 0 MOST_COMMANDS (number_of other))
    else if bytes_eq word (codes "live") then of_readers (within 1 MOST_READERS (number_of other))
    else if bytes_eq word (codes "show") then of_events (within 0 MOST_SHOWN (number_of other))
    else if bytes_eq word (codes "eager") && bytes_eq other (codes "trace")
    then Some (Asked.Input Task.EagerTrace)
    else None

-- what the words ask for: one word, the name of a task, or two
abbrev pub asked_of : List (String Global) → Option Asked
asked_of [] = None
asked_of (word ∷ []) = with_input (task_named (string_bytes word))
asked_of (word ∷ other ∷ []) = asked_of_two (string_bytes word) (string_bytes other)
asked_of (word ∷ other ∷ more ∷ words) = None

-- the number of replicas, if two words ask for a session: `serve` with a number from 1 to the most
-- replicas
abbrev pub session_of_two : List ℕ → List ℕ → Option ℕ
session_of_two word other =
    if bytes_eq word (codes "serve") then within 1 MOST_REPLICAS (number_of other) else None

-- the number of replicas, if the words ask for a session
abbrev pub session_of : List (String Global) → Option ℕ
session_of [] = None
session_of (word ∷ []) = None
session_of (word ∷ other ∷ []) = session_of_two (string_bytes word) (string_bytes other)
session_of (word ∷ other ∷ more ∷ words) = None

-- as many replicas as a session may have
abbrev pub HasReplicas : ℕ → Type 0
HasReplicas replicas = (1 ≤ replicas) × (replicas ≤ MOST_REPLICAS)

-- no more readers than there may be, and one at least
abbrev pub HasReaders : Task → Type 0
HasReaders (Task.Live readers) = (1 ≤ readers) × (readers ≤ MOST_READERS)
HasReaders task = ⊤

-- no more commands than a job may have, and as many readers as there may be
abbrev pub IsInReach : Asked → Type 0
IsInReach (Asked.Input task) = HasReaders task
IsInReach (Asked.Bulk count) = count ≤ MOST_COMMANDS

-- the most bytes that the input of a task may have
abbrev pub limit_of : Task → ℕ
limit_of Task.Replay = INPUT_LIMIT
limit_of Task.Eager = INPUT_LIMIT
limit_of Task.Run = INPUT_LIMIT
limit_of Task.Trace = INPUT_LIMIT
limit_of Task.EagerTrace = INPUT_LIMIT
limit_of Task.Enough = INPUT_LIMIT
limit_of Task.Check = TRACE_LIMIT
limit_of Task.Why = TRACE_LIMIT
limit_of Task.Tell = TRACE_LIMIT
limit_of (Task.Show count) = TRACE_LIMIT
limit_of Task.Attest = TRACE_LIMIT
limit_of Task.Desk = INPUT_LIMIT
limit_of Task.Book = INPUT_LIMIT
limit_of (Task.Live readers) = INPUT_LIMIT
