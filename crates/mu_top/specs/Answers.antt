-- tells: when each answer of the top call comes.
use Rattle.std.specs.Prelude.{ℕ, ◌≡◌, ◌<◌, ◌≤◌, ◌⊎◌, List, length, None, Some, IfSome}
use Rattle.std.specs.declared.option.Option.{Option}
use Rattle.mu_io.specs.Faults.{Rose}
use Rattle.mu_io.specs.Whole.{TakesAtMost}
use Rattle.mu_verdict.specs.Judged.{AttestsOf, NotesOf, SaysOf, ShowsOf, TellsOf as TellsOfTrace}
use Rattle.mu_outcome.specs.declared.status.Status.{Status}
use Rattle.mu_report.specs.declared.said.Said.{Said}
use Rattle.mu_report.specs.Said.{text}
use Rattle.mu_report.specs.Statuses.{status_for}
use Rattle.mu_serve.specs.Serving.{IsServed}
use Rattle.mu_shell.specs.Written.{Wrote}
use Rattle.mu_top.specs.Commands.{Books, Lives, Replays, ReplaysEagerly, Runs, Sums, Traces, TracesEagerly}
use Rattle.mu_top.specs.Desks.{Desks}
use Rattle.mu_top.specs.Promising.{TellsEnough}
use Rattle.mu_top.specs.Words.{limit_of}
use Rattle.mu_top.specs.declared.asking.Task.{Task}
use Rattle.mu_top.specs.declared.asking.Asked.{Asked}

-- what is said of these bytes, by the task
abbrev pub Does : Task → List ℕ → Said → Type 0
Does Task.Replay bytes said = Replays bytes said
Does Task.Eager bytes said = ReplaysEagerly bytes said
Does Task.Run bytes said = Runs bytes said
Does Task.Trace bytes said = Traces bytes said
Does Task.EagerTrace bytes said = TracesEagerly bytes said
Does Task.Enough bytes said = TellsEnough bytes said
Does Task.Check bytes said = SaysOf bytes said
Does Task.Why bytes said = NotesOf bytes said
Does Task.Tell bytes said = TellsOfTrace bytes said
Does (Task.Show count) bytes said = ShowsOf count bytes said
Does Task.Attest bytes said = AttestsOf bytes said
Does Task.Desk bytes said = Desks bytes said
Does Task.Book bytes said = Books bytes said
Does (Task.Live readers) bytes said = Lives readers bytes said

-- bytes within the limit of the task were read, all that the source had left if it tells them, and
-- this is said of them
pub record SaysOfInput (task : Task) (left : Option (List ℕ)) (said : Said) : Type 0 where
  pub bytes : List ℕ
  pub within : length bytes ≤ limit_of task
  pub whole : IfSome left (λ all. all ≡ bytes)
  pub says : Does task bytes said

-- each thing that may be said if a task is asked for, and what it says of the bytes that the source
-- had left and has left now, if it tells them, and of its count of faults before and after: at most
-- the limit was taken before a fault, and want of memory comes before the first read or after the
-- last of bytes within the limit
abbrev pub TellsOf : Task → Option (List ℕ) → Option (List ℕ) → ℕ → ℕ → Said → Type 0
TellsOf task left now before after Said.ReadFault =
    Rose before after × TakesAtMost left now (limit_of task)
TellsOf task left now before after Said.TooLong =
    (after ≡ before) × IfSome left (λ bytes. limit_of task < length bytes)
TellsOf task left now before after Said.NoMemory =
    (after ≡ before)
    × ((now ≡ left) ⊎ IfSome left (λ bytes. length bytes ≤ limit_of task))
TellsOf task left now before after said = (after ≡ before) × SaysOfInput task left said

-- the usage is told exactly if the words ask for nothing; then, and for the stated large job,
-- nothing is read
abbrev pub Tells : Option Asked → Option (List ℕ) → Option (List ℕ) → ℕ → ℕ → Said → Type 0
Tells None left now before after said = (said ≡ Said.Usage) × (now ≡ left) × (after ≡ before)
Tells (Some (Asked.Input task)) left now before after said =
    TellsOf task left now before after said
Tells (Some (Asked.Bulk count)) left now before after said =
    Sums count said × (now ≡ left) × (after ≡ before)

-- what the words ask for is answered, the text of the answer is written, and the program ends with
-- this status
pub record Ends (asked : Option Asked) (left left_now : Option (List ℕ)) (read read_now : ℕ)
    (written written_now : Option (List ℕ)) (wrote wrote_now status : ℕ) : Type 0 where
  pub said : Said
  pub taken : ℕ
  pub tells : Tells asked left left_now read read_now said
  pub writes : Wrote written written_now wrote wrote_now (text said) (status_for said) status taken

-- the lines of a session are answered, if the words ask for one; else what they ask for
abbrev pub EndsAs : Option ℕ → Option Asked → Option (List ℕ) → Option (List ℕ) → ℕ → ℕ
    → Option (List ℕ) → Option (List ℕ) → ℕ → ℕ → ℕ → Type 0
EndsAs None asked left left_now read read_now written written_now wrote wrote_now status =
    Ends asked left left_now read read_now written written_now wrote wrote_now status
EndsAs (Some replicas) asked left left_now read read_now written written_now wrote wrote_now
    status =
    IsServed replicas left left_now read read_now written written_now wrote wrote_now status

-- the usage is written, and the program ends with this status
pub record WritesUsage (written now : Option (List ℕ)) (before after status : ℕ) : Type 0 where
  pub taken : ℕ
  pub writes : Wrote written now before after (text Said.Usage) Status.Usage status taken
