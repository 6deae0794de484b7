-- cut, judges all, judges some: how an input is cut into traces, the lines on them, and which of
-- these are written at a fault.
use Rattle.std.specs.Prelude.{ℕ, ◌≡◌, ◌<◌, ◌&&◌, Bool, true, false, List, [], ◌∷◌, ◌++◌, length, take, drop, None, Some, IfSome, MatchOption, Err, Ok, if◌then◌else◌}
use Rattle.std.specs.declared.result.Result.{Result}
use Rattle.std.specs.declared.option.Option.{Option}
use Rattle.std.specs.Option.{option_map, option_map_or}
use Rattle.std.specs.Str.{bytes_eq}
use Rattle.std.specs.Io.KnownBytes.{Appends}
use Rattle.mu_io.specs.Faults.{Rose}
use Rattle.mu_io.specs.declared.whole.ReadEnd.{ReadEnd}
use Rattle.mu_outcome.specs.Statuses.{code_of}
use Rattle.mu_outcome.specs.declared.status.Status.{Status}
use Rattle.mu_outcome.specs.declared.verdict.Verdict.{Verdict}
use Rattle.mu_report.specs.declared.said.Said.{Said}
use Rattle.mu_verdict.specs.Judged.{SaysOf}
use Rattle.mu_report.specs.Said.{said_of_read, text}
use Rattle.mu_report.specs.Statuses.{status_for}
use Rattle.judge_traces.specs.declared.judging.TheConstants.{INPUT_LIMIT}
use Rattle.judge_traces.specs.declared.judging.End.{End}

-- what stands between two traces: a line feed, and a line `---` with its line feed
abbrev pub separator : List ℕ
separator = 10 ∷ 45 ∷ 45 ∷ 45 ∷ 10 ∷ []

-- these bytes begin with it
abbrev pub is_between : List ℕ → Bool
is_between bytes = bytes_eq separator (take 5 bytes)

-- the bytes before the first separator, and those behind it
abbrev pub cut : List ℕ → Option (List ℕ × List ℕ)
cut [] = None
cut (byte ∷ bytes) =
    if is_between (byte ∷ bytes) then Some ([], drop 4 bytes)
    else option_map (λ parts. (byte ∷ parts.0, parts.1)) (cut bytes)

-- what is said of each trace of the bytes, in order
abbrev pub SaysOfAll : List ℕ → List Said → Type 0
SaysOfAll bytes [] = ⊥
SaysOfAll bytes (said ∷ saids) =
    MatchOption (cut bytes) (SaysOf bytes said × (saids ≡ []))
    (λ parts. SaysOf parts.0 said × SaysOfAll parts.1 saids)

-- the texts of what is said
abbrev pub texts : List Said → List ℕ
texts [] = []
texts (said ∷ saids) = text said ++ texts saids

-- a trace is said to be legal
abbrev pub is_legal : Said → Bool
is_legal (Said.Judged events Verdict.Legal) = true
is_legal _ = false

-- all of them are
abbrev pub are_legal : List Said → Bool
are_legal [] = true
are_legal (said ∷ saids) = is_legal said && are_legal saids

-- the bytes of the first trace
abbrev pub first_trace : List ℕ → List ℕ
first_trace bytes = option_map_or (λ parts. parts.0) (cut bytes) bytes

-- what is said of the first traces of the bytes, in order, and of the one after them
abbrev pub SaysOfFirst : List ℕ → List Said → Said → Type 0
SaysOfFirst bytes [] last = SaysOf (first_trace bytes) last
SaysOfFirst bytes (said ∷ saids) last =
    MatchOption (cut bytes) ⊥ (λ parts. SaysOf parts.0 said × SaysOfFirst parts.1 saids last)

-- what is said of the trace was written, and whether it is legal
pub record JudgesOne (bytes : List ℕ) (before after : Option (List ℕ)) (legal : Bool) : Type 0 where
  pub said : Said
  pub says : SaysOf bytes said
  pub printed : Appends before after (text said)
  pub legal_is : is_legal said ≡ legal

-- what is said of each trace was written, in order, and whether all are legal
pub record JudgesAll (bytes : List ℕ) (before after : Option (List ℕ)) (legal : Bool) : Type 0 where
  pub saids : List Said
  pub says : SaysOfAll bytes saids
  pub printed : Appends before after (texts saids)
  pub legal_is : are_legal saids ≡ legal

-- the first `taken` bytes of what is said of the trace were written, but not all
pub record JudgesPart (bytes : List ℕ) (before after : Option (List ℕ)) (taken : ℕ) : Type 0 where
  pub said : Said
  pub says : SaysOf bytes said
  pub printed : Appends before after (take taken (text said))
  pub short : taken < length (text said)

-- what is said of the first traces was written, and of the next the first `taken` bytes, but not
-- all
pub record JudgesSome (bytes : List ℕ) (before after : Option (List ℕ)) (taken : ℕ) : Type 0 where
  pub saids : List Said
  pub last : Said
  pub says : SaysOfFirst bytes saids last
  pub printed : Appends before after (texts saids ++ take taken (text last))
  pub short : taken < length (text last)

-- each end, and what it tells of the bytes that the source had left and of those that the sink had
-- taken before and after, if these tell them
abbrev pub Stops : Option (List ℕ) → Option (List ℕ) → Option (List ℕ) → End → Type 0
Stops left before after End.WriteFault =
    IfSome left (λ bytes. (taken : ℕ) × JudgesSome bytes before after taken)
Stops left before after (End.Unread ReadEnd.TooLong) =
    IfSome left (λ bytes. INPUT_LIMIT < length bytes) × (after ≡ before)
Stops left before after (End.Unread ReadEnd.Fault) = after ≡ before
Stops left before after (End.Unread ReadEnd.NoMemory) = after ≡ before

-- a fault comes if the count of the source's or the sink's faults rose; at each other end neither
-- did
abbrev pub HasFault : ℕ → ℕ → ℕ → ℕ → End → Type 0
HasFault read now_read wrote now_wrote (End.Unread ReadEnd.Fault) = Rose read now_read
HasFault read now_read wrote now_wrote End.WriteFault = Rose wrote now_wrote
HasFault read now_read wrote now_wrote (End.Unread ReadEnd.NoMemory) =
    (now_read ≡ read) × (now_wrote ≡ wrote)
HasFault read now_read wrote now_wrote (End.Unread ReadEnd.TooLong) =
    (now_read ≡ read) × (now_wrote ≡ wrote)

-- how the program ends: by whether all traces are legal, or by why not all were judged; if the
-- input was not read, as `mu check` ends
abbrev pub status_after : Result Bool End → Status
status_after (Ok true) = Status.Done
status_after (Ok false) = Status.Illegal
status_after (Err (End.Unread end)) = status_for (said_of_read end)
status_after (Err End.WriteFault) = Status.WriteFault

-- the number of that status
abbrev pub status_of : Result Bool End → ℕ
status_of end = code_of (status_after end)
