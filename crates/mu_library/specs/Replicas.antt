-- of replica, opens replica, told access, takes found, appends, tells ..: what each call on one
-- replica makes of it, and what it tells.
use Rattle.std.specs.Prelude.{Bool, Err, List, None, Ok, Some, [], false, length, option_map, take, true, ⊤, ℕ, ◌<◌, ◌^◌, ◌∷◌, ◌≡◌, ◌≤◌, ◌⊎◌}
use Rattle.std.specs.List.{slice_get}
use Rattle.std.specs.declared.option.Option.{Option}
use Rattle.std.specs.declared.result.Result.{Result}
use Rattle.kv_store.specs.declared.command.Op.{Op}
use Rattle.kv_store.specs.Beside.{beside}
use Rattle.kv_store.specs.Commands.{Request}
use Rattle.kv_store.specs.Tables.{replies}
use Rattle.mu_events.specs.Lines.{event_line}
use Rattle.mu_follow.specs.Groups.{AreSpelled, groups_of}
use Rattle.mu_handle.specs.declared.holding.Held.{Held}
use Rattle.mu_input.specs.declared.job.Job.{Job}
use Rattle.mu_input.specs.Grammar.{job}
use Rattle.mu_input.specs.Operations.{operation_of}
use Rattle.mu_input.specs.Readings.{Fits, Leaves, Line, Says, Wrong}
use Rattle.mu_input.specs.declared.TheConstants.{MOST_COMMANDS}
use Rattle.mu_model.specs.declared.config.Config.{Config}
use Rattle.mu_model.specs.declared.event.Event.{Event}
use Rattle.mu_model.specs.declared.script.End.{End}
use Rattle.mu_model.specs.declared.script.Script.{Script}
use Rattle.mu_model.specs.Contents.{row_count, rows_in}
use Rattle.mu_model.specs.Knowledge.{applied, commits as commits_of}
use Rattle.mu_model.specs.Scores.{leader}
use Rattle.mu_lead.specs.Beside.{leads_at}
use Rattle.mu_node.specs.Cycle.{handed_before}
use Rattle.mu_node.specs.Turns.{TellsEnd, TellsHalt}
use Rattle.mu_outcome.specs.Statuses.{code_of}
use Rattle.mu_outcome.specs.declared.status.Status.{Status}
use Rattle.mu_text.specs.Lines.{words}
use Rattle.mu_top.specs.declared.asking.TheConstants.{INPUT_LIMIT}
use Rattle.mu_words.specs.declared.verbs.Move.{Move}
use Rattle.lone_replica.specs.Appending.{with_next}
use Rattle.lone_replica.specs.Standing.{MayTake, StandsForReplica, TakesWord, judged_for}
use Rattle.lone_replica.specs.Telling.{entries_by}
use Rattle.lone_replica.specs.declared.due.Due.{Due}
use Rattle.lone_replica.specs.declared.replica.Replica.{Replica}
use Rattle.lone_replica.specs.declared.replica.Untaken.{Untaken}
use Rattle.lone_words.specs.Memory.{Own}
use Rattle.lone_words.specs.Spots.{host_words}
use Rattle.lone_words.specs.declared.access.Access.{Access}
use Rattle.mu_library.specs.Engines.{IsUntold, PutsReply}
use Rattle.mu_library.specs.Front.{Puts}
use Rattle.mu_library.specs.declared.codes.TheConstants.{ENDED, FULL, STRAY}
use Rattle.mu_library.specs.declared.replicas.Asked.{Asked}
use Rattle.mu_library.specs.declared.shown.Numbers.{Numbers}
use Rattle.mu_library.specs.declared.shown.Show.{Show}

-- a replica, if one is held, stands for what it has come to
abbrev pub StandsIn : Config → Own → Held → Type 0
StandsIn c own (Held.Replica replica) = StandsForReplica c replica.id own replica
StandsIn c own (Held.Judge judge) = ⊤
StandsIn c own (Held.Engine engine) = ⊤

-- the same of a handle, which may have nothing
abbrev pub StandsAt : Config → Own → Option Held → Type 0
StandsAt c own (Some held) = StandsIn c own held
StandsAt c own None = ⊤

-- what a call makes of what is held: of a replica what is said here, with its status; of anything
-- else nothing, and nothing is told, with the status of a wrong use
abbrev pub OfReplicaIn : Type 0 → (Replica → Replica → ℕ → Type 0) → Held → Held → ℕ → Type 0
OfReplicaIn Nothing Does (Held.Replica old) new status =
    (after : Replica) × (new ≡ Held.Replica after) × Does old after status
OfReplicaIn Nothing Does (Held.Judge judge) new status =
    (new ≡ Held.Judge judge) × (status ≡ code_of Status.Usage) × Nothing
OfReplicaIn Nothing Does (Held.Engine engine) new status =
    (new ≡ Held.Engine engine) × (status ≡ code_of Status.Usage) × Nothing

-- the same of a handle, which may have nothing
abbrev pub OfReplica :
    Type 0 → (Replica → Replica → ℕ → Type 0) → Option Held → Option Held → ℕ → Type 0
OfReplica Nothing Does (Some old) new status =
    (held : Held) × (new ≡ Some held) × OfReplicaIn Nothing Does old held status
OfReplica Nothing Does None new status =
    (new ≡ None) × (status ≡ code_of Status.Usage) × Nothing

-- it is the replica of the job before any event
abbrev pub IsMade : Job → ℕ → Held → Type 0
IsMade job id (Held.Replica replica) =
    StandsForReplica job.config id ([], []) replica × (replica.id ≡ id)
    × (replica.node.stops.items ≡ job.script.stops)
IsMade job id (Held.Judge judge) = ⊥
IsMade job id (Held.Engine engine) = ⊥

-- so it is in a handle
abbrev pub IsMadeAt : Job → ℕ → Option Held → Type 0
IsMadeAt job id (Some held) = IsMade job id held
IsMadeAt job id None = ⊥

-- a new replica of a job is there, or a number is out of its limits, or there was no memory, and
-- the handle is as it was
abbrev pub OpensOf : Job → ℕ → ℕ → Option Held → Option Held → ℕ → Type 0
OpensOf job id rows old new status =
    ((status ≡ 0) × (id < job.config.replicas) × (rows ≤ MOST_COMMANDS) × IsMadeAt job id new)
    ⊎ ((status ≡ code_of Status.Usage)
    × ((job.config.replicas ≤ id) ⊎ (MOST_COMMANDS < rows)) × (new ≡ old))
    ⊎ ((status ≡ code_of Status.NoMemory) × (new ≡ old))

-- the same of the bytes of a job, which may be too many, or spell none
abbrev pub OpensReplica : List ℕ → ℕ → ℕ → Option Held → Option Held → ℕ → Type 0
OpensReplica bytes id rows old new status =
    ((of : Job) × (job bytes ≡ Fits of) × OpensOf of id rows old new status)
    ⊎ ((status ≡ code_of Status.TooLong) × (INPUT_LIMIT < length bytes) × (new ≡ old))
    ⊎ ((status ≡ code_of Status.Refused)
    × ((line : ℕ) × (cause : ℕ) × (job bytes ≡ Leaves line cause)) × (new ≡ old))
    ⊎ ((status ≡ code_of Status.NoMemory) × (new ≡ old))

-- how the move of an access is told: its kind, the word that it makes or adds, and the word that it
-- expects
abbrev pub kind_told : Move → ℕ
kind_told Move.Load = 0
kind_told (Move.Store new) = 1
kind_told (Move.Raise least) = 2
kind_told Move.Add = 3
kind_told (Move.SetBits bits) = 4
kind_told (Move.Exchange old new) = 5
kind_told (Move.Swap new) = 6

abbrev pub value_told : Move → ℕ
value_told Move.Load = 0
value_told (Move.Store new) = new
value_told (Move.Raise least) = least
value_told Move.Add = 1
value_told (Move.SetBits bits) = bits
value_told (Move.Exchange old new) = new
value_told (Move.Swap new) = new

abbrev pub expected_told : Move → ℕ
expected_told (Move.Exchange old new) = old
expected_told move = 0

-- the access as a caller in C gets it
abbrev pub asked_for : Access → Asked
asked_for access = record {
  status = 0;
  kind = kind_told access.step;
  host = access.spot.host;
  place = access.spot.place;
  value = value_told access.step;
  expected = expected_told access.step;
}

-- no access
abbrev pub none_asked : ℕ → Asked
none_asked status =
    record { status = status; kind = 0; host = 0; place = 0; value = 0; expected = 0 }

-- what is asked next: the access that is under way, or none if the replica is halted
abbrev pub asked_by : Option Due → Asked
asked_by (Some due) = asked_for due.access
asked_by None = none_asked ENDED

-- the access under way is told, and is the same if it was under way before; or that none is, and
-- something halts the replica
pub record AsksNext (c : Config) (own : Own) (asked : Asked) (old new : Replica) (status : ℕ)
    : Type 0 where
  pub stands : StandsForReplica c old.id own new
  pub told : asked ≡ asked_by new.due
  pub status_is : status ≡ asked.status
  pub again : (due : Due) → old.due ≡ Some due → new ≡ old
  pub halted :
      new.due ≡ None → (script : Script) → script.stops ≡ old.node.stops.items
      → (end : End) × TellsHalt c script old.id own.0 (Some end)

-- the status of a word that was judged
abbrev pub status_of : Result (Unit {0}) Untaken → ℕ
status_of (Ok done) = 0
status_of (Err Untaken.NotDue) = code_of Status.Usage
status_of (Err Untaken.Stray) = STRAY

-- a word was taken, or refused, and then the replica is as it was; one that some legal list leaves
-- there is taken, and the replica stands for what it has come to with it
pub record TakesFound (c : Config) (own : Own) (word : ℕ) (old new : Replica) (status : ℕ)
    : Type 0 where
  pub judged : status ≡ status_of (judged_for c old.id own old.due word)
  pub right : MayTake c old.id own old.due word → status ≡ 0
  pub takes :
      MayTake c old.id own old.due word → TakesWord c old.id own old.due word new
  pub kept : (why : Untaken) → judged_for c old.id own old.due word ≡ Err why → new ≡ old

-- a word that passes the test is one that a replica, if one is held, may take
abbrev pub MayTakeIn : Config → Own → ℕ → Held → Type 0
MayTakeIn c own word (Held.Replica replica) =
    judged_for c replica.id own replica.due word ≡ Ok tt
    → MayTake c replica.id own replica.due word
MayTakeIn c own word (Held.Judge judge) = ⊤
MayTakeIn c own word (Held.Engine engine) = ⊤

abbrev pub MayTakeAt : Config → Own → ℕ → Option Held → Type 0
MayTakeAt c own word (Some held) = MayTakeIn c own word held
MayTakeAt c own word None = ⊤

-- a word was taken, and what is asked next is told; or it was refused, and the replica is as it was
abbrev pub TakesNextFound : Config → Own → ℕ → Asked → Replica → Replica → ℕ → Type 0
TakesNextFound c own word asked old new status =
    (status ≡ asked.status)
    × (((judged_for c old.id own old.due word ≡ Ok tt)
    × TakesWord c old.id own old.due word new × (asked ≡ asked_by new.due))
    ⊎ ((why : Untaken) × (judged_for c old.id own old.due word ≡ Err why)
    × (asked ≡ none_asked (status_of (Err why))) × (new ≡ old)))

-- a command was taken, and its row is told; or there is no room for it, or there was no memory, and
-- the replica stands for what it did; an access that is under way stays so
abbrev pub AppendsOp : Config → Own → ℕ → Op → ℕ → Replica → Replica → ℕ → Type 0
AppendsOp c own client op row old new status =
    ((status ≡ 0) × (row ≡ row_count c) × (new.due ≡ old.due)
    × StandsForReplica (with_next c client op) old.id own new)
    ⊎ ((status ≡ FULL) × (old.accesses.shape.rows ≤ row_count c) × (row ≡ 0)
    × StandsForReplica c old.id own new)
    ⊎ ((status ≡ code_of Status.NoMemory) × (row ≡ 0) × StandsForReplica c old.id own new)

-- the same of what a line says
abbrev pub AppendsAs : Config → Own → ℕ → Line Op → ℕ → Replica → Replica → ℕ → Type 0
AppendsAs c own client (Says op) row old new status = AppendsOp c own client op row old new status
AppendsAs c own client (Wrong cause) row old new status =
    (status ≡ code_of Status.Refused) × (row ≡ 0) × (new ≡ old)

-- the same of a line of a client, if there is such a client
abbrev pub Appends : Config → Own → ℕ → List ℕ → ℕ → Replica → Replica → ℕ → Type 0
Appends c own client line row old new status =
    ((client ≤ 15) × AppendsAs c own client (operation_of (words line)) row old new status)
    ⊎ ((15 < client) × (status ≡ code_of Status.Usage) × (row ≡ 0) × (new ≡ old))

-- no number is told
abbrev pub no_numbers : List ℕ
no_numbers = 0 ∷ 0 ∷ 0 ∷ 0 ∷ 0 ∷ []

-- these two are
abbrev pub two_numbers : ℕ → ℕ → List ℕ
two_numbers first second = first ∷ second ∷ 0 ∷ 0 ∷ 0 ∷ []

-- the entries that r has handed on to its store
abbrev pub handed_on : Config → ℕ → List Event → List ℕ
handed_on c r mine = take (handed_before c r mine) (applied c r mine)

-- five numbers
pub record Five : Type 0 where
  pub first : ℕ
  pub second : ℕ
  pub third : ℕ
  pub fourth : ℕ
  pub fifth : ℕ

-- those of a call
abbrev pub five_of : Numbers → Five
five_of n =
    record {
      first = n.first;
      second = n.second;
      third = n.third;
      fourth = n.fourth;
      fifth = n.fifth;
    }

-- the first three of them, the others being 0
abbrev pub three : ℕ → ℕ → ℕ → Five
three a b c = record { first = a; second = b; third = c; fourth = 0; fifth = 0 }

-- how an end is told: which it is, and of a replica that was outrun the region and the position
abbrev pub end_told : End → Five
end_told End.Stopped = three 1 0 0
end_told End.Budget = three 2 0 0
end_told (End.Outrun region position) = three 3 region position
end_told (End.Finished heads) = three 4 0 0

-- numbers are told, or that there are none, with this status
abbrev pub TellsNumbers : ℕ → Option Five → Five → ℕ → Type 0
TellsNumbers lacking (Some numbers) each status = (status ≡ 0) × (each ≡ numbers)
TellsNumbers lacking None each status = (status ≡ lacking) × (each ≡ three 0 0 0)

-- 1 if it is so, else 0
abbrev pub one_if : Bool → ℕ
one_if true = 1
one_if false = 0

-- the shape of the words is told: how many hosts, and how many words each has
abbrev pub ShowsShape : Replica → Five → ℕ → Type 0
ShowsShape replica each status =
    (status ≡ 0)
    × (each ≡ three replica.accesses.shape.replicas (host_words replica.accesses.shape) 0)

-- this holds of what a replica has come to, if no access is under way
abbrev pub AtRest : Replica → (Config → Own → Type 0) → Type 0
AtRest replica holds =
    (c : Config) → (own : Own) → StandsForReplica c replica.id own replica → replica.due ≡ None
    → holds c own

-- this holds of what a replica has come to, also while an access is under way
abbrev pub AtAnyMoment : Replica → (Config → Own → Type 0) → Type 0
AtAnyMoment replica holds =
    (c : Config) → (own : Own) → StandsForReplica c replica.id own replica → holds c own

-- a count is told, if it has 32 bits
abbrev pub IsCount : ℕ → ℕ → Type 0
IsCount count told = count < 2 ^ 32 → told ≡ count

-- where it stands is told: its steps, whom its scores name leader, whether it leads, how many
-- entries it handed on, and how many it committed itself
pub record ShowsState (replica : Replica) (each : Five) (status : ℕ) : Type 0 where
  pub done : status ≡ 0
  pub steps : AtAnyMoment replica (λ c own. each.first ≡ length own.0)
  pub leader : AtAnyMoment replica (λ c own. each.second ≡ leader c replica.id own.0)
  pub leads : each.third ≡ one_if (leads_at replica.node.lead.place)
  pub applied :
      AtAnyMoment replica (λ c own.
      IsCount (length (entries_by c replica.id own replica.due)) each.fourth)
  pub commits :
      AtAnyMoment replica (λ c own.
      IsCount (length (commits_of c replica.id own.0)) each.fifth)

-- its end is told, if it has one
abbrev pub ShowsEnd : Replica → Five → ℕ → Type 0
ShowsEnd replica each status =
    AtRest replica (λ c own. (script : Script) → script.stops ≡ replica.node.stops.items
    → (end : Option End) × TellsEnd c script replica.id own.0 end
    × TellsNumbers (code_of Status.Unfinished) (option_map end_told end) each status)

-- an entry that it handed on is told, if there is one at this place
abbrev pub ShowsApplied : ℕ → Replica → Five → ℕ → Type 0
ShowsApplied at replica each status =
    AtAnyMoment replica (λ c own. TellsNumbers (code_of Status.Usage)
    (option_map (λ v. three v 0 0) (slice_get (entries_by c replica.id own replica.due) at)) each
    status)

-- what it committed is told, if there is something at this place
abbrev pub ShowsCommit : ℕ → Replica → Five → ℕ → Type 0
ShowsCommit at replica each status =
    AtAnyMoment replica (λ c own. TellsNumbers (code_of Status.Usage)
    (option_map (λ p. three p.0 p.1 0) (slice_get (commits_of c replica.id own.0) at)) each
    status)

-- what is asked for is told
abbrev pub Shows : Show → Five → Replica → ℕ → Type 0
Shows Show.Shape each replica status = ShowsShape replica each status
Shows Show.State each replica status = ShowsState replica each status
Shows Show.End each replica status = ShowsEnd replica each status
Shows (Show.Applied at) each replica status = ShowsApplied at replica each status
Shows (Show.Commit at) each replica status = ShowsCommit at replica each status

-- a call that leaves the replica as it is
abbrev pub AsksReplica : (Replica → ℕ → Type 0) → Replica → Replica → ℕ → Type 0
AsksReplica Tells old new status = (new ≡ old) × Tells old status

-- the reply of its store to the command of a row is put, once an entry with that row is handed on,
-- if there is such a row
abbrev pub RepliesTo : ℕ → ℕ → List ℕ → List ℕ → ℕ → Replica → ℕ → Type 0
RepliesTo row number before after taken replica status =
    ((row < row_count replica.config) × (row < MOST_COMMANDS)
    × AtRest replica (λ c own. (commands : List Request) → AreSpelled c commands
    → PutsReply (beside row (rows_in c (handed_on c replica.id own.0))
    (replies (groups_of c commands (handed_on c replica.id own.0)))) number before after taken
    status))
    ⊎ (((row_count replica.config ≤ row) ⊎ (MOST_COMMANDS ≤ row))
    × (status ≡ code_of Status.Usage) × IsUntold number before after taken)

-- the line of its newest event is put, if it has one
abbrev pub PutsEvent : Option Event → List ℕ → List ℕ → ℕ → ℕ → Type 0
PutsEvent None before after taken status =
    (status ≡ code_of Status.Unfinished) × (taken ≡ 0) × (after ≡ before)
PutsEvent (Some event) before after taken status =
    Puts (event_line event) 0 before after status taken

abbrev pub TellsEvent : List ℕ → List ℕ → ℕ → Replica → ℕ → Type 0
TellsEvent before after taken replica status =
    PutsEvent replica.last before after taken status
