-- of engine, opens engine, submits, holds by, replies, trace of, traces: what each call on a live
-- engine without an end makes of it, and what it tells.
use Rattle.std.specs.Prelude.{Bool, List, None, Some, [], ◌∷◌, false, length, map, nat_le, true, ℕ, ◌&&◌, ◌*◌, ◌+◌, ◌<◌, ◌≡◌, ◌≢◌, ◌≤◌, ◌⊎◌}
use Rattle.std.specs.List.{All, slice_get}
use Rattle.std.specs.declared.option.Option.{Option}
use Rattle.kv_store.specs.Commands.{Request}
use Rattle.kv_store.specs.declared.command.Op.{Op}
use Rattle.kv_store.specs.declared.store.Reply.{Reply}
use Rattle.kv_store.specs.declared.store.Reply.TheVariants as reply
use Rattle.mu_engine.specs.Live.{Live, after_round, changed_at, first_live, free, held, submitted}
use Rattle.mu_engine.specs.Moments.{IsMoment}
use Rattle.mu_engine.specs.Shapes.{HasLimits}
use Rattle.mu_engine.specs.declared.hold.Hold.{Hold}
use Rattle.mu_engine.specs.declared.shape.Shape.{Shape}
use Rattle.mu_eras.specs.Eras.{Era, IsReplyTo, submitted_over}
use Rattle.mu_eras.specs.Lasting.{HoldsEras, KeepsEras, KeepsOn, Lasts}
use Rattle.mu_eras.specs.Standing.{era_of}
use Rattle.mu_eras.specs.Telling.{HasNoReply, first_told}
use Rattle.mu_eras.specs.Turns.{PlaysTurns}
use Rattle.mu_eras.specs.declared.eras.Eras.{Eras}
use Rattle.mu_handle.specs.declared.holding.Held.{Held}
use Rattle.mu_input.specs.Grammar.{job}
use Rattle.mu_input.specs.JobLines.{lines_of_trace}
use Rattle.mu_input.specs.Operations.{operation_of}
use Rattle.mu_input.specs.Readings.{Fits, Line, Says, Wrong}
use Rattle.mu_input.specs.Traces.{trace}
use Rattle.mu_library.specs.Calls.{PutsSaid}
use Rattle.mu_library.specs.Front.{Puts}
use Rattle.mu_library.specs.declared.codes.TheConstants.{BEYOND, EMPTY, FULL, MIXED, NO_CLIENT, NO_REPLICA, NO_ROW, OLD_ROW, STOPPED}
use Rattle.mu_model.specs.Ranges.{FitsEvent}
use Rattle.mu_outcome.specs.Statuses.{code_of}
use Rattle.mu_outcome.specs.declared.status.Status.{Status}
use Rattle.mu_report.specs.declared.said.Said.{Said}
use Rattle.mu_text.specs.Lines.{ended, words}

-- the engine of the era under way, and this era
abbrev pub live_of : Eras → Live
live_of e = e.succession.present.engine

abbrev pub era_now : Eras → Era
era_now e = era_of e.succession.present

-- what a call makes of what is held: of an engine what is said here, with its status; of a judge or
-- a replica nothing, and nothing is told, with the status that there is no engine
abbrev pub OfHeld : Type 0 → (Eras → Eras → ℕ → Type 0) → Held → Held → ℕ → Type 0
OfHeld Nothing Does (Held.Engine old) new status =
    (after : Eras) × (new ≡ Held.Engine after) × Does old after status
OfHeld Nothing Does (Held.Judge judge) new status =
    (new ≡ Held.Judge judge) × (status ≡ EMPTY) × Nothing
OfHeld Nothing Does (Held.Replica replica) new status =
    (new ≡ Held.Replica replica) × (status ≡ EMPTY) × Nothing

-- the same of a handle, which may have nothing
abbrev pub OfHandle :
    Type 0 → (Eras → Eras → ℕ → Type 0) → Option Held → Option Held → ℕ → Type 0
OfHandle Nothing Does (Some old) new status =
    (held : Held) × (new ≡ Some held) × OfHeld Nothing Does old held status
OfHandle Nothing Does None new status = (new ≡ None) × (status ≡ EMPTY) × Nothing

-- the numbers are those of an engine, an era takes commands, and its logs have a slot for each and
-- two for each replica: so none is used twice
pub record IsWithinLimits (shape : Shape) : Type 0 where
  pub limits : HasLimits shape
  pub some : 1 ≤ shape.room
  pub slots : shape.room + 2 * shape.replicas ≤ shape.ring

-- an engine before any command, with no era before
pub record IsNewEngine (shape : Shape) (e : Eras) : Type 0 where
  pub live : live_of e ≡ first_live shape
  pub holds : HoldsEras [] e.succession

abbrev pub HasNewEngine : Shape → Option Held → Type 0
HasNewEngine shape (Some (Held.Engine e)) = IsNewEngine shape e
HasNewEngine shape (Some (Held.Judge judge)) = ⊥
HasNewEngine shape (Some (Held.Replica replica)) = ⊥
HasNewEngine shape None = ⊥

-- a new engine is there; or there was no memory for it, or a number is out of its limits, and the
-- handle is as it was
abbrev pub OpensEngine : Shape → Option Held → Option Held → ℕ → Type 0
OpensEngine shape old new status =
    (IsWithinLimits shape × (status ≡ 0) × HasNewEngine shape new)
    ⊎ (IsWithinLimits shape × (status ≡ code_of Status.NoMemory) × (new ≡ old))
    ⊎ ((IsWithinLimits shape → ⊥) × (status ≡ BEYOND) × (new ≡ old))

-- the next command of a client was taken; its row is how many there were before, over all eras
pub record Takes (client : ℕ) (op : Op) (row : ℕ) (old new : Eras) : Type 0 where
  pub has_room : (live_of old).room ≢ 0
  pub live : live_of new ≡ submitted (live_of old) client op
  pub goes : KeepsOn old.succession new.succession
  pub here : KeepsEras old.succession new.succession
  pub row_is :
      (past : List Era) → HoldsEras past old.succession
      → row ≡ length (submitted_over (era_now old ∷ past))

-- so it was; or the era has no room, or there was no memory
abbrev pub SubmitsOp : ℕ → Op → ℕ → Eras → Eras → ℕ → Type 0
SubmitsOp client op row old new status =
    ((status ≡ 0) × Takes client op row old new)
    ⊎ ((status ≡ FULL) × ((live_of old).room ≡ 0) × (row ≡ 0) × (new ≡ old))
    ⊎ ((status ≡ code_of Status.NoMemory) × ((live_of old).room ≢ 0) × (row ≡ 0) × (new ≡ old))

-- the same of what a line says
abbrev pub SubmitsAs : ℕ → Line Op → ℕ → Eras → Eras → ℕ → Type 0
SubmitsAs client (Says op) row old new status = SubmitsOp client op row old new status
SubmitsAs client (Wrong cause) row old new status =
    (status ≡ code_of Status.Refused) × (row ≡ 0) × (new ≡ old)

-- the same of a line of a client, if there is such a client
abbrev pub Submits : ℕ → List ℕ → ℕ → Eras → Eras → ℕ → Type 0
Submits client line row old new status =
    ((client ≤ 15) × SubmitsAs client (operation_of (words line)) row old new status)
    ⊎ ((15 < client) × (status ≡ NO_CLIENT) × (row ≡ 0) × (new ≡ old))

-- one round was played: which eras there were goes on, and no command came meanwhile; there may
-- have been no memory for an era that was due
pub record PlaysRound (old new : Eras) (status : ℕ) : Type 0 where
  pub done : (status ≡ 0) ⊎ (status ≡ code_of Status.NoMemory)
  pub holds : (live_of new).holds ≡ map after_round (live_of old).holds
  pub turns : PlaysTurns old.succession new.succession
  pub lasts :
      (past : List Era) → HoldsEras past old.succession
      → Lasts past old.succession new.succession

-- what holds a replica was changed, and nothing else
pub record Holds (f : Hold → Hold) (replica : ℕ) (old new : Eras) : Type 0 where
  pub live :
      live_of new
      ≡ record (live_of old) { holds = changed_at f (live_of old).holds replica }
  pub here : KeepsEras old.succession new.succession

-- so it was, if there is such a replica and it isn't stopped
abbrev pub HoldsAs : (Hold → Hold) → ℕ → Option Bool → Eras → Eras → ℕ → Type 0
HoldsAs f replica (Some false) old new status = (status ≡ 0) × Holds f replica old new
HoldsAs f replica (Some true) old new status = (status ≡ STOPPED) × (new ≡ old)
HoldsAs f replica None old new status = (status ≡ NO_REPLICA) × (new ≡ old)

-- whether the replica at this place is stopped
abbrev pub is_stopped : Option Hold → Option Bool
is_stopped (Some hold) = Some hold.stopped
is_stopped None = None

abbrev pub HoldsBy : (Hold → Hold) → ℕ → Eras → Eras → ℕ → Type 0
HoldsBy f replica old new status =
    HoldsAs f replica (is_stopped (slice_get (live_of old).holds replica)) old new status

-- nothing holds a replica any more, if there is such a replica
abbrev pub CallsBack : ℕ → Eras → Eras → ℕ → Type 0
CallsBack replica old new status =
    ((replica < length (live_of old).holds) × (status ≡ 0) × Holds (held free) replica old new)
    ⊎ ((length (live_of old).holds ≤ replica) × (status ≡ NO_REPLICA) × (new ≡ old))

-- a reply as a caller in C gets it: its number, and its text
abbrev pub number_of_reply : Reply → ℕ
number_of_reply reply.Done = 1
number_of_reply (reply.Value text) = 2
number_of_reply reply.None = 3
number_of_reply (reply.Kept text) = 4

abbrev pub text_of_reply : Reply → List ℕ
text_of_reply reply.Done = []
text_of_reply (reply.Value text) = text
text_of_reply reply.None = []
text_of_reply (reply.Kept text) = text

-- nothing is told
abbrev pub IsUntold : ℕ → List ℕ → List ℕ → ℕ → Type 0
IsUntold number before after taken = (number ≡ 0) × (taken ≡ 0) × (after ≡ before)

-- a reply is put, or it isn't there yet
abbrev pub PutsReply : Option Reply → ℕ → List ℕ → List ℕ → ℕ → ℕ → Type 0
PutsReply None number before after taken status =
    (status ≡ code_of Status.Unfinished) × IsUntold number before after taken
PutsReply (Some reply) number before after taken status =
    (number ≡ number_of_reply reply) × Puts (text_of_reply reply) 0 before after status taken

-- the row is of a command of the era under way or of the one before it
pub record IsThere (row : ℕ) (e : Eras) : Type 0 where
  pub submitted :
      (past : List Era) → HoldsEras past e.succession
      → row < length (submitted_over (era_now e ∷ past))
  pub kept : (past : List Era) → HoldsEras past e.succession → first_told past ≤ row

-- it isn't, and why: there is no such row yet, or its era is older
abbrev pub WhyUntold : ℕ → Eras → ℕ → Type 0
WhyUntold row e status =
    ((status ≡ NO_ROW) × ((past : List Era) → HoldsEras past e.succession
    → length (submitted_over (era_now e ∷ past)) ≤ row))
    ⊎ ((status ≡ OLD_ROW) × ((past : List Era) → HoldsEras past e.succession
    → row < first_told past))

-- what is told of a row is the reply of one store over all eras; if nothing is, it has no reply
abbrev pub TellsRow : ℕ → Option Reply → Eras → Type 0
TellsRow row None e =
    (past : List Era) → HoldsEras past e.succession → HasNoReply past (era_now e) row
TellsRow row (Some reply) e =
    (past : List Era) → HoldsEras past e.succession → IsReplyTo (era_now e ∷ past) row reply

-- what is told of a row is put, if it is there
abbrev pub Replies : ℕ → ℕ → List ℕ → List ℕ → ℕ → Eras → ℕ → Type 0
Replies row number before after taken e status =
    (WhyUntold row e status × IsUntold number before after taken)
    ⊎ (IsThere row e × (told : Option Reply) × TellsRow row told e
    × PutsReply told number before after taken status)

-- the commands of each client stand together, the clients in order from this one on
abbrev pub stand_by_client : ℕ → List Request → Bool
stand_by_client least [] = true
stand_by_client least (command ∷ commands) =
    nat_le least command.client && stand_by_client command.client commands

-- the trace of an engine: the lines of its commands and of its events, which are a legal list of
-- them; it is read back as these, if some bytes spell the commands and the events' numbers fit
pub record IsTraceOf (live : Live) (text : List ℕ) : Type 0 where
  pub lines : text ≡ ended (lines_of_trace live.job live.events)
  pub moment : IsMoment live.job live.events
  pub read_back :
      (bytes : List ℕ) → job bytes ≡ Fits live.job → All FitsEvent live.events
      → trace text ≡ Fits (record { job = live.job; events = live.events })

-- the trace is put, or that there was no memory
abbrev pub PutsTrace : Live → List ℕ → List ℕ → ℕ → ℕ → Type 0
PutsTrace live before after taken status =
    ((text : List ℕ) × IsTraceOf live text × Puts text 0 before after status taken)
    ⊎ PutsSaid Said.NoMemory before after status taken

-- so it is, if a job's text has its commands in this order; else nothing is put
abbrev pub TracesAs : Bool → Live → List ℕ → List ℕ → ℕ → ℕ → Type 0
TracesAs true live before after taken status = PutsTrace live before after taken status
TracesAs false live before after taken status =
    (status ≡ MIXED) × (taken ≡ 0) × (after ≡ before)

abbrev pub TracesLive : List ℕ → List ℕ → ℕ → Live → ℕ → Type 0
TracesLive before after taken live status =
    TracesAs (stand_by_client 0 live.job.commands) live before after taken status

-- the trace of the era under way
abbrev pub Traces : List ℕ → List ℕ → ℕ → Eras → ℕ → Type 0
Traces before after taken e status = TracesLive before after taken (live_of e) status

-- a call that leaves the engine as it is
abbrev pub Asks : (Eras → ℕ → Type 0) → Eras → Eras → ℕ → Type 0
Asks Tells old new status = (new ≡ old) × Tells old status
