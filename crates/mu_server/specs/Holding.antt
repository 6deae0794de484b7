-- life, holds a session: the moment at which a server is with its store, and what a connection holds
-- of what its client sent and got so far.
use Rattle.std.specs.Prelude.{ℕ, ◌≡◌, ◌≤◌, ◌⊎◌, suc, Bool, true, List, [], ◌∷◌, ◌++◌, codes, length, map, Err, Some, ⊤}
use Rattle.std.specs.List.{AllByRecursion, slice_get}
use Rattle.kv_store.specs.Commands.{Request}
use Rattle.kv_store.specs.declared.command.Op.{Op}
use Rattle.kv_store.specs.declared.store.Reply.{Reply}
use Rattle.mu_resp.specs.Answers.{simple, refusal}
use Rattle.mu_resp.specs.Requests.{bulk}
use Rattle.mu_resp.specs.Readings.{request_at}
use Rattle.mu_resp.specs.declared.stop.Stop.TheVariants as stop
use Rattle.mu_redis.specs.Alone.{told_alone}
use Rattle.mu_redis.specs.Asking.{asks}
use Rattle.mu_redis.specs.Refusals.{is_stopped}
use Rattle.mu_redis.specs.declared.asked.Asked.{Asked}
use Rattle.mu_redis.specs.declared.wording.Wording.{Wording}
use Rattle.ordered_store.specs.Moments.{IsAnswer, Moment}
use Rattle.mu_server.specs.Sessions.{Answer, Alone, Exchange, Late, ManyKeys, NoRoom, Question, Replied, Session, read_of, rows_of, told_of}
use Rattle.mu_server.specs.declared.connection.Connection.{Connection}
use Rattle.mu_server.specs.declared.connection.Waiting.{Waiting}

-- how many replicas the store has, the moment, and of which connection each row is
pub record Life : Type 0 where
  pub replicas : ℕ
  pub moment : Moment
  pub askers : List ℕ

-- how many rows were taken so far
abbrev pub rows_so_far : Life → ℕ
rows_so_far life = length life.moment.submitted

-- the store is at this moment, and each row is of some connection
pub record HoldsLife (stands : Moment → Type 0) (replicas : ℕ) (life : Life) : Type 0 where
  pub now : stands life.moment
  pub replicas_are : replicas ≡ life.replicas
  pub known : length life.askers ≡ length life.moment.submitted

-- the row is of a command of this operation
pub record IsRowOf (life : Life) (row : ℕ) (op : Op) : Type 0 where
  pub command : Request
  pub submitted : slice_get life.moment.submitted row ≡ Some command
  pub op_is : command.op ≡ op

-- what is told of replicas: that it is done, or that the replica is stopped; and how they are
abbrev pub IsDone : List ℕ → Type 0
IsDone text = text ≡ simple (codes "OK")

abbrev pub IsDoneOrStopped : List ℕ → Type 0
IsDoneOrStopped text = IsDone text ⊎ (text ≡ refusal is_stopped)

abbrev pub IsBulk : List ℕ → Type 0
IsBulk text = (words : List ℕ) × (text ≡ bulk words)

abbrev pub TellsOf : Asked → List ℕ → Type 0
TellsOf (Asked.Stop replica) text = IsDoneOrStopped text
TellsOf (Asked.Pause replica rounds) text = IsDoneOrStopped text
TellsOf (Asked.Back replica) text = IsDone text
TellsOf Asked.Information text = IsBulk text
TellsOf _ text = text ≡ []

-- such bytes were put behind others
pub record Puts (tells : List ℕ → Type 0) (before after : List ℕ) : Type 0 where
  pub told : List ℕ
  pub tells_so : tells told
  pub is : after ≡ before ++ told

-- it asks nothing of the store
abbrev pub IsAlone : Asked → Type 0
IsAlone (Asked.Operation op wording) = ⊥
IsAlone _ = ⊤

-- this is told to a request that asks nothing of the store
pub record TellsAlone (asked : Asked) (words : List (List ℕ)) (text : List ℕ) : Type 0 where
  pub alone : IsAlone asked
  pub of_replicas : List ℕ
  pub tells : TellsOf asked of_replicas
  pub is : text ≡ told_alone asked words ++ of_replicas

-- the request asks the store for an operation, whose reply is told so
pub record AsksStore (life : Life) (words : List (List ℕ)) (op : Op)
    (wording : Wording) : Type 0 where
  pub is : asks life.replicas words ≡ Asked.Operation op wording

-- it does, and this is the row of its command
pub record HasRow (life : Life) (words : List (List ℕ)) (row : ℕ)
    (wording : Wording) : Type 0 where
  pub op : Op
  pub asked : AsksStore life words op wording
  pub row_is : IsRowOf life row op

-- the request asks the store, and its command wasn't submitted
abbrev pub IsUntaken : Life → List (List ℕ) → Type 0
IsUntaken life words = (op : Op) × ((wording : Wording) × AsksStore life words op wording)

-- the answer to a request: if it asks the store, the reply of the store to its command at the
-- command's place in the order
abbrev pub IsAnswered : Life → List (List ℕ) → Answer → Type 0
IsAnswered life words (Replied row wording reply) =
    HasRow life words row wording × IsAnswer life.moment row reply
IsAnswered life words (Late row) = (wording : Wording) × HasRow life words row wording
IsAnswered life words ManyKeys = IsUntaken life words
IsAnswered life words NoRoom = IsUntaken life words
IsAnswered life words (Alone text) = TellsAlone (asks life.replicas words) words text

abbrev pub IsExchange : Life → Exchange → Type 0
IsExchange life exchange = IsAnswered life exchange.words exchange.answer

abbrev pub IsQuestion : Life → Question → Type 0
IsQuestion life question = HasRow life question.words question.waits.row question.waits.wording

-- these ascend, and none is below the first number
abbrev pub AscendFrom : ℕ → List ℕ → Type 0
AscendFrom low [] = ⊤
AscendFrom low (row ∷ rows) = (low ≤ row) × AscendFrom (suc row) rows

-- these rows are of the connection
abbrev pub AreOwn : Life → ℕ → List ℕ → Type 0
AreOwn life number = AllByRecursion (λ row. slice_get life.askers row ≡ Some number)

abbrev pub waits_of : Question → Waiting
waits_of question = question.waits

-- what came and isn't read begins with no whole request, or nothing more is read of it
abbrev pub IsReadUp : List ℕ → Bool → Type 0
IsReadUp input is_ending = (request_at input ≡ Err stop.Short) ⊎ (is_ending ≡ true)

-- the connection holds what its client sent and got so far: the bytes that came are its requests in
-- order and what isn't read; those that were given or are held to be given are the answers in order;
-- the commands whose replies weren't told wait in the order of the requests; rows ascend along the
-- requests, and are of no other connection
pub record HoldsSession (life : Life) (number : ℕ) (session : Session)
    (connection : Connection) : Type 0 where
  pub came : session.came ≡ read_of session ++ connection.input
  pub gave : session.gave ++ connection.output ≡ told_of session
  pub waiting : connection.waiting.items ≡ map waits_of session.pending
  pub exchanges : AllByRecursion (IsExchange life) session.answered
  pub questions : AllByRecursion (IsQuestion life) session.pending
  pub ascend : AscendFrom session.since (rows_of session ++ length life.moment.submitted ∷ [])
  pub own : AreOwn life number (rows_of session)
  pub last : (session.fault ≡ []) ⊎ ((session.pending ≡ []) × (connection.is_ending ≡ true))
  pub read_up : connection.is_read ≡ true → IsReadUp connection.input connection.is_ending
