-- goes on (lives), moves, serves: what a call of a server makes of what its clients sent and got.
use Rattle.std.specs.Prelude.{ℕ, ◌≡◌, ◌≤◌, ◌==◌, if◌then◌else◌, List, [], ◌++◌, length, Some}
use Rattle.std.specs.List.{AllByRecursion, slice_get}
use Rattle.ordered_store.specs.Moments.{GoesOn, Moment}
use Rattle.mu_server.specs.Holding.{HoldsLife, HoldsSession, Life, rows_so_far}
use Rattle.mu_server.specs.Sessions.{Exchange, Session, rows_of}
use Rattle.mu_server.specs.declared.connection.Connection.{Connection}

-- a later time in the life of a server
pub record LifeGoesOn (before after : Life) : Type 0 where
  pub replicas : after.replicas ≡ before.replicas
  pub moment : GoesOn before.moment after.moment
  pub new_askers : List ℕ
  pub askers : after.askers ≡ before.askers ++ new_askers

-- these bytes came of a client and these were given to it, and some of its requests got their
-- answers; what it was told stays. The rows of requests that were read only now are none of those
-- that were taken before
pub record Moves (taken : ℕ) (came gave : List ℕ) (before after : Session) : Type 0 where
  pub since : after.since ≡ before.since
  pub came_is : after.came ≡ before.came ++ came
  pub gave_is : after.gave ≡ before.gave ++ gave
  pub newly : List Exchange
  pub answered : after.answered ≡ before.answered ++ newly
  pub new_rows : List ℕ
  pub rows : rows_of after ≡ rows_of before ++ new_rows
  pub later : AllByRecursion (λ row. taken ≤ row) new_rows

-- a connection holds what comes of a session
pub record MovesTo (taken : ℕ) (life : Life) (number : ℕ) (came gave : List ℕ)
    (session : Session) (connection : Connection) : Type 0 where
  pub next : Session
  pub moves : Moves taken came gave session next
  pub holds : HoldsSession life number next connection

-- the life of the server goes on, and the connection holds what comes of its session, without bytes
-- that come or are given
pub record ServesOne (stands : Moment → Type 0) (replicas : ℕ) (life : Life) (number : ℕ)
    (old new : Connection) : Type 0 where
  pub after : Life
  pub goes : LifeGoesOn life after
  pub now : HoldsLife stands replicas after
  pub moves :
      (session : Session) → HoldsSession life number session old
      → MovesTo (rows_so_far life) after number [] [] session new

-- the connection with this number, if there is one, holds what comes of a session
pub record MovesAt (taken : ℕ) (life : Life) (number : ℕ) (came gave : List ℕ)
    (session : Session) (connections : List Connection) : Type 0 where
  pub connection : Connection
  pub there : slice_get connections number ≡ Some connection
  pub to : MovesTo taken life number came gave session connection

-- the life of the server goes on, and each connection holds what comes of its session, once these
-- bytes have come and these were given
pub record Serves (stands : Moment → Type 0) (replicas : ℕ) (life : Life)
    (came gave : ℕ → List ℕ) (old new : List Connection) : Type 0 where
  pub after : Life
  pub goes : LifeGoesOn life after
  pub now : HoldsLife stands replicas after
  pub count : length new ≡ length old
  pub moves :
      (number : ℕ) (connection : Connection) (session : Session)
      → slice_get old number ≡ Some connection → HoldsSession life number session connection
      → MovesAt (rows_so_far life) after number (came number) (gave number) session new

-- no bytes
abbrev pub no_bytes : ℕ → List ℕ
no_bytes number = []

-- the bytes of one connection
abbrev pub bytes_of : ℕ → List ℕ → ℕ → List ℕ
bytes_of one bytes number = if number == one then bytes else []
