-- opens, rests: what a server makes of a new connection, and of one of which all is answered.
use Rattle.std.specs.Prelude.{ℕ, ◌≡◌, ◌≢◌, List, [], length, Some}
use Rattle.std.specs.List.{slice_get}
use Rattle.mu_server.specs.Holding.{HoldsSession, IsReadUp, Life}
use Rattle.mu_server.specs.Sessions.{Session, first_session, told_of}
use Rattle.mu_server.specs.declared.connection.Connection.{Connection}

-- no command of any connection waits for its reply
abbrev pub NoneWaits : List Connection → Type 0
NoneWaits connections =
    (k : ℕ) (connection : Connection) → slice_get connections k ≡ Some connection
    → connection.waiting.items ≡ []

-- nothing waits at this place
pub record IsFree (connections : List Connection) (place : ℕ) : Type 0 where
  pub connection : Connection
  pub there : slice_get connections place ≡ Some connection
  pub none_waits : connection.waiting.items ≡ []

-- the connection with this number begins a session, and each other stays as it is
pub record Opens (life : Life) (number : ℕ) (old new : List Connection) : Type 0 where
  pub connection : Connection
  pub there : slice_get new number ≡ Some connection
  pub holds :
      HoldsSession life number (first_session (length life.moment.submitted)) connection
  pub others :
      (k : ℕ) → k ≢ number → (other : Connection) → slice_get old k ≡ Some other
      → slice_get new k ≡ Some other

-- the client got an answer to each request that came whole of it, and all of that was given
pub record Rests (session : Session) (connection : Connection) : Type 0 where
  pub gave : session.gave ≡ told_of session
  pub none_waits : session.pending ≡ []
  pub read_up : IsReadUp connection.input connection.is_ending
