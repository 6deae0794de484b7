-- of a server, opens server, opens, takes, gives, plays, states, closes: what each call makes of a
-- server that a C program holds, and what it tells.
use Rattle.std.specs.Prelude.{ℕ, ◌≡◌, ◌≤◌, ◌+◌, ◌⊎◌, Bool, true, if◌then◌else◌, List, [], length, take, None, Some}
use Rattle.std.specs.List.{slice_get}
use Rattle.std.specs.declared.option.Option.{Option}
use Rattle.mu_outcome.specs.Statuses.{code_of}
use Rattle.mu_outcome.specs.declared.status.Status.{Status}
use Rattle.mu_server.specs.Holding.{HoldsLife, HoldsSession, Life, rows_so_far}
use Rattle.mu_server.specs.Opening.{NoneWaits, Opens, Rests}
use Rattle.mu_server.specs.Serving.{MovesAt, Serves, bytes_of, no_bytes}
use Rattle.mu_server.specs.Sessions.{Session}
use Rattle.mu_server.specs.declared.connection.Connection.{Connection}
use Rattle.mu_server.specs.declared.connection.State.{State}
use Rattle.ordered_eras.specs.Moments.{IsAt}
use Rattle.ordered_store.specs.Moments.{Moment}
use Rattle.held_server.specs.declared.codes.TheConstants.{FULL, MOST_REPLICAS}
use Rattle.held_server.specs.declared.holding.Held.{Held}

-- the store of a server may be at this moment
abbrev pub stands_by : Held → Moment → Type 0
stands_by held moment = IsAt held.server.store.eras.succession moment

-- how many replicas it has
abbrev pub replicas_of : Held → ℕ
replicas_of held = length held.server.store.eras.succession.present.engine.holds

-- its connections, by number
abbrev pub connections_of : Held → List Connection
connections_of held = held.server.connections.items

-- a moment in its life
abbrev pub Lives : Held → Life → Type 0
Lives held life = HoldsLife (stands_by held) (replicas_of held) life

-- what a call makes of the server that is held, and the status that it tells; if none is, nothing,
-- with the status of a wrong use
abbrev pub OfServer :
    Type 0 → (Held → Held → ℕ → Type 0) → Option Held → Option Held → ℕ → Type 0
OfServer Nothing Does (Some old) new status =
    (after : Held) × (new ≡ Some after) × Does old after status
OfServer Nothing Does None new status =
    (new ≡ None) × (status ≡ code_of Status.Usage) × Nothing

-- nothing was submitted, and there is no connection
pub record IsFresh (held : Held) : Type 0 where
  pub at : stands_by held (record { submitted = []; order = [] })
  pub none : connections_of held ≡ []

abbrev pub MayHave : ℕ → Type 0
MayHave replicas = (1 ≤ replicas) × (replicas ≤ MOST_REPLICAS)

-- a new server is there; or there was no memory for it, or there can't be so many replicas, and the
-- handle is as it was
abbrev pub OpensServer : ℕ → Option Held → Option Held → ℕ → Type 0
OpensServer replicas old new status =
    (MayHave replicas × (status ≡ 0) × (held : Held) × (new ≡ Some held) × IsFresh held)
    ⊎ (MayHave replicas × (status ≡ code_of Status.NoMemory) × (new ≡ old))
    ⊎ ((MayHave replicas → ⊥) × (status ≡ code_of Status.Usage) × (new ≡ old))

-- no connection is opened, since there are as many as may be or there was no memory
abbrev pub OpensNone : ℕ → Held → Held → ℕ → Type 0
OpensNone number old new status =
    (number ≡ 0) × ((status ≡ FULL) ⊎ (status ≡ code_of Status.NoMemory))
    × (connections_of new ≡ connections_of old)

-- a connection with this number is opened, or none is
pub record OpensOne (number : ℕ) (old new : Held) (status : ℕ) : Type 0 where
  pub store : new.server.store ≡ old.server.store
  pub opens :
      ((status ≡ 0)
      × ((life : Life) → Opens life number (connections_of old) (connections_of new)))
      ⊎ OpensNone number old new status

-- each connection holds what comes of its session, once these bytes came on one and these were given
abbrev pub Moving : (ℕ → List ℕ) → (ℕ → List ℕ) → Held → Held → Type 0
Moving came gave old new =
    (life : Life) (k : ℕ) (connection : Connection) (session : Session)
    → slice_get (connections_of old) k ≡ Some connection
    → HoldsSession life k session connection
    → MovesAt (rows_so_far life) life k (came k) (gave k) session (connections_of new)

-- the first bytes, so many, came on a connection; or none, since there was no memory
pub record Takes (number : ℕ) (bytes : List ℕ) (count : ℕ) (old new : Held)
    (status : ℕ) : Type 0 where
  pub store : new.server.store ≡ old.server.store
  pub takes :
      ((status ≡ 0) × Moving (bytes_of number (take count bytes)) no_bytes old new)
      ⊎ ((status ≡ code_of Status.NoMemory) × (count ≡ 0)
      × (connections_of new ≡ connections_of old))

-- the first bytes of these, so many, were given on a connection
pub record Gives (number : ℕ) (bytes : List ℕ) (count : ℕ) (old new : Held)
    (status : ℕ) : Type 0 where
  pub done : status ≡ 0
  pub store : new.server.store ≡ old.server.store
  pub gives : Moving no_bytes (bytes_of number (take count bytes)) old new

-- rounds were played; also for want of memory nothing is lost
pub record Plays (waits : ℕ) (old new : Held) (status : ℕ) : Type 0 where
  pub serves :
      (life : Life) → Lives old life
      → Serves (stands_by new) (replicas_of new) life no_bytes no_bytes (connections_of old)
      (connections_of new)
  pub told :
      ((status ≡ 0) × (waits ≡ 0 → NoneWaits (connections_of new)))
      ⊎ ((status ≡ code_of Status.NoMemory) × (waits ≡ 0))

-- a number for a state: a sum
abbrev pub bit : ℕ → Bool → ℕ
bit worth is = if is then worth else 0

abbrev pub code_of_state : State → ℕ
code_of_state state =
    bit 1 state.takes + bit 2 state.gives + bit 4 state.ends + bit 8 state.rests

-- it is told what is to be done for a connection
pub record States (number code : ℕ) (old new : Held) (status : ℕ) : Type 0 where
  pub done : status ≡ 0
  pub same : new ≡ old
  pub state : State
  pub code_is : code ≡ code_of_state state
  pub rests :
      state.rests ≡ true → (life : Life) (connection : Connection) (session : Session)
      → slice_get (connections_of old) number ≡ Some connection
      → HoldsSession life number session connection → Rests session connection

-- the client of a connection has gone
pub record Closes (number : ℕ) (old new : Held) (status : ℕ) : Type 0 where
  pub done : status ≡ 0
  pub store : new.server.store ≡ old.server.store
  pub stays : Moving no_bytes no_bytes old new
