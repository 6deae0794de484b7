-- batch of a client, clients below: the row of a client's next batch, given the known values; one
-- more than the greatest client.
use Rattle.std.specs.Prelude.{Bool, List, None, Some, false, if◌then◌else◌, length, nat_lt, suc, true, zero, ℕ, ◌&&◌, ◌+◌, ◌-◌, ◌<◌, ◌==◌, ◌≡◌, ◌≤◌}
use Rattle.std.specs.declared.option.Option.{Option}
use Rattle.std.specs.List.{slice_get}
use Rattle.mu_model.specs.declared.config.Config.{Config}
use Rattle.mu_model.specs.Contents.{begins_batch, client_of, command_count, number_of, row_count, rows_before}
use Rattle.mu_knowledge.specs.declared.client_rows.ClientRows.{ClientRows}

-- the first number that passes, among `count` numbers from `from` on
abbrev pub first_of : (ℕ → Bool) → ℕ → ℕ → Option ℕ
first_of test from zero = None
first_of test from (suc count) = if test from then Some from else first_of test (from + 1) count

-- the first number from `from` on, below n, that passes
abbrev pub first_in : (ℕ → Bool) → ℕ → ℕ → Option ℕ
first_in test from n = first_of test from (n - from)

-- q is the first number from `from` on, below n, that passes; or there is none
abbrev pub IsFirst : (ℕ → Bool) → ℕ → ℕ → Option ℕ → Type 0
IsFirst test from n None = (k : ℕ) → from ≤ k → k < n → test k ≡ false
IsFirst test from n (Some q) =
    (from ≤ q) × (q < n) × (test q ≡ true) × ((k : ℕ) → from ≤ k → k < q → test k ≡ false)

-- the row, if there is one, is such
abbrev pub NamesRow : Option ℕ → (ℕ → Type 0) → Type 0
NamesRow None holds = Unit {0}
NamesRow (Some j) holds = holds j

-- row j begins a batch of the client, and is the next after `count` of its commands
abbrev pub begins_after : Config → ℕ → ℕ → ℕ → Bool
begins_after c client count j =
    begins_batch c j && ((client_of c j == client) && (number_of c j == count + 1))

-- the same of a row that is there
abbrev pub IsAfter : Config → ℕ → ℕ → ℕ → Type 0
IsAfter c client count j =
    (j < row_count c) × (begins_batch c j ≡ true) × (client_of c j ≡ client)
    × (number_of c j ≡ count + 1)

-- the row of the client's next batch, if these values are known
abbrev pub batch_of : Config → List ℕ → ℕ → Option ℕ
batch_of c values client =
    first_in (begins_after c client (command_count c client values)) 0 (row_count c)

-- row j begins the next batch of its client, if these values are known
pub record IsNextRow (c : Config) (values : List ℕ) (j : ℕ) : Type 0 where
  pub row : j < row_count c
  pub begins : begins_batch c j ≡ true
  pub next : number_of c j ≡ command_count c (client_of c j) values + 1

-- one more than the greatest client of the first n rows
abbrev pub clients_below : Config → ℕ → ℕ
clients_below c zero = 0
clients_below c (suc j) =
    if nat_lt (clients_below c j) (client_of c j + 1) then client_of c j + 1 else clients_below c j

-- how many of the first n rows are of clients below this one
abbrev pub rows_below : Config → ℕ → ℕ → ℕ
rows_below c client zero = 0
rows_below c client (suc j) =
    if nat_lt (client_of c j) client then rows_below c client j + 1 else rows_below c client j

-- one place above that of each client: how many of the first n rows are the client's
abbrev pub CountsRows : Config → ℕ → List ℕ → Type 0
CountsRows c n starts =
    (client : ℕ) → client < 256
    → slice_get starts (client + 1) ≡ Some (rows_before c client n)

-- where the rows of each client begin, if all rows stand client by client; and where the last end
abbrev pub HaveStarts : Config → List ℕ → Type 0
HaveStarts c starts =
    (client : ℕ) → client ≤ 256
    → slice_get starts client ≡ Some (rows_below c client (row_count c))

-- the place of row j, if all rows stand client by client
abbrev pub place_of : Config → ℕ → ℕ
place_of c j =
    rows_below c (client_of c j) (row_count c) + rows_before c (client_of c j) j

-- each of the first n rows stands at its place
abbrev pub StandAtPlaces : Config → ℕ → List ℕ → Type 0
StandAtPlaces c n rows = (j : ℕ) → j < n → slice_get rows (place_of c j) ≡ Some j

-- the rows of all clients greater than this one begin one place further
pub record BeginLater (client : ℕ) (old new : List ℕ) : Type 0 where
  pub later :
      (start k : ℕ) → client < k → k ≤ 256 → slice_get old k ≡ Some start → start < 65535
      → slice_get new k ≡ Some (start + 1)
  pub others : (k : ℕ) → k ≤ client → slice_get new k ≡ slice_get old k

-- the row at a place that many after a start, if it is before the end
abbrev pub row_between : List ℕ → Option ℕ → Option ℕ → ℕ → Option ℕ
row_between rows None end count = None
row_between rows (Some start) None count = None
row_between rows (Some start) (Some end) count =
    if nat_lt (start + count) end then slice_get rows (start + count) else None

-- the row that is noted as the one after `count` commands of the client
abbrev pub noted_row : ClientRows → ℕ → ℕ → Option ℕ
noted_row state client count =
    row_between state.rows.items (slice_get state.starts.items client)
    (slice_get state.starts.items (client + 1)) count

-- what is kept of the rows of each client is that of the job's rows, and no more; they stand client
-- by client, so the one after those of its client before it is found at once
pub record StandsForClientRows (c : Config) (state : ClientRows) : Type 0 where
  pub clients : state.clients ≡ clients_below c (row_count c)
  pub few : state.clients ≤ 256
  pub bounds : length state.starts.items ≡ 257
  pub places : length state.rows.items ≡ row_count c
  pub begins : HaveStarts c state.starts.items
  pub stand : StandAtPlaces c (row_count c) state.rows.items
