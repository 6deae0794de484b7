-- content, in session: the batch or mark that a payload number stands for; a list in which each
-- client's commands 1, 2, .. come in order and once.
use Rattle.std.specs.Prelude.{Bool, List, None, Some, [], false, if◌then◌else◌, length, nat_lt, slice_index, suc, true, zero, ℕ, ◌%◌, ◌&&◌, ◌++◌, ◌+◌, ◌/◌, ◌<◌, ◌==◌, ◌^◌, ◌||◌, ◌∷◌, ◌≡◌, ◌≤◌, ◌⊎◌}
use Rattle.std.specs.declared.option.Option.{Option}
use Rattle.std.specs.List.{slice_get}
use Rattle.mu_model.specs.declared.config.Config.{Config}
use Rattle.mu_model.specs.declared.config.Row.{Row}
use Rattle.mu_model.specs.Histories.{all_below}

-- word k of a row, if there is one
abbrev pub word_of : Option Row → ℕ → ℕ
word_of None k = 0
word_of (Some row) k = slice_index row.words k

-- word k of row j
abbrev pub config_word : Config → ℕ → ℕ → ℕ
config_word c j k = word_of (slice_get c.rows j) k

-- how many rows there are
abbrev pub row_count : Config → ℕ
row_count c = length c.rows

-- how many rows of the same batch follow row j
abbrev pub rest_of : Config → ℕ → ℕ
rest_of c j = config_word c j 0 / 2 ^ 56

-- the client of row j
abbrev pub client_of : Config → ℕ → ℕ
client_of c j = config_word c j 0 / 2 ^ 8 % 2 ^ 8

-- which command of its client row j is
abbrev pub number_of : Config → ℕ → ℕ
number_of c j = config_word c j 0 / 2 ^ 16 % 2 ^ 16

-- row j begins a batch
abbrev pub begins_batch : Config → ℕ → Bool
begins_batch c zero = true
begins_batch c (suc j) = rest_of c j == 0

-- the payload number v stands for the batch that begins with its row
abbrev pub is_batch : Config → ℕ → Bool
is_batch c v =
    nat_lt (v / 4096) c.replicas && (nat_lt (v % 4096) (row_count c) && begins_batch c (v % 4096))

-- the payload number v stands for the mark that replica q is gone
abbrev pub is_mark : Config → ℕ → ℕ → Bool
is_mark c q v =
    nat_lt (v / 4096) c.replicas
    && ((c.version == 2) && (nat_lt q c.replicas && (v % 4096 == 4080 + q)))

-- a mark of q is among these entries
abbrev pub marked : Config → ℕ → List ℕ → Bool
marked c q [] = false
marked c q (v ∷ vs) = is_mark c q v || marked c q vs

-- the payload number v stands for a batch, or for the mark of a replica
abbrev pub StandsForEntry : Config → ℕ → Type 0
StandsForEntry c v = (is_batch c v ≡ true) ⊎ ((q : ℕ) × (is_mark c q v ≡ true))

-- the n rows from row j on
abbrev pub rows_from : ℕ → ℕ → List ℕ
rows_from zero j = []
rows_from (suc n) j = j ∷ rows_from n (j + 1)

-- the rows of the entry v: those of its batch, and none of a mark
abbrev pub rows_of : Config → ℕ → List ℕ
rows_of c v = if is_batch c v then rows_from (rest_of c (v % 4096) + 1) (v % 4096) else []

-- the numbers of the client's commands among these rows
abbrev pub numbers_in : Config → ℕ → List ℕ → List ℕ
numbers_in c client [] = []
numbers_in c client (j ∷ js) =
    if client_of c j == client then (number_of c j ∷ numbers_in c client js)
    else numbers_in c client js

-- the numbers of the client's commands, entry by entry and in order within an entry
abbrev pub session : Config → ℕ → List ℕ → List ℕ
session c client [] = []
session c client (v ∷ vs) = numbers_in c client (rows_of c v) ++ session c client vs

-- how many commands of the client these entries hold
abbrev pub command_count : Config → ℕ → List ℕ → ℕ
command_count c client values = length (session c client values)

-- the n numbers from k on
abbrev pub counted : ℕ → ℕ → List ℕ
counted zero k = []
counted (suc n) k = k ∷ counted n (k + 1)

-- the entries are in session: the numbers of each client are 1, 2 and so on up to their count
abbrev pub IsInSession : Config → List ℕ → Type 0
IsInSession c values =
    (client : ℕ) → session c client values ≡ counted (length (session c client values)) 1

-- the rows of these entries
abbrev pub rows_in : Config → List ℕ → List ℕ
rows_in c [] = []
rows_in c (v ∷ vs) = rows_of c v ++ rows_in c vs

-- row j is among these rows
abbrev pub includes : ℕ → List ℕ → Bool
includes j [] = false
includes j (k ∷ ks) = if k == j then true else includes j ks

-- these entries hold every row of the job
abbrev pub holds_all : Config → List ℕ → Bool
holds_all c values = all_below (row_count c) (λ j. includes j (rows_in c values))

-- how many of the first j rows are the client's
abbrev pub rows_before : Config → ℕ → ℕ → ℕ
rows_before c client zero = 0
rows_before c client (suc j) =
    if client_of c j == client then rows_before c client j + 1 else rows_before c client j

-- a configuration that a job gives: all limits hold, the k-th row of a client has number k, and the
-- rests of a batch fall to 0
pub record IsConfig (c : Config) : Type 0 where
  pub versions : (c.version ≡ 1) ⊎ (c.version ≡ 2)
  pub plain : c.version ≡ 1 → c.width ≡ 1
  pub widths : (1 ≤ c.width) × (c.width ≤ 4)
  pub replicas : (1 ≤ c.replicas) × (c.replicas ≤ 7)
  pub ring : (8 ≤ c.ring) × (c.ring ≤ 1024)
  pub budget : (1 ≤ c.budget) × (c.budget ≤ 131071)
  pub few : row_count c ≤ 1500
  pub rests : (j : ℕ) → j < row_count c → rest_of c j < c.width
  pub numbers : (j : ℕ) → j < row_count c → number_of c j ≡ rows_before c (client_of c j) j + 1
  pub batches :
      (j k : ℕ) → j < row_count c → rest_of c j ≡ suc k
      → (j + 1 < row_count c) × (client_of c (j + 1) ≡ client_of c j) × (rest_of c (j + 1) ≡ k)
