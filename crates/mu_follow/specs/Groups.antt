-- group, spells, are spelled: the commands of an entry; twelve words spell a command; the rows of a
-- configuration spell a list of commands, one each.
use Rattle.std.specs.Prelude.{List, Some, [], drop, if◌then◌else◌, length, take, ℕ, ◌%◌, ◌++◌, ◌+◌, ◌∷◌, ◌≡◌, ◌≤◌}
use Rattle.std.specs.List.{slice_get}
use Rattle.kv_store.specs.Commands.{Request}
use Rattle.mu_rows.specs.Rows.{IsCommand, spelled}
use Rattle.mu_model.specs.declared.config.Config.{Config}
use Rattle.mu_model.specs.Contents.{is_batch, rest_of, row_count}
use Rattle.mu_knowledge.specs.RowWords.{config_words}

-- how many rows the entry has: those of its batch, and a mark none
abbrev pub group_size : Config → ℕ → ℕ
group_size c v = if is_batch c v then rest_of c (v % 4096) + 1 else 0

-- of a list of commands, one for each row, those of the entry
abbrev pub group_of : Config → List Request → ℕ → List Request
group_of c commands v =
    if is_batch c v then take (rest_of c (v % 4096) + 1) (drop (v % 4096) commands) else []

-- those of these entries, in order
abbrev pub groups_of : Config → List Request → List ℕ → List Request
groups_of c commands [] = []
groups_of c commands (v ∷ vs) = group_of c commands v ++ groups_of c commands vs

-- twelve words spell the command
pub record Spells (row : List ℕ) (command : Request) : Type 0 where
  pub is : IsCommand command
  pub rest : ℕ
  pub low : rest ≤ 3
  pub words : row ≡ spelled command rest

-- row j of the configuration spells the command
abbrev pub IsSpelled : Config → ℕ → Request → Type 0
IsSpelled c j command = Spells (config_words c j) command

-- the rows of the configuration spell these commands, one each
pub record AreSpelled (c : Config) (commands : List Request) : Type 0 where
  pub count : length commands ≡ row_count c
  pub each :
      (j : ℕ) (command : Request) → slice_get commands j ≡ Some command → IsSpelled c j command
