-- seats (of the table): the table, the writer, the readers, notes and what a get saw, as contracts
-- see them.
use Rattle.std.specs.Prelude.{ℕ, List, []}
use Rattle.std.specs.declared.option.Option.{Option}
use Rattle.atomic_table.specs.Seated.{TableId}
use Rattle.kv_store.specs.Commands.{Request}

-- which table it is, and for how many commands
pub record Shelf : Type 0 where
  pub table : TableId
  pub capacity : ℕ

-- the writer: which table it is of, for how many commands, what it published, and all that it
-- applied
pub record Writing : Type 0 where
  pub table : TableId
  pub capacity : ℕ
  pub published : List Request
  pub list : List Request

-- a reader: which table it is of, for how many commands, what it has seen, and the lists that it
-- was told of
pub record Reading : Type 0 where
  pub table : TableId
  pub capacity : ℕ
  pub seen : List Request
  pub told : List (List Request)

-- a note: which table it is of, and the list that it tells
pub record Note : Type 0 where
  pub table : TableId
  pub list : List Request

-- what a get saw: what the key holds, and after how many commands
pub record Found : Type 0 where
  pub value : Option (List ℕ)
  pub upto : ℕ

-- a writer that has applied nothing
abbrev pub fresh_writer : TableId → ℕ → Writing
fresh_writer table capacity =
    record { table = table; capacity = capacity; published = []; list = [] }

-- a reader that has seen nothing, and was told of nothing
abbrev pub fresh_reader : TableId → ℕ → Reading
fresh_reader table capacity = record { table = table; capacity = capacity; seen = []; told = [] }
