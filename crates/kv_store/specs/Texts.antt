-- table of the map: the map of the store, seen as a table.
use Rattle.std.specs.Prelude.{ℕ, List}
use Rattle.std.specs.FinMap as map
use Rattle.indexmap.specs.IndexMap.{IndexMap}
use Rattle.kv_store.specs.Tables.{Table}

-- the table of the entries, in whatever order they stand
abbrev pub table_of : {S : Type 0} → IndexMap (List ℕ) (List ℕ) S → Table
table_of texts = map.from_entries texts.entries
