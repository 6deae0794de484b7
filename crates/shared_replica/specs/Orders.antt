-- one order: all that share a list know its rows in the order in which they stand there.
use Rattle.std.specs.Prelude.{List, ℕ, ◌+◌, ◌≡◌}
use Rattle.kv_store.specs.Commands.{Request}
use Rattle.mu_inbox.specs.Entries.{IsEntry}
use Rattle.mu_inbox.specs.Memory.{AreAnswered, Made, own_of}
use Rattle.mu_model.specs.declared.config.Config.{Config}
use Rattle.mu_model.specs.declared.config.Row.{Row}
use Rattle.mu_model.specs.Growing.{with_more}
use Rattle.mu_rows.specs.Rows.{IsCommand, spelled}
use Rattle.shared_replica.specs.Knowing.{Knows, with_command}

-- by its first rows and one more, which stands in the list at that place
pub record KnowsRow (base : Config) (made : List Made) (r p : ℕ) (c : Config) : Type 0 where
  pub before : Config
  pub command : Request
  pub knew : Knows base (own_of r made) p before
  pub is : IsCommand command
  pub stands : IsEntry made p (spelled command 0)
  pub next : c ≡ with_command before command

-- what is known by the rows of the list: each is the one that stands at its place, by as many rows two
-- processes know the same, and who knows more knows those first
pub record IsOneOrder (base : Config) (made : List Made) : Type 0 where
  pub row :
      (r p : ℕ) (c : Config) → Knows base (own_of r made) (p + 1) c → KnowsRow base made r p c
  pub same :
      (r q p : ℕ) (c d : Config) → Knows base (own_of r made) p c
      → Knows base (own_of q made) p d → c ≡ d
  pub first :
      (r q p more : ℕ) (c d : Config) → Knows base (own_of r made) p c
      → Knows base (own_of q made) (p + more) d → (rows : List Row) × (d ≡ with_more c rows)

-- so it is if each access to the list found what its word held
abbrev pub OneOrder : Type 0
OneOrder = (base : Config) (made : List Made) → AreAnswered made → IsOneOrder base made
