-- have heads: what the head words of rows say.
use Rattle.std.specs.Prelude.{ℕ, ◌≡◌, ◌/◌, ◌%◌, ◌^◌, List, [], ◌∷◌, slice_index, ⊤}
use Rattle.kv_store.specs.Commands.{Request}
use Rattle.mu_model.specs.declared.config.Row.{Row}
use Rattle.mu_input.specs.Batches.{followers}

-- the head word of a row says the client and the number of a command, and how many rows follow
pub record HasHead (row : Row) (command : Request) (behind : ℕ) : Type 0 where
  pub client : slice_index row.words 0 / 2 ^ 8 % 2 ^ 8 ≡ command.client
  pub number : slice_index row.words 0 / 2 ^ 16 % 2 ^ 16 ≡ command.number
  pub rest : slice_index row.words 0 / 2 ^ 56 ≡ behind

-- the head words of rows say commands, one each, and their batches
abbrev pub HaveHeads : ℕ → List Request → List Row → Type 0
HaveHeads width [] [] = ⊤
HaveHeads width (command ∷ commands) (row ∷ rows) =
    HasHead row command (followers width command commands) × HaveHeads width commands rows
HaveHeads width _ _ = ⊥
