-- padded: a word in an array: it stands from the start on, with zeros behind.
use Rattle.std.specs.Prelude.{ℕ, ◌≡◌, ◌-◌, List, ◌++◌, length, take, replicate}
use Rattle.kv_store.specs.Words.{IsWord}

pub record IsPadded (most len : ℕ) (bytes : List ℕ) : Type 0 where
  pub word : IsWord most (take len bytes)
  pub long : length (take len bytes) ≡ len
  pub padded : bytes ≡ take len bytes ++ replicate (most - len) 0
