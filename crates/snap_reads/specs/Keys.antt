-- keys of commands, round, gets: the keys in order of first use; a number of gets round them; and
-- all gets of a reader.
use Rattle.std.specs.Prelude.{ℕ, zero, suc, ◌%◌, List, [], ◌∷◌, ◌++◌, length, filter, not, slice_index_or}
use Rattle.std.specs.Str.{bytes_eq}
use Rattle.kv_store.specs.Commands.{Request, key_of}

-- the keys of commands, each once, in order of first use
abbrev pub keys_of : List Request → List (List ℕ)
keys_of [] = []
keys_of (command ∷ commands) =
    key_of command.op ∷ filter (λ key. not (bytes_eq (key_of command.op) key)) (keys_of commands)

-- the key whose turn it is at get k, counted from 0; gets go round the keys
abbrev pub key_at : List (List ℕ) → ℕ → List ℕ
key_at keys k = slice_index_or keys (k % length keys) []

-- the keys of this many gets that go round the keys
abbrev pub round : List (List ℕ) → ℕ → List (List ℕ)
round keys zero = []
round keys (suc k) = round keys k ++ key_at keys k ∷ []

-- how many gets a reader makes alongside the writer: none if there is no key
abbrev pub gets_beside : List (List ℕ) → ℕ
gets_beside [] = 0
gets_beside (key ∷ keys) = 200

-- the keys of all gets of a reader: round the keys alongside the writer, and then each key once
abbrev pub gets : List (List ℕ) → List (List ℕ)
gets keys = round keys (gets_beside keys) ++ keys
