-- is key, is text: which bytes are a key or a text, as tests.
use Rattle.std.specs.Prelude.{ℕ, Bool, ◌&&◌, nat_le, List, length}
use Rattle.std.specs.List.{list_all}
use Rattle.kv_store.specs.declared.TheConstants.{KEY_BYTES, TEXT_BYTES, FIRST_BYTE, LAST_BYTE}

-- a byte that may stand in a key or a text
abbrev pub is_visible : ℕ → Bool
is_visible byte = nat_le FIRST_BYTE byte && nat_le byte LAST_BYTE

-- one to `most` visible bytes
abbrev pub is_word : ℕ → List ℕ → Bool
is_word most bytes =
    (nat_le 1 (length bytes) && nat_le (length bytes) most) && list_all is_visible bytes

abbrev pub is_key : List ℕ → Bool
is_key bytes = is_word KEY_BYTES bytes

abbrev pub is_text : List ℕ → Bool
is_text bytes = is_word TEXT_BYTES bytes
