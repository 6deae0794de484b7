-- key, text: keys and texts: short words of visible bytes.
use Rattle.std.specs.Prelude.{ℕ, ◌≤◌, List, length, All}
use Rattle.kv_store.specs.declared.TheConstants.{KEY_BYTES, TEXT_BYTES, FIRST_BYTE, LAST_BYTE}

-- a byte that may stand in a word: no control code, no space, and nothing above ASCII
abbrev pub IsVisible : ℕ → Type 0
IsVisible byte = (FIRST_BYTE ≤ byte) × (byte ≤ LAST_BYTE)

-- one to `most` visible bytes
pub record IsWord (most : ℕ) (bytes : List ℕ) : Type 0 where
  pub some : 1 ≤ length bytes
  pub fits : length bytes ≤ most
  pub visible : All IsVisible bytes

abbrev pub IsKey : List ℕ → Type 0
IsKey = IsWord KEY_BYTES

abbrev pub IsText : List ℕ → Type 0
IsText = IsWord TEXT_BYTES
