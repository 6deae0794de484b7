-- filled with, puts: the first bytes of a text in the room that a caller gives, and how many bytes
-- the whole text has.
use Rattle.std.specs.Prelude.{ℕ, ◌≡◌, List, ◌++◌, length, take, drop}

-- the room with the first bytes of the text at its front, as many as it has room for, and then what
-- was there
abbrev pub filled_with : List ℕ → List ℕ → List ℕ
filled_with text before = take (length before) text ++ drop (length text) before

-- the status, the length of the whole text, and the room after it
pub record Puts (text : List ℕ) (code : ℕ) (before after : List ℕ) (status taken : ℕ) : Type 0 where
  pub code_is : status ≡ code
  pub count : taken ≡ length text
  pub bytes : after ≡ filled_with text before
