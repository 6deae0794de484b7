-- plain, shown: a byte that can be shown; a line in quotes, cut after 64 bytes.
use Rattle.std.specs.Prelude.{ℕ, Bool, ◌&&◌, if◌then◌else◌, nat_le, nat_lt, List, [], ◌++◌, codes, length, map, take}
use Rattle.mu_text.specs.declared.TheConstants.{SPACE}
use Rattle.mu_mistakes.specs.declared.TheConstants.{SHOWN_BYTES, UNSHOWN, BEYOND_ASCII}

-- a letter, a digit, a sign or a space
abbrev pub is_plain : ℕ → Bool
is_plain byte = nat_le SPACE byte && nat_lt byte BEYOND_ASCII

-- the byte, or a question mark in place of one that can't be shown
abbrev pub shown_byte : ℕ → ℕ
shown_byte byte = if is_plain byte then byte else UNSHOWN

-- two dots if a line has more bytes than are shown
abbrev pub more_mark : List ℕ → List ℕ
more_mark line = if nat_lt SHOWN_BYTES (length line) then codes " .." else []

-- the first bytes of a line between quotes, and two dots if it has more
abbrev pub shown : List ℕ → List ℕ
shown line =
    codes "\"" ++ map shown_byte (take SHOWN_BYTES line) ++ codes "\"" ++ more_mark line
