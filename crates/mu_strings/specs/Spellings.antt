-- spelling: strings of any bytes as words of visible bytes: a byte that isn't visible, and `%`, is
-- spelled as `%` and two digits, and the empty string as `%` alone.
use Rattle.std.specs.Prelude.{ℕ, ◌+◌, ◌-◌, ◌*◌, ◌/◌, ◌%◌, ◌&&◌, ◌==◌, Bool, not, nat_le, nat_lt, if◌then◌else◌, List, [], ◌∷◌, length, flat_map, None, Some}
use Rattle.std.specs.declared.option.Option.{Option}
use Rattle.mu_strings.specs.declared.TheConstants.{ESCAPE}
use Rattle.kv_store.specs.declared.TheConstants.{FIRST_BYTE, KEY_BYTES, LAST_BYTE, TEXT_BYTES}

-- a byte that stands for itself
abbrev pub is_plain : ℕ → Bool
is_plain byte = (nat_le FIRST_BYTE byte && nat_le byte LAST_BYTE) && not (byte == ESCAPE)

-- the digit of a number below 16
abbrev pub digit : ℕ → ℕ
digit number = if nat_lt number 10 then 48 + number else 87 + number

-- a byte of a string
abbrev pub byte_spelled : ℕ → List ℕ
byte_spelled byte =
    if is_plain byte then byte ∷ [] else ESCAPE ∷ digit (byte / 16) ∷ digit (byte % 16) ∷ []

-- a string
abbrev pub spelled : List ℕ → List ℕ
spelled [] = ESCAPE ∷ []
spelled (byte ∷ bytes) = flat_map byte_spelled (byte ∷ bytes)

-- the spelling of a string, if it has at most so many bytes
abbrev pub short_spelled : ℕ → List ℕ → Option (List ℕ)
short_spelled most string =
    if nat_le (length (spelled string)) most then Some (spelled string) else None

-- the key, and the text, of a string
abbrev pub key_spelled : List ℕ → Option (List ℕ)
key_spelled = short_spelled KEY_BYTES

abbrev pub text_spelled : List ℕ → Option (List ℕ)
text_spelled = short_spelled TEXT_BYTES

-- the number of a digit
abbrev pub number_of : ℕ → ℕ
number_of digit = if nat_lt digit 58 then digit - 48 else digit - 87

-- the string that a word spells
abbrev pub string_of : List ℕ → List ℕ
string_of [] = []
string_of (byte ∷ []) = if byte == ESCAPE then [] else byte ∷ []
string_of (byte ∷ high ∷ []) = if byte == ESCAPE then [] else byte ∷ string_of (high ∷ [])
string_of (byte ∷ high ∷ low ∷ word) =
    if byte == ESCAPE then ((16 * number_of high + number_of low) % 256) ∷ string_of word
    else byte ∷ string_of (high ∷ low ∷ word)
