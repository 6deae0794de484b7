-- numbers: which bytes spell a number in decimal, and the digits of a number.
use Rattle.std.specs.Prelude.{ℕ, ◌+◌, ◌-◌, ◌*◌, ◌^◌, Bool, false, not, if◌then◌else◌, ◌&&◌, ◌==◌, nat_le, nat_lt, List, [], ◌∷◌, length, None, Some}
use Rattle.std.specs.declared.option.Option.{Option}
use Rattle.std.specs.List.{list_all}
use Rattle.mu_text.specs.declared.TheConstants.{ZERO, NINE, MOST_DIGITS, MOST_WIDE_DIGITS}

-- a byte that is a decimal digit
abbrev pub is_digit : ℕ → Bool
is_digit byte = nat_le ZERO byte && nat_le byte NINE

-- the value of digits: each counts ten times as much as it would in the next place
abbrev pub value_of : List ℕ → ℕ
value_of [] = 0
value_of (digit ∷ digits) = (digit - ZERO) * 10 ^ length digits + value_of digits

-- the first digit is a zero, and others follow
abbrev pub has_leading_zero : List ℕ → Bool
has_leading_zero [] = false
has_leading_zero (digit ∷ []) = false
has_leading_zero (digit ∷ next ∷ digits) = digit == ZERO

-- one to `most` digits, without a leading zero
abbrev pub is_decimal : ℕ → List ℕ → Bool
is_decimal most word =
    (nat_le 1 (length word) && nat_le (length word) most)
    && (list_all is_digit word && not (has_leading_zero word))

-- the number that a word spells, if it spells one
abbrev pub number_of : List ℕ → Option ℕ
number_of word = if is_decimal MOST_DIGITS word then Some (value_of word) else None

-- the number that a word of an event spells, if it spells one
abbrev pub wide_number_of : List ℕ → Option ℕ
wide_number_of word = if is_decimal MOST_WIDE_DIGITS word then Some (value_of word) else None

-- the number, if there is one, from `low` to `high`
abbrev pub within : ℕ → ℕ → Option ℕ → Option ℕ
within low high None = None
within low high (Some number) =
    if nat_le low number && nat_le number high then Some number else None

-- the number, if there is one, below the limit
abbrev pub below : ℕ → Option ℕ → Option ℕ
below limit None = None
below limit (Some number) = if nat_lt number limit then Some number else None

-- the number of 8 (16, 32, 64) bits that a word of an event spells
abbrev pub of_8 : List ℕ → Option ℕ
of_8 word = below (2 ^ 8) (wide_number_of word)

abbrev pub of_16 : List ℕ → Option ℕ
of_16 word = below (2 ^ 16) (wide_number_of word)

abbrev pub of_32 : List ℕ → Option ℕ
of_32 word = below (2 ^ 32) (wide_number_of word)

abbrev pub of_64 : List ℕ → Option ℕ
of_64 word = below (2 ^ 64) (wide_number_of word)

-- the number is this one
abbrev pub is_numbered : ℕ → Option ℕ → Bool
is_numbered wanted None = false
is_numbered wanted (Some number) = number == wanted
