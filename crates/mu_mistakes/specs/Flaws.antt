-- flaw: what the bytes of a line show that no line of an input has (a tab, a carriage return, a
-- space too many), and the words for it.
use Rattle.std.specs.Prelude.{ℕ, ◌+◌, ◌==◌, ◌&&◌, not, if◌then◌else◌, List, [], ◌∷◌, ◌++◌, codes, length, position, slice_index, take, None, Some}
use Rattle.std.specs.declared.option.Option.{Option}
use Rattle.std.specs.Fmt.{decimal}
use Rattle.mu_text.specs.declared.TheConstants.{MANY_WORDS}
use Rattle.mu_text.specs.Lines.{words}
use Rattle.mu_mistakes.specs.Shown.{is_plain}
use Rattle.mu_mistakes.specs.declared.flaw.Flaw.{Flaw}
use Rattle.mu_mistakes.specs.declared.flaw.TheConstants.{RETURN, TAB, MARK}

-- the place of the first byte that is no letter, digit, sign or space
abbrev pub bad_byte : List ℕ → Option ℕ
bad_byte line = position (λ byte. not (is_plain byte)) line

-- the place of the first word that has no byte
abbrev pub empty_word : List (List ℕ) → Option ℕ
empty_word words = position (λ word. length word == 0) words

-- the words that are looked at: one more than any line of the grammar has
abbrev pub first_words : List ℕ → List (List ℕ)
first_words line = take MANY_WORDS (words line)

-- a word without a byte is a space before the first word, after the last, or two between two words
abbrev pub spacing_at : ℕ → Option ℕ → Option Flaw
spacing_at count None = None
spacing_at count (Some place) =
    if place == 0 then Some Flaw.SpaceBefore
    else if place + 1 == count then Some Flaw.SpaceAfter
    else Some Flaw.TwoSpaces

abbrev pub spacing_of : List (List ℕ) → Option Flaw
spacing_of words = spacing_at (length words) (empty_word words)

-- a byte that can't be shown, or else what the spaces show
abbrev pub byte_or_spacing : List ℕ → Option ℕ → Option Flaw
byte_or_spacing line (Some index) = Some (Flaw.Byte (index + 1) (slice_index line index))
byte_or_spacing line None = spacing_of (first_words line)

-- what the bytes of a line show, if they show anything
abbrev pub flaw_of : List ℕ → Option Flaw
flaw_of [] = Some Flaw.Empty
flaw_of (byte ∷ bytes) = byte_or_spacing (byte ∷ bytes) (bad_byte (byte ∷ bytes))

-- a byte that is told by its number
abbrev pub other_words : ℕ → List ℕ
other_words byte = codes " is " ++ decimal byte ++ codes ": the input is plain ASCII"

-- what this byte is, at this place
abbrev pub byte_words : ℕ → ℕ → List ℕ
byte_words place byte =
    if byte == RETURN then codes " is a carriage return: a line ends by a line feed alone"
    else if byte == TAB then codes " is a tab: words stand apart by single spaces"
    else if place == 1 && byte == MARK
    then codes " begins a byte order mark: the input is plain ASCII"
    else other_words byte

-- the words for a flaw
abbrev pub flaw_words : Flaw → List ℕ
flaw_words Flaw.Empty = codes "the line is empty"
flaw_words (Flaw.Byte place byte) = codes "byte " ++ decimal place ++ byte_words place byte
flaw_words Flaw.SpaceBefore = codes "a space stands before the first word"
flaw_words Flaw.SpaceAfter = codes "a space stands after the last word"
flaw_words Flaw.TwoSpaces = codes "two spaces stand between two words"
