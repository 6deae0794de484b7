-- misread: the refused line, its flaw and what is expected, as lines.
use Rattle.std.specs.Prelude.{ℕ, ◌-◌, ◌≡◌, ◌≤◌, List, [], ◌∷◌, ◌++◌, codes, length, None, Some, IfSome}
use Rattle.std.specs.declared.option.Option.{Option}
use Rattle.std.specs.Fmt.{decimal}
use Rattle.std.specs.List.{slice_get}
use Rattle.std.specs.Option.{option_map}
use Rattle.mu_text.specs.Lines.{lines}
use Rattle.mu_mistakes.specs.Expected.{expected_words}
use Rattle.mu_mistakes.specs.Flaws.{flaw_of, flaw_words}
use Rattle.mu_mistakes.specs.Shown.{shown}
use Rattle.mu_mistakes.specs.declared.misread.Misread.{Misread}

-- the line between quotes, or that there is none
abbrev pub shown_words : Option (List ℕ) → List ℕ
shown_words (Some line) = shown line
shown_words None = codes "the input ends before this line"

-- what the bytes of the line show that no line has, if they show anything
abbrev pub told_flaw : Option (List ℕ) → Option (List ℕ)
told_flaw (Some line) = option_map flaw_words (flaw_of line)
told_flaw None = None

-- the line of this number among the bytes, counted from 1
abbrev pub line_of : List ℕ → ℕ → Option (List ℕ)
line_of bytes number = slice_get (lines bytes) (number - 1)

-- each of its lines has room in a line that is printed
pub record HasShortLines (misread : Misread) : Type 0 where
  pub shown : length misread.shown ≤ 190
  pub flaw : IfSome misread.flaw (λ flaw. length flaw ≤ 190)
  pub expected : length misread.expected ≤ 190

-- it tells of its line as the bytes have it: the line between quotes, what its bytes show, and what
-- is expected in its place for its cause
pub record IsMisread (bytes : List ℕ) (misread : Misread) : Type 0 where
  pub shown : misread.shown ≡ shown_words (line_of bytes misread.line)
  pub flaw : misread.flaw ≡ told_flaw (line_of bytes misread.line)
  pub expected :
      misread.expected
      ≡ expected_words bytes misread.line (line_of bytes misread.line) misread.cause
  pub short : HasShortLines misread

-- the line of every refusal
abbrev pub refusal_words : ℕ → ℕ → List ℕ
refusal_words line cause = codes "refused line " ++ decimal line ++ codes " cause " ++ decimal cause

-- a line for a flaw, if there is one, and these lines
abbrev pub flaw_lines : Option (List ℕ) → List (List ℕ) → List (List ℕ)
flaw_lines None lines = lines
flaw_lines (Some flaw) lines = flaw ∷ lines

-- what is said of it, as lines
abbrev pub misread_lines : Misread → List (List ℕ)
misread_lines misread =
    refusal_words misread.line misread.cause ∷ misread.shown
    ∷ flaw_lines misread.flaw (misread.expected ∷ [])
