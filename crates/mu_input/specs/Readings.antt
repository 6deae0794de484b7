-- reading: what bytes spell, or the first line that leaves the grammar, with its cause; the same of
-- the first lines, and of one line.
use Rattle.std.specs.Prelude.{ℕ, ◌≡◌, ◌≢◌, List, [], ◌∷◌, ⊤}
use Rattle.std.specs.declared.result.Result.{Result}
use Rattle.std.specs.declared.result.Result.TheVariants.{Ok, Err}
use Rattle.mu_text.specs.Lines.{Left}
use Rattle.mu_input.specs.declared.cause.TheConstants.{AFTER_END}
use Rattle.mu_input.specs.declared.job.InputEnd.{InputEnd}
use Rattle.mu_input.specs.declared.job.InputEnd.TheVariants.{Refused, NoMemory}

-- all bytes spell this, or this line is the first that leaves the grammar, with this cause
pub data Reading (A : Type 0) : Type 0 where
  Fits : A → Reading A
  Leaves : ℕ → ℕ → Reading A

-- what lines begin with, and the lines after it; or the line that leaves the grammar, and the cause
pub data Front (A : Type 0) : Type 0 where
  Begins : A → Left → Front A
  Breaks : ℕ → ℕ → Front A

-- what one line says, or the cause why it leaves the grammar
pub data Line (A : Type 0) : Type 0 where
  Says : A → Line A
  Wrong : ℕ → Line A

-- something at the front of the lines, and something else after it
abbrev pub followed : {A : Type 0} {B : Type 0} → Front A → (A → Left → Front B) → Front B
followed (Begins a left) next = next a left
followed (Breaks line cause) next = Breaks line cause

-- nothing may come after it
abbrev pub whole_from : {A : Type 0} → A → ℕ → List (List ℕ) → Reading A
whole_from a number [] = Fits a
whole_from a number (line ∷ lines) = Leaves number AFTER_END

-- it is all that the lines hold
abbrev pub whole : {A : Type 0} → Front A → Reading A
whole (Begins a left) = whole_from a left.number left.lines
whole (Breaks line cause) = Leaves line cause

-- a result says whether no line is left, and else which line is the first
abbrev pub EndsHere : Result (Unit {0}) InputEnd → Left → Type 0
EndsHere (Ok u) left = left.lines ≡ []
EndsHere (Err (Refused line cause)) left =
    (left.lines ≢ []) × (line ≡ left.number) × (cause ≡ AFTER_END)
EndsHere (Err NoMemory) left = ⊥

-- a result says what the reading is; want of memory can come at any bytes
abbrev pub Reads : {A : Type 0} → Result A InputEnd → Reading A → Type 0
Reads (Ok a) reading = reading ≡ Fits a
Reads (Err (Refused line cause)) reading = reading ≡ Leaves line cause
Reads (Err NoMemory) reading = ⊤

-- the same of the front of the lines, and these lines are left
abbrev pub ReadsFront : {A : Type 0} → Result A InputEnd → Front A → Left → Type 0
ReadsFront (Ok a) front left = front ≡ Begins a left
ReadsFront (Err (Refused line cause)) front left = front ≡ Breaks line cause
ReadsFront (Err NoMemory) front left = ⊤

-- the same of a result that is seen as something else
abbrev pub ReadsFrontAs :
    {A : Type 0} {B : Type 0} → (A → B) → Result A InputEnd → Front B → Left → Type 0
ReadsFrontAs seen (Ok a) front left = front ≡ Begins (seen a) left
ReadsFrontAs seen (Err (Refused line cause)) front left = front ≡ Breaks line cause
ReadsFrontAs seen (Err NoMemory) front left = ⊤

-- a result says what the line says
abbrev pub Tells : {A : Type 0} → Result A ℕ → Line A → Type 0
Tells (Ok a) line = line ≡ Says a
Tells (Err cause) line = line ≡ Wrong cause
