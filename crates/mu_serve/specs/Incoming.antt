-- takes a line, stops reading: how the next line of a source is taken, and why none can be.
use Rattle.std.specs.Prelude.{ℕ, ◌≡◌, ◌+◌, ◌<◌, Bool, true, false, List, [], ◌∷◌, ◌++◌, length, take, ⊤, IfSome, MatchOption}
use Rattle.std.specs.declared.option.Option.{Option}
use Rattle.std.specs.Io.KnownBytes.{Consumes, IsAtEnd}
use Rattle.mu_io.specs.Faults.{Rose}
use Rattle.mu_io.specs.declared.whole.ReadEnd.{ReadEnd}
use Rattle.mu_text.specs.Lines.{lines}
use Rattle.mu_text.specs.declared.TheConstants.{LINE_FEED}
use Rattle.mu_text.specs.declared.line_text.TheConstants.{LINE_BYTES}
use Rattle.mu_serve.specs.declared.incoming.Incoming.{Incoming}

-- these are all bytes that the source had, if it tells them
abbrev pub GaveAll : Option (List ℕ) → List ℕ → Type 0
GaveAll left taken = IfSome left (λ bytes. taken ≡ bytes)

-- these bytes were read of the source, all within the room for them
pub record ReadsOn (left now : Option (List ℕ)) (before after : Incoming)
    (taken : List ℕ) : Type 0 where
  pub consumed : Consumes left now taken
  pub room : after.room + length taken ≡ before.room
  pub some : 0 < after.room

-- a line with its end is among these bytes
pub record HasWholeLine (bytes : List ℕ) : Type 0 where
  pub front : List ℕ
  pub back : List ℕ
  pub is : bytes ≡ front ++ LINE_FEED ∷ back

-- the next byte was taken, if there is one; there is none exactly at the end
pub record TakesByte (left now : Option (List ℕ)) (before after : Incoming)
    (found : Option ℕ) : Type 0 where
  pub taken : List ℕ
  pub reads : ReadsOn left now before after taken
  pub byte :
      MatchOption found ((before.held ++ taken ≡ []) × (after.held ≡ []) × IsAtEnd left)
      (λ byte. before.held ++ taken ≡ byte ∷ after.held)

-- what may come behind the bytes that were read: nothing once the last line was taken, if it lacked
-- its end
abbrev pub MayFollow : Bool → List ℕ → Type 0
MayFollow false more = ⊤
MayFollow true more = more ≡ []

-- the next line was taken, of which this text is the front; the last line may lack its end
pub record TakesLine (left now : Option (List ℕ)) (before after : Incoming)
    (text : List ℕ) : Type 0 where
  pub going : before.is_over ≡ false
  pub line : List ℕ
  pub front : text ≡ take LINE_BYTES line
  pub taken : List ℕ
  pub reads : ReadsOn left now before after taken
  pub cut :
      (more : List ℕ) → MayFollow after.is_over more
      → lines (before.held ++ (taken ++ more)) ≡ line ∷ lines (after.held ++ more)
  pub last : after.is_over ≡ true → (after.held ≡ []) × GaveAll left taken
  pub fewer : after.room + length after.held < before.room + length before.held

-- no line is left
pub record FindsNone (left now : Option (List ℕ)) (before : Incoming) : Type 0 where
  pub none : before.held ≡ []
  pub same : Consumes left now []
  pub at_end : IsAtEnd left

-- why reading stopped once these bytes were read: a fault came within the room for them, or they
-- fill it
abbrev pub IsStop : ReadEnd → ℕ → ℕ → ℕ → ℕ → Type 0
IsStop ReadEnd.Fault room count faults faults_now = (count < room) × Rose faults faults_now
IsStop ReadEnd.TooLong room count faults faults_now = (count ≡ room) × (faults_now ≡ faults)
IsStop ReadEnd.NoMemory room count faults faults_now = ⊥

-- reading stopped before the end of a line
pub record StopsReading (left now : Option (List ℕ)) (faults faults_now : ℕ) (before : Incoming)
    (end : ReadEnd) : Type 0 where
  pub going : before.is_over ≡ false
  pub taken : List ℕ
  pub consumed : Consumes left now taken
  pub why : IsStop end before.room (length taken) faults faults_now
