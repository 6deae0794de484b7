-- ends of a read: the ways in which a read of a whole input ends.
use Rattle.std.specs.Prelude.{ℕ, ◌≤◌, List, length, ⊤, Option, Result, Ok, Err}
use Rattle.std.specs.Io.KnownBytes.{Consumes}
use Rattle.mu_io.specs.declared.whole.ReadEnd.{ReadEnd}
use Rattle.mu_io.specs.declared.whole.ReadEnd.TheVariants.{Fault, TooLong, NoMemory}

-- P holds if the source failed
abbrev pub OnFault : {A : Type 0} → Result A ReadEnd → Type 0 → Type 0
OnFault (Ok a) P = ⊤
OnFault (Err Fault) P = P
OnFault (Err TooLong) P = ⊤
OnFault (Err NoMemory) P = ⊤

-- P holds if the input was longer than the limit
abbrev pub OnTooLong : {A : Type 0} → Result A ReadEnd → Type 0 → Type 0
OnTooLong (Ok a) P = ⊤
OnTooLong (Err Fault) P = ⊤
OnTooLong (Err TooLong) P = P
OnTooLong (Err NoMemory) P = ⊤

-- P holds if there was no memory
abbrev pub OnNoMemory : {A : Type 0} → Result A ReadEnd → Type 0 → Type 0
OnNoMemory (Ok a) P = ⊤
OnNoMemory (Err Fault) P = ⊤
OnNoMemory (Err TooLong) P = ⊤
OnNoMemory (Err NoMemory) P = P

-- some bytes of the front were taken, at most n
abbrev pub TakesAtMost : Option (List ℕ) → Option (List ℕ) → ℕ → Type 0
TakesAtMost before after n = (taken : List ℕ) × Consumes before after taken × (length taken ≤ n)
