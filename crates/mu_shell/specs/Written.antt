-- wrote: a text was written whole, or a fault of the sink cut it, and the status tells which.
use Rattle.std.specs.Prelude.{ℕ, ◌≡◌, ◌<◌, ◌==◌, List, length, take, MatchBool}
use Rattle.std.specs.declared.option.Option.{Option}
use Rattle.std.specs.Io.KnownBytes.{Appends}
use Rattle.mu_io.specs.Faults.{Rose}
use Rattle.mu_outcome.specs.declared.status.Status.{Status}
use Rattle.mu_outcome.specs.Statuses.{code_of}

-- all of the text was written, and the sink counted no fault
pub record IsWhole (written now : Option (List ℕ)) (before after : ℕ) (text : List ℕ)
    (wanted : Status) (status taken : ℕ) : Type 0 where
  pub code : status ≡ code_of wanted
  pub all : taken ≡ length text
  pub bytes : Appends written now text
  pub faults : after ≡ before

-- the sink counted a fault, after this many bytes of the text
pub record IsCut (written now : Option (List ℕ)) (before after : ℕ) (text : List ℕ)
    (taken : ℕ) : Type 0 where
  pub short : taken < length text
  pub bytes : Appends written now (take taken text)
  pub faults : Rose before after

-- the text was written whole and the status is the wanted one, or that of a write fault and the
-- text was cut
abbrev pub Wrote : Option (List ℕ) → Option (List ℕ) → ℕ → ℕ → List ℕ → Status → ℕ → ℕ → Type 0
Wrote written now before after text wanted status taken =
    MatchBool (status == code_of Status.WriteFault)
    (IsCut written now before after text taken)
    (IsWhole written now before after text wanted status taken)
