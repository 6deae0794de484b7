-- printed: what became of lines that were handed to a printer over a sink.
use Rattle.std.specs.Prelude.{ℕ, ◌+◌, ◌*◌, ◌≡◌, ◌<◌, ◌≤◌, ◌^◌, Bool, true, false, List, ◌++◌, Result, Ok, Err, length, take}
use Rattle.std.specs.declared.option.Option.{Option}
use Rattle.std.specs.Io.KnownBytes.{Appends}
use Rattle.mu_io.specs.Faults.{Rose}
use Rattle.mu_io.specs.declared.whole.WriteFault.{WriteFault}
pub use Rattle.mu_text.specs.Lines.{ended}
use Rattle.mu_report.specs.declared.line.TheConstants.{LINE_BYTES}
use Rattle.mu_report.specs.declared.printer.SinkPrinter.{SinkPrinter}

-- a printer over a sink: the bytes that it holds, how many bytes it counted as written, and whether
-- a fault came to it
pub record Over (K : Type 0) : Type 0 where
  pub sink : K
  pub held : List ℕ
  pub taken : ℕ
  pub is_cut : Bool

abbrev pub over : {K : Type 0} → SinkPrinter K → Over K
over s = record { sink = s.sink.now; held = s.held; taken = s.taken; is_cut = s.is_cut }

-- of the bytes that were held and these, a front was written, and the rest is held
pub record WritesAll {K : Type 0} (written : K → Option (List ℕ)) (faults : K → ℕ)
    (before : Over K) (bytes : List ℕ) (after : Over K) : Type 0 where
  pub front : List ℕ
  pub parts : before.held ++ bytes ≡ front ++ after.held
  pub appended : Appends (written before.sink) (written after.sink) front
  pub same_faults : faults after.sink ≡ faults before.sink
  pub count :
      before.taken + length front < 2 ^ 64 → after.taken ≡ before.taken + length front

-- a fault came: of the bytes that were held and these, only the first `most` were written
pub record WritesPart {K : Type 0} (written : K → Option (List ℕ)) (faults : K → ℕ)
    (before : Over K) (bytes : List ℕ) (after : Over K) : Type 0 where
  pub most : ℕ
  pub appended :
      Appends (written before.sink) (written after.sink) (take most (before.held ++ bytes))
  pub short : most < length before.held + length bytes
  pub count : before.taken + most < 2 ^ 64 → after.taken ≡ before.taken + most
  pub fault : Rose (faults before.sink) (faults after.sink)
  pub never_falls : faults before.sink ≤ faults after.sink

-- nothing was written
pub record WritesNothing {K : Type 0} (before after : Over K) : Type 0 where
  pub same_sink : after.sink ≡ before.sink
  pub same_count : after.taken ≡ before.taken

-- what became of these bytes, by whether a fault had come before and has come now
abbrev pub WritesBy : {K : Type 0} → (K → Option (List ℕ)) → (K → ℕ) → Bool → Bool → Over K
    → List ℕ → Over K → Type 0
WritesBy written faults false false before bytes after =
    WritesAll written faults before bytes after
WritesBy written faults false true before bytes after =
    WritesPart written faults before bytes after
WritesBy written faults true false before bytes after = ⊥
WritesBy written faults true true before bytes after = WritesNothing before after

abbrev pub Writes : {K : Type 0} → (K → Option (List ℕ)) → (K → ℕ) → Over K → List ℕ → Over K
    → Type 0
Writes written faults before bytes after =
    WritesBy written faults before.is_cut after.is_cut before bytes after

-- these lines were printed, up to the first fault; as long as a piece has room, they are only held
pub record Printed {K : Type 0} (written : K → Option (List ℕ)) (faults : K → ℕ)
    (before : Over K) (lines : List (List ℕ)) (after : Over K) : Type 0 where
  pub bytes : Writes written faults before (ended lines) after
  pub bound : length (ended lines) ≤ LINE_BYTES * length lines
  pub only_held : length before.held + length (ended lines) ≤ 32768
      → after ≡ record before { held = before.held ++ ended lines }

-- what a printer answers at its end
abbrev pub taken_by : Bool → ℕ → Result ℕ WriteFault
taken_by false taken = Ok taken
taken_by true taken = Err (record { taken = taken })
