-- What a line says decides what becomes of it.
use Rattle.std.proofs.Common.{◌≡◌, ◌≤◌, ℕ, List, inl, subst, sym}
use Rattle.kv_store.specs.declared.command.Op.{Op}
use Rattle.mu_eras.specs.declared.eras.Eras.{Eras}
use Rattle.mu_input.specs.Operations.{operation_of}
use Rattle.mu_input.specs.Readings.{Says, Wrong}
use Rattle.mu_library.specs.Engines.{Submits, SubmitsAs, SubmitsOp}
use Rattle.mu_outcome.specs.Statuses.{code_of}
use Rattle.mu_outcome.specs.declared.status.Status.{Status}
use Rattle.mu_text.specs.Lines.{words}

-- a line that says an operation has this submitted
pub submits_said : (client : ℕ) (line : List ℕ) (op : Op) (row : ℕ) (old new : Eras) (status : ℕ) → client ≤ 15 → operation_of (words line) ≡ Says op
    → SubmitsOp client op row old new status → Submits client line row old new status
submits_said client line op row old new status few says does = inl (few, subst (λ said. SubmitsAs client said row old new status) (sym says) does)

-- and another line nothing
pub refuses_wrong : (client : ℕ) (line : List ℕ) (cause row : ℕ) (old new : Eras) (status : ℕ) → client ≤ 15 → operation_of (words line) ≡ Wrong cause
    → status ≡ code_of Status.Refused → row ≡ 0 → new ≡ old → Submits client line row old new status
refuses_wrong client line cause row old new status few says refused none same = inl (few, subst (λ said. SubmitsAs client said row old new status) (sym says) (refused, none, same))
