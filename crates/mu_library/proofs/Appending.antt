-- What is asked next of a replica that is halted; and what a line says decides what becomes of it.
use Rattle.std.proofs.Common.{◌≡◌, ◌≤◌, ℕ, List, None, Some, inl, refl, subst, sym}
use Rattle.std.specs.declared.option.Option.{Option}
use Rattle.mu_model.specs.declared.script.End.{End}
use Rattle.kv_store.specs.declared.command.Op.{Op}
use Rattle.mu_input.specs.Operations.{operation_of}
use Rattle.mu_input.specs.Readings.{Says, Wrong}
use Rattle.mu_model.specs.declared.config.Config.{Config}
use Rattle.mu_outcome.specs.Statuses.{code_of}
use Rattle.mu_outcome.specs.declared.status.Status.{Status}
use Rattle.mu_text.specs.Lines.{words}
use Rattle.lone_words.specs.Memory.{Own}
use Rattle.lone_replica.specs.declared.due.Due.{Due}
use Rattle.lone_replica.specs.declared.replica.Replica.{Replica}
use Rattle.mu_library.specs.Replicas.{Appends, AppendsAs, AppendsOp}
use Rattle.lone_replica.specs.declared.replica.Next.{Next}
use Rattle.lone_replica.specs.Standing.{IsNext}

pub halted_due : (o : Option Due) (next : Next) (end : End) → IsNext o next → next ≡ Next.Halted end → o ≡ None
halted_due None next end is same = refl
halted_due (Some due) next end is same = absurd (subst (λ (n : Next). IsNext (Some due) n) same is)

-- a line that says an operation has this appended
pub appends_said : (c : Config) (own : Own) (client : ℕ) (line : List ℕ) (op : Op) (row : ℕ) (old new : Replica) (status : ℕ) → client ≤ 15 → operation_of (words line) ≡ Says op
    → AppendsOp c own client op row old new status → Appends c own client line row old new status
appends_said c own client line op row old new status few says does = inl (few, subst (λ said. AppendsAs c own client said row old new status) (sym says) does)

-- and another line nothing
pub appends_wrong : (c : Config) (own : Own) (client : ℕ) (line : List ℕ) (cause row : ℕ) (old new : Replica) (status : ℕ) → client ≤ 15 → operation_of (words line) ≡ Wrong cause
    → status ≡ code_of Status.Refused → row ≡ 0 → new ≡ old → Appends c own client line row old new status
appends_wrong c own client line cause row old new status few says refused none same = inl (few, subst (λ said. AppendsAs c own client said row old new status) (sym says) (refused, none, same))
