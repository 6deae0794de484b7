-- reads, writes: what one read of a source and one write of a sink promise.
use Rattle.std.specs.Prelude.{ℕ, ◌≡◌, ◌<◌, ◌≤◌, List, Option, Result, length, take, IfOk, OnErr, OnOk}
use Rattle.std.specs.Io.KnownBytes.{Appends, Consumes, IsAtEnd, Keeps}
use Rattle.mu_io.specs.Faults.{Rose}
use Rattle.mu_io.specs.declared.streams.Failed.{Failed}

-- a read into `room`, which left `piece` there, took its front from the bytes that were left
pub record Reads (answer : Result ℕ Failed) (before after : Option (List ℕ))
    (room piece : List ℕ) (faults now : ℕ) : Type 0 where
  pub at_most : IfOk answer (λ k. k ≤ length piece)
  pub bytes : IfOk answer (λ k. Consumes before after (take k piece))
  pub end : IfOk answer (λ k. k ≡ 0 → 0 < length room → IsAtEnd before)
  pub same_faults : OnOk answer (now ≡ faults)
  pub failed : OnErr answer (Rose faults now)
  pub kept : OnErr answer (Keeps before after)
  pub never_falls : faults ≤ now

-- a write of the front of `piece` put it behind the bytes that were taken
pub record Writes (answer : Result ℕ Failed) (before after : Option (List ℕ))
    (piece : List ℕ) (faults now : ℕ) : Type 0 where
  pub at_most : IfOk answer (λ k. k ≤ length piece)
  pub some : IfOk answer (λ k. 0 < length piece → 0 < k)
  pub bytes : IfOk answer (λ k. Appends before after (take k piece))
  pub same_faults : OnOk answer (now ≡ faults)
  pub failed : OnErr answer (Rose faults now)
  pub kept : OnErr answer (Keeps before after)
  pub never_falls : faults ≤ now
