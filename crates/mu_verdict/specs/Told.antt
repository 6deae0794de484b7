-- is told, tells of: what the events that the bytes of a trace spell come to, if they are legal;
-- else what is said of where they break, or of where the bytes leave the grammar.
use Rattle.std.specs.Prelude.{ℕ, ◌≡◌, List, Some, ⊤}
use Rattle.mu_input.specs.Readings.{Fits}
use Rattle.mu_input.specs.Traces.{Trace, trace}
use Rattle.mu_verdict.specs.Explained.{IsExplained, LeavesAt}
use Rattle.mu_model.specs.Legal.{IsLegal}
use Rattle.mu_outcome.specs.Outcomes.{Agrees}
use Rattle.mu_report.specs.declared.said.Said.{Said}
use Rattle.mu_telling.specs.Accounts.{IsAccount}
use Rattle.mu_outcome.specs.declared.account.Account.{Account}

-- the bytes spell a trace, its events are legal, and this is what they come to for its job; its
-- replicas agree
pub record IsTold (bytes : List ℕ) (account : Account) : Type 0 where
  pub spelled : Trace
  pub fits : trace bytes ≡ Fits spelled
  pub job : account.outcome.job ≡ spelled.job
  pub legal : IsLegal spelled.job.config spelled.events
  pub is : IsAccount spelled.events account
  pub agrees : Agrees account.outcome

-- what the events come to if they are legal, else what is said of where they break and why, or of
-- where the bytes leave the grammar; want of memory can come at any bytes, and nothing else is said
abbrev pub TellsOf : List ℕ → Said → Type 0
TellsOf bytes (Said.Told account) = IsTold bytes account
TellsOf bytes (Said.Explained events line (Some broken)) =
    IsExplained bytes events line (Some broken)
TellsOf bytes (Said.Misread misread) = LeavesAt bytes misread
TellsOf bytes Said.NoMemory = ⊤
TellsOf bytes _ = ⊥
