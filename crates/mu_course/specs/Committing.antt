-- commit by: what an event commits, as a commit.
use Rattle.std.specs.Prelude.{None, Some, ℕ}
use Rattle.std.specs.declared.option.Option.{Option}
use Rattle.mu_model.specs.declared.event.Verb.{Verb}
use Rattle.mu_knowledge.specs.declared.commit.Commit.{Commit}

-- a put that teaches a value commits it
abbrev pub commit_by : Verb → Option ℕ → Option Commit
commit_by (Verb.PutSlot p i b v) (Some w) = Some (record { position = i; value = w })
commit_by _ _ = None
