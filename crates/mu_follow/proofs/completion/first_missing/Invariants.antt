use Rattle.std.proofs.Common.{Bool, true, ℕ, ◌<◌, ◌≡◌, length}
use Rattle.mu_model.specs.declared.config.Config.{Config}
use Rattle.mu_model.specs.Contents.{row_count}
use Rattle.mu_follow.specs.Completion.{MarksRows}
use Rattle.mu_follow.proofs.completion.first_missing.Given as goal

abbrev pub invariant-loop-at : goal.invariant-loop-at
invariant-loop-at l =
    (c : Config) (is_there : ℕ → Bool) → length l.held ≡ row_count c → MarksRows c is_there l.held → ((j : ℕ) → j < l.from → is_there j ≡ true)
    → (j : ℕ) → j < l.at → is_there j ≡ true
