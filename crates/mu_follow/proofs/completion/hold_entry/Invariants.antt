use Rattle.std.proofs.Common.{Bool, ℕ}
use Rattle.std.specs.Prelude.{◌||◌}
use Rattle.mu_model.specs.Contents.{IsConfig, includes, rows_from}
use Rattle.mu_follow.specs.Completion.{MarksRows}
use Rattle.mu_follow.proofs.completion.hold_entry.Given as goal

abbrev pub invariant-loop-t : goal.invariant-loop-t
invariant-loop-t l =
    (had : ℕ → Bool) → IsConfig l.config → MarksRows l.config had l.fn.held → MarksRows l.config (λ j. had j || includes j (rows_from l.t l.row)) l.held
