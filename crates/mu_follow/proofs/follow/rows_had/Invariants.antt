use Rattle.std.proofs.Common.{List, true, ℕ, ◌%◌, ◌+◌, ◌-◌, ◌/◌, ◌<◌, ◌≡◌, ◌≤◌}
use Rattle.mu_model.specs.declared.config.Config.{Config}
use Rattle.mu_model.specs.declared.event.Event.{Event}
use Rattle.mu_model.specs.Contents.{row_count}
use Rattle.mu_model.specs.Knowledge.{has_row}
use Rattle.mu_knowledge.specs.HeldRows.{StandsForHeldRows}
use Rattle.mu_follow.proofs.follow.rows_had.Given as goal

abbrev pub invariant-loop-had : goal.invariant-loop-had
invariant-loop-had l = record {
  within : l.had ≤ l.fn.n;
  there : (c : Config) (r : ℕ) (mine : List Event) → l.v / 4096 < 7 → l.v % 4096 + l.fn.n ≤ row_count c → row_count c ≤ 1500
      → StandsForHeldRows c r mine l.fetching → (t : ℕ) → t < l.had → has_row r (l.v + t) mine ≡ true;
}

abbrev pub decreases-loop-had : goal.decreases-loop-had
decreases-loop-had l = l.fn.n - l.had
