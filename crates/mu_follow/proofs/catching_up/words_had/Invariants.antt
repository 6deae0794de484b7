use Rattle.std.proofs.Common.{List, true, ℕ, ◌%◌, ◌-◌, ◌/◌, ◌<◌, ◌≡◌, ◌≤◌}
use Rattle.mu_model.specs.declared.config.Config.{Config}
use Rattle.mu_model.specs.declared.event.Event.{Event}
use Rattle.mu_model.specs.Contents.{row_count}
use Rattle.mu_model.specs.Knowledge.{has_word}
use Rattle.mu_knowledge.specs.HeldRows.{StandsForHeldRows}
use Rattle.mu_follow.proofs.catching_up.words_had.Given as goal

abbrev pub invariant-loop-had : goal.invariant-loop-had
invariant-loop-had l = record {
  within : l.had ≤ 12;
  there : (c : Config) (r : ℕ) (mine : List Event) → l.v / 4096 < 7 → l.v % 4096 < row_count c → StandsForHeldRows c r mine l.rows
      → (k : ℕ) → k < l.had → has_word r l.v k mine ≡ true;
}

abbrev pub decreases-loop-had : goal.decreases-loop-had
decreases-loop-had l = 12 - l.had
