use Rattle.std.proofs.Common.{◌≡◌, ℕ, ◌<◌, List}
use Rattle.mu_model.specs.declared.config.Config.{Config}
use Rattle.mu_model.specs.declared.event.Event.{Event}
use Rattle.mu_model.specs.Contents.{row_count}
use Rattle.mu_model.specs.Histories.{all_below}
use Rattle.mu_model.specs.Knowledge.{wrote}
use Rattle.mu_knowledge.specs.HeldRows.{StandsForHeldRows}
use Rattle.mu_knowledge.proofs.held_rows.HeldRows.wrote_row.Given as goal

abbrev pub invariant-loop-k : goal.invariant-loop-k
invariant-loop-k l = (c : Config) (r : ℕ) (mine : List Event) → l.j < row_count c → StandsForHeldRows c r mine l.self → l.all ≡ all_below l.k (λ k. wrote r l.j k mine)
