use Rattle.std.proofs.Common.{◌≡◌, ℕ, ◌≤◌, ◌+◌, List}
use Rattle.mu_model.specs.declared.config.Config.{Config}
use Rattle.mu_model.specs.declared.event.Event.{Event}
use Rattle.mu_model.specs.Contents.{row_count}
use Rattle.mu_model.specs.Histories.{all_below}
use Rattle.mu_model.specs.Knowledge.{wrote}
use Rattle.mu_knowledge.specs.HeldRows.{StandsForHeldRows}
use Rattle.mu_knowledge.proofs.held_rows.HeldRows.wrote_rows.Given as goal

abbrev pub invariant-loop-t : goal.invariant-loop-t
invariant-loop-t l =
    (c : Config) (r : ℕ) (mine : List Event) → l.j + l.fn.n ≤ row_count c → row_count c ≤ 1500 → StandsForHeldRows c r mine l.self
    → l.all ≡ all_below l.t (λ t. all_below 12 (λ k. wrote r (l.j + t) k mine))
