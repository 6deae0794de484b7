use Rattle.std.proofs.Common.{◌≡◌, ℕ, ◌<◌, ◌≤◌, ◌/◌, ◌%◌, ◌+◌, List}
use Rattle.mu_model.specs.declared.config.Config.{Config}
use Rattle.mu_model.specs.declared.event.Event.{Event}
use Rattle.mu_model.specs.Contents.{row_count}
use Rattle.mu_model.specs.Histories.{all_below}
use Rattle.mu_model.specs.Knowledge.{has_row}
use Rattle.mu_knowledge.specs.HeldRows.{HasWords}
use Rattle.mu_knowledge.proofs.held_rows.HeldRows.has_rows.Given as goal

abbrev pub invariant-loop-t : goal.invariant-loop-t
invariant-loop-t l =
    (c : Config) (r : ℕ) (mine : List Event) → l.v / 4096 < 7 → l.v % 4096 + l.fn.n ≤ row_count c → row_count c ≤ 1500 → HasWords c r mine l.self.got.items
    → l.all ≡ all_below l.t (λ t. has_row r (l.v + t) mine)
