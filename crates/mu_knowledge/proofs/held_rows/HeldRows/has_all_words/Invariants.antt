use Rattle.std.proofs.Common.{◌≡◌, ℕ, ◌<◌, ◌/◌, ◌%◌, List}
use Rattle.mu_model.specs.declared.config.Config.{Config}
use Rattle.mu_model.specs.declared.event.Event.{Event}
use Rattle.mu_model.specs.Contents.{row_count}
use Rattle.mu_model.specs.Histories.{all_below}
use Rattle.mu_model.specs.Knowledge.{has_word}
use Rattle.mu_knowledge.specs.HeldRows.{HasWords}
use Rattle.mu_knowledge.proofs.held_rows.HeldRows.has_all_words.Given as goal

abbrev pub invariant-loop-k : goal.invariant-loop-k
invariant-loop-k l =
    (c : Config) (r : ℕ) (mine : List Event) → l.v / 4096 < 7 → l.v % 4096 < row_count c → HasWords c r mine l.self.got.items → l.all ≡ all_below l.k (λ k. has_word r l.v k mine)
