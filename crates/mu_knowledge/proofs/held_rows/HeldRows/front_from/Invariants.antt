use Rattle.std.proofs.Common.{ℕ, ◌-◌, ◌≤◌, length, List}
use Rattle.mu_model.specs.declared.event.Event.{Event}
use Rattle.mu_model.specs.Contents.{IsConfig}
use Rattle.mu_model.specs.Knowledge.{fetched_prefix}
use Rattle.mu_knowledge.specs.HeldRows.{HasWords}
use Rattle.mu_knowledge.proofs.held_rows.HeldRows.front_from.Given as goal

abbrev pub invariant-loop-count : goal.invariant-loop-count
invariant-loop-count l =
    (r : ℕ) (mine : List Event) → IsConfig l.config → HasWords l.config r mine l.self.got.items → l.fn.n ≤ length (fetched_prefix l.config r mine l.known) → l.count ≤ length (fetched_prefix l.config r mine l.known)

abbrev pub decreases-loop-count : goal.decreases-loop-count
decreases-loop-count l = length l.known - l.count
