use Rattle.std.proofs.Common.{List, ℕ, ◌<◌, ◌≤◌}
use Rattle.mu_model.specs.Contents.{IsConfig, client_of}
use Rattle.mu_knowledge.specs.KnownLog.{HoldsValues}
use Rattle.mu_knowledge.specs.Offers.{IsNextRow}
use Rattle.mu_lead.proofs.batches.next_of.Given as goal

abbrev pub invariant-loop-client : goal.invariant-loop-client
invariant-loop-client l =
    (values : List ℕ) → IsConfig l.config → l.to ≤ 256 → HoldsValues l.config values l.log → (j : ℕ) → l.from ≤ client_of l.config j
    → client_of l.config j < l.client → IsNextRow l.config values j → ⊥
