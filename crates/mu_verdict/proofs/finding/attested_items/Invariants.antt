-- The items that were read are right, and this line is the next one.
use Rattle.std.proofs.Common.{◌≡◌, ◌≤◌, ℕ, List, length}
use Rattle.mu_verdict.proofs.AttestedItems.{HasAttested}
use Rattle.mu_verdict.specs.Traces.{HasFew, OpensItems}
use Rattle.mu_verdict.proofs.finding.attested_items.Given as goal

abbrev pub invariant-loop-attestor : goal.invariant-loop-attestor
invariant-loop-attestor l =
    (l.line ≡ l.lines.number) × (l.first ≤ l.line) × HasFew l.lines
    × ((bytes : List ℕ) → OpensItems bytes l.job l.fn.lines → HasAttested bytes l.job l.first l.lines l.attestor)

abbrev pub decreases-loop-attestor : goal.decreases-loop-attestor
decreases-loop-attestor l = length l.lines.lines
