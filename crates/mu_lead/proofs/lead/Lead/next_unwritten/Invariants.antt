use Rattle.std.proofs.Common.{false, get_or, ℕ, ◌<◌, ◌≡◌, ◌≤◌}
use Rattle.std.specs.Prelude.{nat_lt}
use Rattle.mu_lead.proofs.lead.Lead.next_unwritten.Given as goal

abbrev pub invariant-loop-j : goal.invariant-loop-j
invariant-loop-j l = l.last < 65535 → (k : ℕ) → l.first ≤ k → k < l.j → nat_lt (get_or l.self.written.items k 12) 12 ≡ false
