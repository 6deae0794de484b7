use Rattle.std.proofs.Common.{false, get_or, length, ℕ, ◌+◌, ◌<◌, ◌||◌, ◌≡◌, ◌≤◌}
use Rattle.std.specs.Prelude.{nat_lt, not}
use Rattle.mu_model.specs.Contents.{marked}
use Rattle.mu_model.specs.Room.{reserve}
use Rattle.mu_knowledge.specs.KnownLog.{HoldsValues}
use Rattle.mu_lead.proofs.lead.Lead.next_low.Given as goal

abbrev pub invariant-loop-p : goal.invariant-loop-p
invariant-loop-p l = HoldsValues l.self.config l.known l.log → l.self.config.replicas ≤ 7 → length l.known < 65536 → length l.self.heads ≡ 7 → (k : ℕ) → l.from ≤ k → k < l.p → not (marked l.self.config k l.known || nat_lt (length l.known + reserve l.self.config) (get_or l.self.heads k 0 + l.self.config.ring)) ≡ false
