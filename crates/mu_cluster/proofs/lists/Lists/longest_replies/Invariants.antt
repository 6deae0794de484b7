-- The best so far, or the longest of those that are left, and what its replica replied.
use Rattle.std.proofs.Common.{◌≡◌, List, [], drop, ℕ}
use Rattle.kv_store.specs.declared.store.Reply.{Reply}
use Rattle.mu_cluster.specs.Lists.{AreOf}
use Rattle.mu_outcome.specs.Entries.{longest}
use Rattle.mu_outcome.proofs.LongestLogs.{longer}
use Rattle.mu_cluster.proofs.lists.Lists.longest_replies.Given as goal

abbrev pub invariant-loop-r : goal.invariant-loop-r
invariant-loop-r l = record {
  best : longer l.best (longest (drop l.r l.self.logs.items)) ≡ longest l.self.logs.items;
  told : (f : List ℕ → List Reply) → f [] ≡ [] → AreOf f l.self → l.replies ≡ f l.best;
}
