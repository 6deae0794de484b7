use Rattle.std.proofs.Common.{ℕ, ◌<◌, ◌≡◌, ◌≤◌, Some, length}
use Rattle.std.specs.List.{slice_get}
use Rattle.kv_store.specs.Tables.{Table}
use Rattle.mu_model.specs.Contents.{rows_in}
use Rattle.mu_engine.specs.Laws.{order_after}
use Rattle.mu_eras.specs.Applied.{AreKept, KeepsReplies, TellsOrder}
use Rattle.mu_eras.specs.Holding.{AreTaken, HoldStores, handed_by}
use Rattle.mu_eras.specs.declared.applied.Applied.{Applied}
use Rattle.mu_eras.proofs.following.follow.Given as goal

abbrev pub invariant-loop-r : goal.invariant-loop-r
invariant-loop-r l = record {
  stores : length l.stores ≡ length l.fn.stores;
  places : length l.replies ≡ length l.fn.replies;
  keeps : KeepsReplies l.fn.replies l.replies;
  ahead : (s : ℕ) (a : Applied) → l.r ≤ s → slice_get l.stores s ≡ Some a → slice_get l.fn.stores s ≡ Some a;
  fresh : AreTaken l.engine l.fn.stores l.fn.replies → (s : ℕ) → s < l.r → AreKept (rows_in l.engine.job.config (handed_by l.engine s)) l.replies;
  holds : (base : Table) → HoldStores base l.engine l.fn.stores → HoldStores base l.engine l.stores;
  tells :
      (base : Table) → HoldStores base l.engine l.fn.stores → TellsOrder base l.engine.job.commands (order_after l.engine.job l.engine.events) l.fn.replies
      → TellsOrder base l.engine.job.commands (order_after l.engine.job l.engine.events) l.replies;
}
