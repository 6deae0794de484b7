use Rattle.std.proofs.Common.{◌≡◌, ◌-◌, ◌<◌, ◌≤◌, Some, ℕ, length}
use Rattle.std.specs.List.{slice_get}
use Rattle.kv_store.specs.Tables.{Table}
use Rattle.mu_eras.specs.Holding.{HaveRoomFor, HoldStores, HoldsApplied, HoldsEnded}
use Rattle.mu_eras.specs.declared.applied.Applied.{Applied}
use Rattle.mu_eras.proofs.ending.hand_over.Given as goal

abbrev pub invariant-loop-r : goal.invariant-loop-r
invariant-loop-r l = record {
  stores : length l.stores ≡ length l.fn.stores;
  places : length l.replies ≡ length l.fn.replies;
  ahead : (base : Table) → HoldStores base l.engine l.fn.stores → (s : ℕ) (a : Applied) → l.r ≤ s → slice_get l.stores s ≡ Some a → HoldsApplied base l.engine s a;
  done : (base : Table) → HoldStores base l.engine l.fn.stores → (s : ℕ) (a : Applied) → s < l.r → slice_get l.stores s ≡ Some a → HoldsEnded base l.engine a;
  fresh : (least : ℕ) → HaveRoomFor least l.fn.stores → (s : ℕ) (a : Applied) → l.r ≤ s → slice_get l.stores s ≡ Some a → least ≤ a.store.room;
  left : (least : ℕ) → HaveRoomFor least l.fn.stores → (s : ℕ) (a : Applied) → slice_get l.stores s ≡ Some a → least - length l.engine.job.commands ≤ a.store.room;
}
