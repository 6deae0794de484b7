use Rattle.std.proofs.Common.{◌≡◌, ◌<◌, ◌≤◌, Some, ℕ, length}
use Rattle.std.specs.List.{slice_get}
use Rattle.kv_store.specs.Tables.{Table}
use Rattle.mu_engine.specs.Live.{Live}
use Rattle.mu_eras.specs.Holding.{HoldStores}
use Rattle.mu_eras.specs.declared.applied.Applied.{Applied}
use Rattle.mu_eras.proofs.ending.make_room.Given as goal

abbrev pub invariant-loop-k : goal.invariant-loop-k
invariant-loop-k l = record {
  stores : length l.stores ≡ length l.fn.stores;
  done : (s : ℕ) (a : Applied) → s < l.k → slice_get l.stores s ≡ Some a → l.room ≤ a.store.room;
  holds : (base : Table) (live : Live) → HoldStores base live l.fn.stores → HoldStores base live l.stores;
}
