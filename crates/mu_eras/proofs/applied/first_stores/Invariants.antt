use Rattle.std.proofs.Common.{◌≡◌, length}
use Rattle.std.specs.Prelude.{vec_capacity}
use Rattle.mu_eras.specs.Applied.{AreFirst}
use Rattle.mu_eras.proofs.applied.first_stores.Given as goal

abbrev pub invariant-loop : goal.invariant-loop
invariant-loop l = record {
  room : vec_capacity l.stores ≡ l.replicas;
  count : length l.stores.items ≡ l.counter;
  each : AreFirst l.room l.stores.items;
}
