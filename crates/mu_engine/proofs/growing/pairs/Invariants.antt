use Rattle.std.proofs.Common.{◌≡◌, length}
use Rattle.std.specs.Prelude.{vec_capacity}
use Rattle.mu_engine.specs.Growing.{ArePairs}
use Rattle.mu_engine.proofs.growing.pairs.Given as goal

abbrev pub invariant-loop : goal.invariant-loop
invariant-loop l = record {
  room : vec_capacity l.pairs ≡ l.nodes;
  count : length l.pairs.items ≡ l.counter;
  pairs : ArePairs l.config l.pairs.items;
}
