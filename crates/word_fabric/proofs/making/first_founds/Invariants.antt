use Rattle.std.proofs.Common.{◌≡◌, [], length, vec_capacity}
use Rattle.word_fabric.specs.Kept.{HoldsFounds}
use Rattle.word_fabric.proofs.making.first_founds.Given as goal

abbrev pub invariant-loop : goal.invariant-loop
invariant-loop l = record { count : length l.founds.items ≡ l.counter; room : vec_capacity l.founds ≡ l.config.replicas; each : HoldsFounds l.config [] l.founds.items }
