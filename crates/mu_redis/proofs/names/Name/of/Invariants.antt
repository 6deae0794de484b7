use Rattle.std.proofs.Common.{◌≡◌, map, take, length}
use Rattle.mu_redis.specs.Names.{small}
use Rattle.mu_redis.proofs.names.Name.of.Given as goal

abbrev pub invariant-loop-k : goal.invariant-loop-k
invariant-loop-k l = record {
  room : length l.bytes ≡ 16;
  small : take l.k l.bytes ≡ map small (take l.k l.word);
}
