use Rattle.std.proofs.Common.{length, map, take, vec_capacity, ◌≡◌}
use Rattle.mu_model.specs.Packing.{unpacked_of}
use Rattle.mu_model.proofs.journal.Journal.to_vec.Given as goal

abbrev pub invariant-loop-words : goal.invariant-loop-words
invariant-loop-words l = record {
  items : l.events.items ≡ map unpacked_of (take l.words-index l.words-items);
  room : vec_capacity l.events ≡ length l.words-items;
}
