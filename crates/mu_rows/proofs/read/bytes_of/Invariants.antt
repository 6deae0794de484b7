use Rattle.std.proofs.Common.{◌≡◌, ℕ, ◌*◌, ◌<◌, ◌≤◌, ◌/◌, ◌%◌, length, get_or}
use Rattle.std.specs.Int.{w64, to_le_bytes}
use Rattle.mu_rows.proofs.read.bytes_of.Given as goal

abbrev pub invariant-loop-index : goal.invariant-loop-index
invariant-loop-index l = record {
  long : length l.bytes ≡ 64;
  done : (k : ℕ) → k < 8 * l.index → get_or l.bytes k 0 ≡ get_or (to_le_bytes w64 (get_or l.words (k / 8) 0)) (k % 8) 0;
  rest : (k : ℕ) → 8 * l.index ≤ k → get_or l.bytes k 0 ≡ 0;
}
