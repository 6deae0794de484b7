use Rattle.std.proofs.Common.{◌≡◌, ◌-◌, length, map, take}
use Rattle.mu_resp.specs.Readings.{bulks_at, onto}
use Rattle.mu_resp.proofs.reading.put_words.Given as goal

abbrev pub invariant-loop-k : goal.invariant-loop-k
invariant-loop-k l = record {
  room : length l.items ≡ 16;
  read : onto (map (λ word. word.now) (take l.k l.items)) (bulks_at (l.count - l.k) l.rest) ≡ bulks_at l.count l.fn.bytes;
}
