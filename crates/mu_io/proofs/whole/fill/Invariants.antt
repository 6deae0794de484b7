-- The buffer holds the bytes that were taken, and no read failed so far.
use Rattle.std.proofs.Common.{length, ◌-◌, ◌≡◌, ◌≤◌, vec_capacity}
use Rattle.std.specs.Io.KnownBytes.{Consumes}
use Rattle.mu_io.proofs.whole.fill.Given as goal

abbrev pub invariant-loop-source : goal.invariant-loop-source
invariant-loop-source g l = record {
  within : length l.buffer.items ≤ l.size;
  room : l.size ≤ vec_capacity l.buffer;
  taken : Consumes (g.S.Source.left l.initial.source) (g.S.Source.left l.source) l.buffer.items;
  same_faults : g.S.Source.faults l.source ≡ g.S.Source.faults l.initial.source;
}

abbrev pub decreases-loop-source : goal.decreases-loop-source
decreases-loop-source g l = l.size - length l.buffer.items
