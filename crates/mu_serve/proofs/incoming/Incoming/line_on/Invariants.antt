-- The bytes of the line so far, and of a whole line that was held; the bytes that are held and those that may still come grow fewer.
use Rattle.std.proofs.Common.{◌≡◌, ◌+◌, false, length}
use Rattle.mu_serve.specs.Incoming.{HasWholeLine}
use Rattle.mu_serve.proofs.LinesSoFar.{LineSoFar}
use Rattle.mu_serve.proofs.incoming.Incoming.line_on.Given as goal

abbrev pub invariant-bytes : goal.invariant-bytes
invariant-bytes g l = record {
  so_far : LineSoFar (g.S.Source.left l.initial.source) (g.S.Source.left l.source) l.initial.self l.self l.line;
  goes_on : l.self.is_over ≡ false;
  held : HasWholeLine l.initial.self.held → HasWholeLine l.self.held × (l.source ≡ l.initial.source);
  same_faults : g.S.Source.faults l.source ≡ g.S.Source.faults l.initial.source;
}

abbrev pub decreases-bytes : goal.decreases-bytes
decreases-bytes g l = l.self.room + length l.self.held
