use Rattle.std.proofs.Common.{rules}
use Rattle.mu_io.proofs.Moved.{Appends-taken}
use Rattle.mu_io.proofs.whole.write_all.Goals as goal

pub loop-taken-preserved : goal.loop-taken-preserved
loop-taken-preserved g c = record {
  within = search rules;
  appended = Appends-taken _ _ _ _ _ _ c.loop-taken.invariant.appended c.in-Ok.ensures.bytes;
  same_faults = search rules;
}
