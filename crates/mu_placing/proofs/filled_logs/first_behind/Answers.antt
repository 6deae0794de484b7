use Rattle.std.proofs.Common.{arith, ap, length}
use Rattle.mu_placing.proofs.Caught.{none_known_beyond}
use Rattle.mu_placing.proofs.filled_logs.first_behind.Goals as goal

pub returns : goal.returns
returns c c' r mine config possible values held =
    let same = ap length values in
    record {
      low = omega (arith, c.max.ensures);
      had = λ j above small. c.loop-at.invariant c' r mine config possible values held j above (omega (arith, c.max.ensures, above, small, c.loop-at-test.false));
      lacks = none_known_beyond c' r c.args.p c.max.result mine possible (omega (arith, c.max.ensures, same));
    }
