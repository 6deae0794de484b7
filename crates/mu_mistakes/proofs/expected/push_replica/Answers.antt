use Rattle.std.proofs.Common.{append_assoc, refl}
use Rattle.mu_mistakes.proofs.expected.push_replica.Goals as goal

pub returns-clause-bytes : goal.returns-clause-bytes
returns-clause-bytes c = rw c.push-2.ensures.bytes (rw c.push_below.ensures.bytes (rw c.push.ensures.bytes (simp append_assoc refl)))
