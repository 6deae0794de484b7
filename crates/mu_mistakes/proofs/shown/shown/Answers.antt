use Rattle.std.proofs.Common.{append_assoc, refl}
use Rattle.mu_mistakes.proofs.shown.shown.Goals as goal

pub returns-clause-bytes : goal.returns-clause-bytes
returns-clause-bytes c = rw c.push-3.ensures.bytes (rw c.more_mark.ensures.is (rw c.push-2.ensures.bytes (rw c.push_bytes.ensures.bytes (rw c.first_bytes.ensures.first (rw c.push.ensures.bytes (rw c.new-line.ensures (simp append_assoc refl)))))))
