use Rattle.std.proofs.Common.{append_assoc, refl}
use Rattle.mu_mistakes.proofs.expected.push_line_of.Goals as goal

pub returns-clause-bytes : goal.returns-clause-bytes
returns-clause-bytes c = rw c.push-4.ensures.bytes (rw c.push-3.ensures.bytes (rw c.push-2.ensures.bytes (rw c.push.ensures.bytes (simp append_assoc refl))))
