use Rattle.std.proofs.Common.{append_assoc, refl}
use Rattle.mu_mistakes.proofs.expected.push_operations.Goals as goal

pub returns-clause-bytes : goal.returns-clause-bytes
returns-clause-bytes c = rw c.push.ensures.bytes (rw c.push_kinds.ensures.bytes (simp append_assoc refl))
