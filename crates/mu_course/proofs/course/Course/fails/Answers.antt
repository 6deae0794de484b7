use Rattle.std.proofs.Common.{ap, not}
use Rattle.mu_course.proofs.course.Course.fails.Goals as goal

pub returns : goal.returns
returns c = λ k r mine low stands. ap not (c.alive.ensures k.replicas r mine low stands.scores)
