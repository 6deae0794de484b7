use Rattle.std.proofs.Common.{◌∙◌, ap, map}
use Rattle.mu_knowledge.specs.Commits.{pair_of}
use Rattle.mu_course.proofs.course.Course.commits.Goals as goal

pub returns : goal.returns
returns c = λ k r mine stands. ap (map pair_of) c.as_slice.ensures.value ∙ stands.commits.are
