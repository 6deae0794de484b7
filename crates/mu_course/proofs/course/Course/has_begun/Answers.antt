use Rattle.mu_course.proofs.course.Course.has_begun.Goals as goal

pub returns : goal.returns
returns c = λ k r mine stands. c.has_begun.ensures r mine stands.replica.leadership
