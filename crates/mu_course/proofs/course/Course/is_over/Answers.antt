use Rattle.mu_course.proofs.course.Course.is_over.Goals as goal

pub returns : goal.returns
returns c = λ k r mine stands. c.is_over.ensures r mine stands.replica.leadership
