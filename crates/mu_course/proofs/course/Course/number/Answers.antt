use Rattle.mu_course.proofs.course.Course.number.Goals as goal

pub returns : goal.returns
returns c = λ k r mine stands. c.number.ensures r mine stands.replica.leadership
