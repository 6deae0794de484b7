use Rattle.mu_course.proofs.course.Course.known.Goals as goal

pub returns : goal.returns
returns c = λ k r mine stands. c.known.ensures k r mine stands.replica.known_log
