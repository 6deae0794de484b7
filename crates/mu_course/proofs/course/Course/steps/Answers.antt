use Rattle.mu_course.proofs.course.Course.steps.Goals as goal

pub returns : goal.returns
returns c = λ k r mine stands. stands.replica.steps
