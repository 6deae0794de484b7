use Rattle.mu_course.proofs.course.Course.is_member.Goals as goal

pub returns : goal.returns
returns c = λ k r mine low stands. c.is_member.ensures r mine low stands.replica.leadership
