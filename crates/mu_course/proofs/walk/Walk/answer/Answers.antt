use Rattle.mu_course.proofs.walk.Walk.answer.Goals as goal

pub returns : goal.returns
returns c = λ past s range held. c.answer.ensures s past range held.regions
