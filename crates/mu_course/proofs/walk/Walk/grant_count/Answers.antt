use Rattle.std.proofs.Common.{◌∙◌, ap}
use Rattle.mu_course.specs.Walks.{grants_shown}
use Rattle.mu_course.proofs.walk.Walk.grant_count.Goals as goal

pub returns : goal.returns
returns c = λ past s low held. c.grants_in.ensures ∙ ap grants_shown (c.fence.ensures past s low held)
