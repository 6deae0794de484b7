use Rattle.std.proofs.Common.{◌∙◌, ap}
use Rattle.mu_course.specs.Walks.{fence_shown}
use Rattle.mu_course.proofs.walk.Walk.fence.Goals as goal

pub returns : goal.returns
returns c = λ past s low held.
    c.fence_in.ensures
    ∙ ap fence_shown (c.answer.ensures s past (record { replica = low; read = low; near = tt }) held.regions)
