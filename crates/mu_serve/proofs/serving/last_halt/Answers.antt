use Rattle.mu_serve.proofs.Going.{begins, goes_on}
use Rattle.mu_serve.proofs.serving.last_halt.Goals as goal

pub lines-init : goal.lines-init
lines-init g c =
    let requires = c.requires in
    begins _ requires.count requires.waiting requires.held requires.room requires.going

pub lines-preserved : goal.lines-preserved
lines-preserved g c = goes_on _ _ _ c.lines.invariant c.in_default.ensures

pub lines-smaller : goal.lines-smaller
lines-smaller g c = c.in_default.ensures.next.takes.fewer
