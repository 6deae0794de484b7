use Rattle.mu_picture.proofs.trail.Trail.pass.Goals as goal

pub loop-index-preserved : goal.loop-index-preserved
loop-index-preserved c = (c.in_default.ensures c.loop-index.invariant).stands
