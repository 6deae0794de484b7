use Rattle.mu_node.proofs.watch.Watch.alive.Goals as goal

pub returns : goal.returns
returns c k r mine low held = c.alive.ensures k.replicas r mine low held.scores
