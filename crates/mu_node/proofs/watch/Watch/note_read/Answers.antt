use Rattle.std.proofs.Common.{◌∷◌}
use Rattle.mu_node.proofs.watch.Watch.note_read.Goals as goal

pub returns : goal.returns
returns c k r mine same held =
    let e = c.args.event.now in
    let scores = c.note.ensures k.replicas r mine held.scores in
    record { scores = scores; named = c.leader-self.ensures k r (e ∷ mine) scores; failed = c.failed_in-self.ensures k r (e ∷ mine) same scores }
