use Rattle.std.proofs.Common.{◌∙◌, ap, length, sym}
use Rattle.std.specs.List.{slice_get}
use Rattle.mu_engine.specs.Live.{Live, paused}
use Rattle.mu_eras.proofs.Holds.{length_changed}
use Rattle.ordered_eras.specs.Moments.{state_by}
use Rattle.ordered_eras.proofs.Changes.{get_changed, get_unchanged, stays_stopped}
use Rattle.ordered_eras.proofs.OrderedErasOrderedStore.pause.Goals as goal

pub returns-clause-replicas : goal.returns-clause-replicas
returns-clause-replicas c = ap (λ (l : Live). length l.holds) c.pause.ensures.live ∙ length_changed (paused c.args.rounds) c.args.self.now.eras.succession.present.engine.holds c.args.replica

pub returns-clause-stays : goal.returns-clause-stays
returns-clause-stays c was =
    let found = get_changed (paused c.args.rounds) c.args.self.now.eras.succession.present.engine.holds c.args.replica c.requires in
    ap state_by (ap (λ (l : Live). slice_get l.holds c.args.replica) c.pause.ensures.live ∙ found.2) ∙ stays_stopped c.args.rounds found.0 (sym (ap state_by found.1) ∙ was)

pub returns-clause-others : goal.returns-clause-others
returns-clause-others c r other =
    ap state_by (ap (λ (l : Live). slice_get l.holds r) c.pause.ensures.live ∙ get_unchanged (paused c.args.rounds) c.args.self.now.eras.succession.present.engine.holds c.args.replica r other)
