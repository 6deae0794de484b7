use Rattle.std.proofs.Common.{◌∙◌, ap, length}
use Rattle.std.specs.List.{slice_get}
use Rattle.mu_engine.specs.Live.{Live, free, held}
use Rattle.mu_eras.proofs.Holds.{length_changed}
use Rattle.ordered_eras.specs.Moments.{state_by}
use Rattle.ordered_eras.proofs.Changes.{get_changed, get_unchanged}
use Rattle.ordered_eras.proofs.OrderedErasOrderedStore.call_back.Goals as goal

pub returns-clause-replicas : goal.returns-clause-replicas
returns-clause-replicas c = ap (λ (l : Live). length l.holds) c.back.ensures.live ∙ length_changed (held free) c.args.self.now.eras.succession.present.engine.holds c.args.replica

pub returns-clause-running : goal.returns-clause-running
returns-clause-running c =
    let found = get_changed (held free) c.args.self.now.eras.succession.present.engine.holds c.args.replica c.requires in
    ap state_by (ap (λ (l : Live). slice_get l.holds c.args.replica) c.back.ensures.live ∙ found.2)

pub returns-clause-others : goal.returns-clause-others
returns-clause-others c r other =
    ap state_by (ap (λ (l : Live). slice_get l.holds r) c.back.ensures.live ∙ get_unchanged (held free) c.args.self.now.eras.succession.present.engine.holds c.args.replica r other)
