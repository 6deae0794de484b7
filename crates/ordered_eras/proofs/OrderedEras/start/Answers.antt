use Rattle.std.proofs.Common.{[], ap, map, sym}
use Rattle.mu_engine.specs.Live.{Live}
use Rattle.mu_eras.specs.Orders.{numbered_after}
use Rattle.mu_eras.proofs.Fresh.{none_ordered}
use Rattle.ordered_eras.proofs.Sessions.{at_moment}
use Rattle.ordered_eras.proofs.OrderedEras.start.Goals as goal

pub returns : goal.returns
returns c =
    let e = c.in_ok-start.field-0.succession in
    let held = c.in_ok-start.ensures.holds in
    let none = ap (λ (l : Live). l.job.commands) c.in_ok-start.ensures.live in
    at_moment e (record { submitted = []; order = [] }) [] held (sym (ap (map (numbered_after [])) none)) (sym (ap (map (numbered_after [])) (none_ordered e.present.engine held.present.moment none)))
