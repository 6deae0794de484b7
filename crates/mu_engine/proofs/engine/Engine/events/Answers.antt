use Rattle.std.proofs.Common.{subst}
use Rattle.mu_engine.specs.Live.{Live}
use Rattle.mu_engine.specs.Moments.{IsMoment}
use Rattle.mu_engine.proofs.engine.Engine.events.Goals as goal

pub returns-clause-moment : goal.returns-clause-moment
returns-clause-moment c = subst (λ (v : Live). IsMoment v.job v.events) c.self.view_is c.self.invariant.moment
