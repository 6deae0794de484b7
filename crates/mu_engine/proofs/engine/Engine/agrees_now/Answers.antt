use Rattle.std.proofs.Common.{subst}
use Rattle.mu_outcome.specs.LogsAfter.{AgreesNow}
use Rattle.mu_outcome.proofs.LogsAgreeing.{logs_agree_law}
use Rattle.mu_engine.specs.Live.{Live}
use Rattle.mu_engine.specs.Inside.{live_of}
use Rattle.mu_engine.proofs.engine.Engine.agrees_now.Goals as goal

pub returns : goal.returns
returns c =
    let at = c.self.invariant.moment in
    subst (λ (v : Live). AgreesNow v.job v.events) c.self.view_is (logs_agree_law (live_of c.self.inside).job c.self.inside.port.events at.config at.heads at.legal)
