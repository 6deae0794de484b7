use Rattle.std.proofs.Common.{subst}
use Rattle.mu_serve.specs.Closing.{ClosesLive}
use Rattle.mu_serve.specs.Sessions.{Talk}
use Rattle.mu_serve.proofs.session.Session.report.Goals as goal

pub returns-in-Ok-clause-reports : goal.returns-in-Ok-clause-reports
returns-in-Ok-clause-reports c =
    subst (λ (t : Talk). ClosesLive t.live c.in-Ok.account) c.self.view_is c.in-Ok.ensures.closes
