use Rattle.mu_agree.proofs.Sessions.{marks_have_cause_law}
use Rattle.mu_agree.proofs.marks_have_cause.Goals as goal

pub returns : goal.returns
returns c = marks_have_cause_law
