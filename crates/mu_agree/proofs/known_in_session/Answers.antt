use Rattle.mu_agree.proofs.Sessions.{known_in_session_law}
use Rattle.mu_agree.proofs.known_in_session.Goals as goal

pub returns : goal.returns
returns c = known_in_session_law
