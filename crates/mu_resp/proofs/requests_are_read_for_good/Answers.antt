use Rattle.mu_resp.proofs.Pieces.{read_for_good}
use Rattle.mu_resp.proofs.requests_are_read_for_good.Goals as goal

pub returns : goal.returns
returns c = read_for_good
