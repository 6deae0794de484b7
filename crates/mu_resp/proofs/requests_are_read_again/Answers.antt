use Rattle.mu_resp.proofs.Spellings.{read_again}
use Rattle.mu_resp.proofs.requests_are_read_again.Goals as goal

pub returns : goal.returns
returns c = read_again
