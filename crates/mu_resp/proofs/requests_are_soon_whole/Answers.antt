use Rattle.mu_resp.proofs.Bounds.{soon_whole}
use Rattle.mu_resp.proofs.requests_are_soon_whole.Goals as goal

pub returns : goal.returns
returns c = soon_whole
