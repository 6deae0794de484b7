use Rattle.mu_resp.proofs.Spellings.{is_spelled}
use Rattle.mu_resp.proofs.what_is_read_is_spelled_so.Goals as goal

pub returns : goal.returns
returns c = is_spelled
