use Rattle.mu_grant.proofs.Others.{others_kept}
use Rattle.mu_grant.proofs.others_keep.Goals as goal

pub returns : goal.returns
returns c = others_kept
