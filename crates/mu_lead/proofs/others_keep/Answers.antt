use Rattle.mu_lead.proofs.Others.{others_keep_law}
use Rattle.mu_lead.proofs.others_keep.Goals as goal

pub returns : goal.returns
returns c = others_keep_law
