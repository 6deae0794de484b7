use Rattle.mu_agree.proofs.Access.{only_owners_put_law}
use Rattle.mu_agree.proofs.only_owners_put.Goals as goal

pub returns : goal.returns
returns c = only_owners_put_law
