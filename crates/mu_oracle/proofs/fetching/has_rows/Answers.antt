use Rattle.std.proofs.Common.{◌+◌, rules}
use Rattle.mu_model.specs.Histories.{history}
use Rattle.mu_model.specs.Knowledge.{has_row}
use Rattle.mu_oracle.proofs.fetching.has_rows.Goals as goal

pub returns : goal.returns
returns c = c.all_up_to.ensures (λ t. has_row c.args.r (c.args.v + t) (history c.args.part.now)) (λ t b l p. search rules)
