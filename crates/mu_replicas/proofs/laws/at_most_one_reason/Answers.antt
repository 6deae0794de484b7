use Rattle.mu_model.specs.Points.{points}
use Rattle.mu_model.proofs.Reasons.{at_most_one}
use Rattle.mu_replicas.proofs.laws.at_most_one_reason.Goals as goal

pub returns : goal.returns
returns c = λ k r past verb a b one other. at_most_one k r past (points k r past verb) a b one other
