use Rattle.mu_knowledge.proofs.Firsts.{found_is}
use Rattle.mu_model.specs.Leaderships.{noted_grant}
use Rattle.std.specs.Prelude.{is_some}
use Rattle.mu_lead.proofs.lead.Lead.noted_from.Goals as goal

pub returns : goal.returns
returns c = λ now s. let l = c.args.self.now in found_is (λ p. is_some (noted_grant l.id p now)) c.args.p l.config.replicas c.next_noted.result (c.next_noted.ensures l.id now s.config.replicas.1 s.leading)
