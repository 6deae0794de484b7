use Rattle.mu_knowledge.proofs.Firsts.{found_is}
use Rattle.mu_model.specs.Leaderships.{is_member}
use Rattle.mu_lead.proofs.lead.Lead.member_from.Goals as goal

pub returns : goal.returns
returns c = λ now s. let l = c.args.self.now in found_is (λ p. is_member l.id p now) c.args.p l.config.replicas c.next_member.result (c.next_member.ensures l.id now s.config.replicas.1 s.leading)
