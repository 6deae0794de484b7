use Rattle.mu_knowledge.proofs.Firsts.{found_is}
use Rattle.mu_model.specs.Leaderships.{is_member}
use Rattle.std.specs.Prelude.{not}
use Rattle.mu_lead.proofs.lead.Lead.stranger_from.Goals as goal

pub returns : goal.returns
returns c = λ now s. let l = c.args.self.now in found_is (λ p. not (is_member l.id p now)) c.args.p l.config.replicas c.next_stranger.result (c.next_stranger.ensures l.id now s.config.replicas.1 s.leading)
