use Rattle.std.proofs.Common.{arith, sym, ◌∙◌}
use Rattle.mu_lead.proofs.Firsts.{near_place, far_place}
use Rattle.mu_lead.proofs.lead.Lead.bring_up.Goals as goal

pub returns-then-is_near : goal.returns-then-is_near
returns-then-is_near c = λ mine s region. let l = c.args.self.now in let few = s.config.replicas.1 in near_place l.config l.up l.reach c.args.p c.args.then (sym (c.is_near.ensures.is s.tables.ups s.tables.reaches (omega (arith, region, few))) ∙ c.if-is_near.true)

pub returns-else-is_near : goal.returns-else-is_near
returns-else-is_near c = λ mine s region. let l = c.args.self.now in let few = s.config.replicas.1 in far_place l.config l.up l.reach c.args.p c.args.then (sym (c.is_near.ensures.is s.tables.ups s.tables.reaches (omega (arith, region, few))) ∙ c.if-is_near.false)
