use Rattle.std.proofs.Common.{◌∙◌}
use Rattle.mu_lead.proofs.Firsts.{late_members, other_members}
use Rattle.mu_lead.proofs.lead.Lead.after_all.Goals as goal

pub returns-in-Late : goal.returns-in-Late
returns-in-Late c = λ counts mine s same. let l = c.args.self.now in c.late_from.ensures counts mine s same ∙ late_members l.config l.id mine l.heads c.args.then c.in-Late.is

pub returns-in_default : goal.returns-in_default
returns-in_default c = λ counts mine s same. let l = c.args.self.now in c.next_position.ensures counts mine s same ∙ other_members l.config l.id mine l.heads c.args.then c.in_default.not-Late
