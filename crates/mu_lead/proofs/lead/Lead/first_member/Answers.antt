use Rattle.std.proofs.Common.{ap}
use Rattle.mu_lead.specs.Listing.{or_own}
use Rattle.mu_lead.proofs.lead.Lead.first_member.Goals as goal

pub returns-in-Some : goal.returns-in-Some
returns-in-Some c = λ now s. ap (or_own c.args.self.now.id) (c.in-Some.ensures now s)

pub returns-in-None : goal.returns-in-None
returns-in-None c = λ now s. ap (or_own c.args.self.now.id) (c.in-None.ensures now s)
