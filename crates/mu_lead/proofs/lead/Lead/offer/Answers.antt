use Rattle.std.proofs.Common.{ap}
use Rattle.mu_lead.specs.declared.place.Place.{Place}
use Rattle.mu_lead.proofs.lead.Lead.offer.Goals as goal

pub returns : goal.returns
returns c = λ mine s. ap (λ q. Place.Enter q c.args.offer) (c.first_member.ensures mine s)
