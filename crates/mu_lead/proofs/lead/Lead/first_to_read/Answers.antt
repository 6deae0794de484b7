use Rattle.mu_lead.specs.Listing.{or_else}
use Rattle.mu_lead.specs.declared.place.Place.{Place}
use Rattle.std.proofs.Common.{ap}
use Rattle.mu_lead.proofs.lead.Lead.first_to_read.Goals as goal

pub returns-in-Some : goal.returns-in-Some
returns-in-Some c = λ now s. ap (λ o. or_else o Place.ReadMin Place.Rest) (c.in-Some.ensures now s)

pub returns-in-None : goal.returns-in-None
returns-in-None c = λ now s. ap (λ o. or_else o Place.ReadMin Place.Rest) (c.in-None.ensures now s)
