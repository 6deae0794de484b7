use Rattle.mu_lead.proofs.Growing.{places_stay_law}
use Rattle.mu_lead.proofs.places_stay.Goals as goal

pub returns : goal.returns
returns c = places_stay_law
