-- A leadership that is confirmed has a majority.
use Rattle.std.proofs.Common.{◌≡◌, ℕ, true, List, is_some}
use Rattle.std.proofs.lemmas.Bool.{and_parts, leb-true}
use Rattle.mu_model.specs.declared.config.Config.{Config}
use Rattle.mu_model.specs.declared.event.Event.{Event}
use Rattle.mu_model.specs.Diligence.{is_confirmed}
use Rattle.mu_model.specs.Histories.{count_below}
use Rattle.mu_model.specs.Leaderships.{majority_of, noted_grant}
use Rattle.mu_lead.specs.Confirming.{Confirmed}

-- a leadership is confirmed if the noted regions are a majority with r
pub is_majority : (c : Config) (r : ℕ) (mine : List Event) → is_confirmed c r mine ≡ true → Confirmed c r mine
is_majority c r mine is =
    let parts = and_parts (is_some (noted_grant r r mine)) _ is in
    record { own = parts.0; many = leb-true (majority_of c.replicas) (count_below c.replicas (λ p. is_some (noted_grant r p mine))) parts.1 }
