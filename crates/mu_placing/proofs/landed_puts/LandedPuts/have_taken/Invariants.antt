use Rattle.std.proofs.Common.{List, length, not, ℕ, ◌||◌, ◌∷◌, ◌≡◌, ◌≤◌}
use Rattle.mu_model.specs.declared.config.Config.{Config}
use Rattle.mu_model.specs.declared.event.Event.{Event}
use Rattle.mu_model.specs.Contents.{IsConfig}
use Rattle.mu_model.specs.Histories.{all_below, has}
use Rattle.mu_model.specs.Knowledge.{known, lands_entry}
use Rattle.mu_model.specs.Leaderships.{is_member, leadership}
use Rattle.mu_model.specs.Parts.{IsPossible}
use Rattle.mu_placing.specs.LandedPuts.{StandsForLandedPuts}
use Rattle.mu_leadership.specs.Leadership.{StandsForLeadership}
use Rattle.mu_placing.proofs.landed_puts.LandedPuts.have_taken.Given as goal

abbrev pub invariant-loop-p : goal.invariant-loop-p
invariant-loop-p l =
    (c : Config) (r : ℕ) (event : Event) (mine : List Event) → IsConfig c → IsPossible c r (event ∷ mine) → length (known c r mine) ≤ l.i → StandsForLeadership r (event ∷ mine) l.leading → StandsForLandedPuts c r (event ∷ mine) l.self
    → l.all ≡ all_below l.p (λ q. not (is_member r q (event ∷ mine)) || has (lands_entry r q l.i l.b l.v) (leadership r (event ∷ mine)))
