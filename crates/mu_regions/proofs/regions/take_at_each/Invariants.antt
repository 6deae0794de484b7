use Rattle.std.proofs.Common.{◌≡◌, ℕ, ◌<◌, ◌≤◌, List, ◌∷◌, ◌^◌, length, Some}
use Rattle.std.specs.List.{slice_get}
use Rattle.mu_model.specs.declared.config.Config.{Config}
use Rattle.mu_model.specs.declared.event.Event.{Event}
use Rattle.mu_regions.specs.Range.{IsNear}
use Rattle.mu_regions.specs.Stands.{Holds, HoldsEach}
use Rattle.mu_regions.specs.declared.region.Region.{Region}
use Rattle.mu_regions.proofs.regions.take_at_each.Given as goal

abbrev pub invariant-loop-region : goal.invariant-loop-region
invariant-loop-region l =
    (c : Config) (past : List Event) → length past < 2 ^ 20 → IsNear c l.event.verb → HoldsEach c past l.fn.regions
    → (p : ℕ) (region : Region) → slice_get l.regions p ≡ Some region
    → (p < l.region-index → Holds c p (l.event ∷ past) region) × (l.region-index ≤ p → Holds c p past region)
