use Rattle.std.proofs.Common.{◌≡◌, ◌+◌, ◌<◌, List, ◌∷◌, length}
use Rattle.mu_model.specs.declared.config.Config.{Config}
use Rattle.mu_model.specs.declared.event.Event.{Event}
use Rattle.mu_placing.specs.Looks.{HoldsEachRegion, StandsForRegionLooks}
use Rattle.mu_model.proofs.Lists.{HoldsUpto}
use Rattle.mu_placing.proofs.looks.take_at_each.Given as goal

abbrev pub invariant-loop-looks : goal.invariant-loop-looks
invariant-loop-looks l =
    (c : Config) (mine : List Event) → 0 < c.ring → l.now ≡ length mine + 1 → HoldsEachRegion c l.r mine l.fn.regions
    → HoldsUpto (λ p looks. StandsForRegionLooks c l.r p mine looks) (λ p looks. StandsForRegionLooks c l.r p (l.event ∷ mine) looks) l.looks-index l.regions
