-- What the regions before this one hold was added.
use Rattle.std.proofs.Common.{◌++◌, ◌≡◌}
use Rattle.mu_telling.specs.Held.{OfWalk}
use Rattle.mu_telling.specs.Shown.{joined_below, positions, region_facts}
use Rattle.mu_telling.proofs.showing.push_regions.Given as goal

abbrev pub invariant-loop-region : goal.invariant-loop-region
invariant-loop-region l =
    OfWalk l.walk l.n (λ c past. l.positions ≡ positions c
    → l.facts.items ≡ l.initial.facts.items ++ joined_below l.region (region_facts c past))
