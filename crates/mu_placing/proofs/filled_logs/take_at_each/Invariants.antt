use Rattle.std.proofs.Common.{◌∷◌}
use Rattle.mu_placing.specs.FilledLogs.{HoldsCoverage, HoldsCoverages, Knowing}
use Rattle.mu_model.proofs.Lists.{HoldsUpto}
use Rattle.mu_placing.proofs.filled_logs.take_at_each.Given as goal

abbrev pub invariant-loop-region : goal.invariant-loop-region
invariant-loop-region l =
    Knowing l.r l.event l.known_before l.known_after l.landings
    (λ c mine. HoldsCoverages c l.r mine l.fn.regions
    → HoldsUpto (λ p region. HoldsCoverage c l.r p mine region) (λ p region. HoldsCoverage c l.r p (l.event ∷ mine) region) l.region-index l.regions)
