use Rattle.std.proofs.Common.{◌≡◌, ℕ, ◌-◌, ◌*◌, ◌<◌, ◌/◌, ◌^◌, get_or}
use Rattle.mu_rows.proofs.read.are_clear.Given as goal

abbrev pub invariant-loop-index : goal.invariant-loop-index
invariant-loop-index l =
    (j : ℕ) → j < l.index → l.len - 8 * j < 8 → get_or l.words j 0 / 2 ^ (8 * (l.len - 8 * j)) ≡ 0
