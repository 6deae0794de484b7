-- signs: what is asked of one, and which of them end a cycle.
use Rattle.std.specs.Prelude.{Bool, false, true, ◌<◌}
use Rattle.mu_rest.specs.declared.sign.Sign.{Sign}

-- it is of one of seven replicas, if it is of one
abbrev pub IsOfSeven : Sign → Type 0
IsOfSeven (Sign.Beats q x) = q < 7
IsOfSeven (Sign.Head q x) = q < 7
IsOfSeven _ = Unit {0}

-- it is that of the last step of a cycle
abbrev pub ends_cycle : Sign → Bool
ends_cycle Sign.CycleEnd = true
ends_cycle _ = false

-- it shows that a fence, a minimum or a slot was changed
abbrev pub is_change : Sign → Bool
is_change Sign.Change = true
is_change _ = false
