-- gain steps, commit steps, steps in any ring: the steps within which each replica that lags gains an
-- entry or a row; those for each entry besides; and within which a leader has committed every
-- command, whatever the ring.
use Rattle.std.specs.Prelude.{Bool, List, length, true, ℕ, ◌*◌, ◌+◌, ◌<◌, ◌≡◌, ◌≤◌}
use Rattle.mu_model.specs.declared.config.Config.{Config}
use Rattle.mu_model.specs.declared.event.Event.{Event}
use Rattle.mu_model.specs.Bounds.{cycle}
use Rattle.mu_model.specs.Contents.{IsConfig, holds_all, row_count}
use Rattle.mu_model.specs.Histories.{part}
use Rattle.mu_model.specs.Knowledge.{applied}
use Rattle.mu_model.specs.Room.{reserve}
use Rattle.mu_pace.specs.Watches.{limit}
use Rattle.mu_alive.specs.Alone.{WritesAlone}
use Rattle.mu_alive.specs.Bringing.{bringing_steps, joining_steps}
use Rattle.mu_alive.specs.Enough.{beginning_steps}
use Rattle.mu_alive.specs.Finishing.{HaveAllRaised, KeepUp, lagging_steps}
use Rattle.mu_alive.specs.Last.{FetchesInTime, LeadsLast}
use Rattle.mu_alive.specs.Opens.{OpensInTime}

-- the steps of the leader in which each replica that lags gains an entry or a row, all at once
abbrev pub gain_steps : Config → ℕ
gain_steps c = 2 * cycle c + 2

-- for each entry besides: its FUOs are raised and read, then the heads are, and the next entry is
-- committed
abbrev pub commit_steps : Config → ℕ
commit_steps c =
    2 * c.replicas + gain_steps c + (cycle c + 2) + 2 * limit c c.replicas

-- all regions are granted, become members, and are brought up; and what the leadership is paid
abbrev pub settling_steps : Config → ℕ
settling_steps c =
    beginning_steps c + (2 * cycle c + 2) + joining_steps c + 2 * bringing_steps c

-- this many steps are enough in any ring: each entry is committed once, and learnt and fetched once
-- by the replica that is last
abbrev pub steps_in_any_ring : Config → ℕ
steps_in_any_ring c =
    settling_steps c + (row_count c + reserve c) * commit_steps c
    + (c.width + 1) * (row_count c + reserve c) * gain_steps c

-- replica 0 has applied every command then, if it is the last that asks from the start on, writes
-- rows alone, and all others keep up with it
abbrev pub LoneLeadersApplyAllInAnyRing : Type 0
LoneLeadersApplyAllInAnyRing =
    (c : Config) (live : ℕ → Bool) (past : List Event) → IsConfig c
    → ((r : ℕ) → r < c.replicas → live r ≡ true) → LeadsLast c live 0 0 past
    → OpensInTime c 0 (part 0 past) → WritesAlone 0 past → KeepUp c live 0 past
    → steps_in_any_ring c ≤ length (part 0 past)
    → holds_all c (applied c 0 (part 0 past)) ≡ true

-- with the steps until all others have too, and have raised their heads to it
abbrev pub raising_in_any_ring : Config → ℕ
raising_in_any_ring c = steps_in_any_ring c + lagging_steps c

abbrev pub LoneLeadersRaiseAllInAnyRing : Type 0
LoneLeadersRaiseAllInAnyRing =
    (c : Config) (live : ℕ → Bool) (past : List Event) → IsConfig c
    → ((r : ℕ) → r < c.replicas → live r ≡ true) → LeadsLast c live 0 0 past
    → OpensInTime c 0 (part 0 past) → FetchesInTime c 0 (part 0 past) → WritesAlone 0 past
    → KeepUp c live 0 past
    → raising_in_any_ring c ≤ length (part 0 past) → HaveAllRaised c live past
