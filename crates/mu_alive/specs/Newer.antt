-- left from, lasts from: what is left of a count that is opened at some moment, as that of a submission,
-- whatever was open before; that some step is left of it at each later moment.
use Rattle.std.specs.Prelude.{List, Some, [], length, ℕ, ◌++◌, ◌<◌, ◌+◌, ◌∷◌, ◌≡◌, ◌≤◌}
use Rattle.std.specs.declared.option.Option.{Option}
use Rattle.mu_model.specs.declared.config.Config.{Config}
use Rattle.mu_model.specs.declared.event.Event.{Event}
use Rattle.mu_model.specs.Knowledge.{known}
use Rattle.mu_model.specs.Stretches.{replications}
use Rattle.mu_pace.specs.Counters.{Watch, fewer, left_after}
use Rattle.mu_pace.specs.Watches.{limit_now, progressing}
use Rattle.mu_alive.specs.Calm.{IsCalm}
use Rattle.mu_alive.specs.Missing.{missing_steps}

abbrev pub left_from : Watch → ℕ → List Event → List Event → Option ℕ
left_from w amount [] base = Some amount
left_from w amount (e ∷ window) base =
    fewer (w.allows (e ∷ (window ++ base)))
    (left_after (w.closes (window ++ base) e) (w.counts (window ++ base) e)
    (w.pays (window ++ base) e) (left_from w amount window base))

-- some step of it is left now, and was at each moment since
abbrev pub LastsFrom : Watch → ℕ → List Event → List Event → Type 0
LastsFrom w amount [] base = (left : ℕ) → left_from w amount [] base ≡ Some left → 1 ≤ left
LastsFrom w amount (e ∷ window) base =
    LastsFrom w amount window base
    × ((left : ℕ) → left_from w amount (e ∷ window) base ≡ Some left → 1 ≤ left)

-- from such a moment on, a leadership that nothing interrupts has fewer replication events than that
-- until it knows all: nothing is asked of how the events before were made
abbrev pub CalmLeadersCommitNewer : Type 0
CalmLeadersCommitNewer =
    (c : Config) (r most missing : ℕ) (window base : List Event)
    → LastsFrom (progressing c r) (limit_now c r base) window base → IsCalm c r window base
    → length (known c r (window ++ base)) ≤ most → most ≤ length (known c r base) + missing
    → replications window base < missing_steps c 0 missing most
