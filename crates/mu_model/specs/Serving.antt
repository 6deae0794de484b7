-- served, pending close: the asks that a host has served, and what it still has to drain.
use Rattle.std.specs.Prelude.{Bool, List, None, Some, [], false, if◌then◌else◌, max, nat_lt, not, true, ℕ, ◌&&◌, ◌==◌, ◌∷◌}
use Rattle.std.specs.declared.option.Option.{Option}
use Rattle.mu_model.specs.declared.event.Answer.{Answer}
use Rattle.mu_model.specs.declared.event.Event.{Event}
use Rattle.mu_model.specs.declared.event.Fence.{Fence}
use Rattle.mu_model.specs.declared.event.Target.{Target}
use Rattle.mu_model.specs.declared.event.Verb.{Verb}
use Rattle.mu_model.specs.Histories.{all_below, before, has, newer_or, newest, or_zero, since}
use Rattle.mu_model.specs.Leaderships.{owner_is}
use Rattle.mu_model.specs.Regions.{fence_closing, fence_owner, is_close_of, is_drain_of}

-- the answer of a `ReadAsk(w)` of r
abbrev pub ask_read : ℕ → ℕ → ℕ → Verb → Answer → Option ℕ
ask_read r w by (Verb.ReadAsk q) (Answer.Number x) = if (by == r) && (q == w) then Some x else None
ask_read r w by _ _ = None

-- the asks of w that r saw last
abbrev pub seen_asks : ℕ → ℕ → List Event → ℕ
seen_asks r w past = or_zero (newest (λ e. ask_read r w e.by e.verb e.answer) past)

-- the step is a `Grant(w)` of r
abbrev pub is_grant_to : ℕ → ℕ → ℕ → Verb → Bool
is_grant_to r w by (Verb.Grant q) = (by == r) && (q == w)
is_grant_to r w by _ = false

-- the asks of w that r had seen at its last `Grant(w)`
abbrev pub served_by_grant : ℕ → ℕ → List Event → ℕ
served_by_grant r w past = seen_asks r w (before (λ e. is_grant_to r w e.by e.verb) past)

-- a `ReadAsk(w)` answer that came while w was owner and no `Close` was pending
abbrev pub read_while_owner : ℕ → ℕ → List Event → ℕ → Verb → Answer → Option ℕ
read_while_owner r w past by (Verb.ReadAsk q) (Answer.Number x) =
    if (by == r) && ((q == w) && (owner_is w (fence_owner r past) && not (fence_closing r past)))
    then Some x else None
read_while_owner r w past by _ _ = None

-- the last `ReadAsk(w)` answer that came while w was owner and no `Close` was pending
abbrev pub served_as_owner : ℕ → ℕ → List Event → Option ℕ
served_as_owner r w [] = None
served_as_owner r w (e ∷ past) =
    newer_or (read_while_owner r w past e.by e.verb e.answer) (served_as_owner r w past)

-- the asks of w that r has served: the greater of these two
abbrev pub served : ℕ → ℕ → List Event → ℕ
served r w past = max (served_by_grant r w past) (or_zero (served_as_owner r w past))

-- w is not the owner and has an ask that was not served
abbrev pub has_unserved_ask : ℕ → List Event → ℕ → Bool
has_unserved_ask r past w =
    not (owner_is w (fence_owner r past)) && nat_lt (served r w past) (seen_asks r w past)

-- w is the least replica with an unserved ask
abbrev pub is_least_waiting : ℕ → List Event → ℕ → Bool
is_least_waiting r past w =
    has_unserved_ask r past w && all_below w (λ q. not (has_unserved_ask r past q))

-- the fence that a `Close` of r found
abbrev pub close_seen : ℕ → ℕ → Verb → Answer → Option Fence
close_seen r by Verb.Close (Answer.Seen f) = if by == r then Some f else None
close_seen r by _ _ = None

-- the target names a word
abbrev pub has_target : Target → Bool
has_target Target.None = false
has_target Target.Min = true
has_target (Target.Place s) = true

-- the fence, if there is one, names a word
abbrev pub names_target : Option Fence → Bool
names_target None = false
names_target (Some f) = has_target f.target

-- a `Close` is pending whose answer has a target
abbrev pub must_drain : ℕ → List Event → Bool
must_drain r past =
    fence_closing r past && names_target (newest (λ e. close_seen r e.by e.verb e.answer) past)

-- the step is a `LookTarget` of r
abbrev pub is_target_look : ℕ → ℕ → Verb → Bool
is_target_look r by Verb.LookTarget = by == r
is_target_look r by _ = false

-- a `LookTarget` came since the last `Close`
abbrev pub looked_since_close : ℕ → List Event → Bool
looked_since_close r past = has (λ e. is_target_look r e.by e.verb) (since (is_close_of r) past)

-- a `Drain` came since the last `Close`
abbrev pub drained_since_close : ℕ → List Event → Bool
drained_since_close r past = has (is_drain_of r) (since (is_close_of r) past)
