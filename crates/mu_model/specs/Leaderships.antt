-- leadership, noted grant, member, proposal number, over, majority: the terms of a replica's
-- leadership, by its own events.
--
-- They look only at the events of r, so they say the same of the whole history and of the part of
-- r.
use Rattle.std.specs.Prelude.{Bool, List, None, Some, [], false, if◌then◌else◌, is_some, nat_le, nat_lt, not, true, ℕ, ◌&&◌, ◌+◌, ◌/◌, ◌==◌, ◌||◌, ◌∷◌}
use Rattle.std.specs.declared.option.Option.{Option}
use Rattle.mu_model.specs.declared.config.Config.{Config}
use Rattle.mu_model.specs.declared.event.Answer.{Answer}
use Rattle.mu_model.specs.declared.event.Event.{Event}
use Rattle.mu_model.specs.declared.event.Fence.{Fence}
use Rattle.mu_model.specs.declared.event.Verb.{Verb}
use Rattle.mu_model.specs.Histories.{count_below, has, how_many, newer_or, newest, oldest, since}

-- the step is an `Ask(0)` of r
abbrev pub is_first_ask : ℕ → ℕ → Verb → Bool
is_first_ask r by (Verb.Ask p) = (by == r) && (p == 0)
is_first_ask r by _ = false

-- the event begins a leadership of r
abbrev pub begins_leadership : ℕ → Event → Bool
begins_leadership r e = is_first_ask r e.by e.verb

-- the leadership under way: the events after the last `Ask(0)`, or all if there is none (then no
-- verb of a leader is allowed)
abbrev pub leadership : ℕ → List Event → List Event
leadership r past = since (begins_leadership r) past

-- a leadership of r has begun
abbrev pub has_begun : ℕ → List Event → Bool
has_begun r past = has (begins_leadership r) past

-- how many leaderships of r there were, the one under way among them
abbrev pub leaderships : ℕ → List Event → ℕ
leaderships r past = how_many (begins_leadership r) past

-- what r saw of the fence of p
abbrev pub fence_seen : ℕ → ℕ → ℕ → Verb → Answer → Option Fence
fence_seen r p by (Verb.Fence q) (Answer.Seen f) = if (by == r) && (q == p) then Some f else None
fence_seen r p by _ _ = None

-- the owner is r
abbrev pub owner_is : ℕ → Option ℕ → Bool
owner_is r None = false
owner_is r (Some w) = w == r

-- the grant of a fence that names r and isn't closing
abbrev pub grant_for : ℕ → Option Fence → Option ℕ
grant_for r None = None
grant_for r (Some f) = if not f.closing && owner_is r f.owner then Some f.grant else None

-- the noted grant of p: that of the last `Fence(p)` answer in the leadership, if it names r and is
-- not closing
abbrev pub noted_grant : ℕ → ℕ → List Event → Option ℕ
noted_grant r p past =
    grant_for r (newest (λ e. fence_seen r p e.by e.verb e.answer) (leadership r past))

-- the number of a `PutMin` of r
abbrev pub number_put : ℕ → ℕ → Verb → Option ℕ
number_put r by (Verb.PutMin p b) = if by == r then Some b else None
number_put r by _ = None

-- the number of the leadership: that of its first `PutMin`, landed or missed
abbrev pub proposal_number : ℕ → List Event → Option ℕ
proposal_number r past = oldest (λ e. number_put r e.by e.verb) (leadership r past)

-- a `PutMin` of r landed at p
abbrev pub lands_min : ℕ → ℕ → ℕ → Verb → Answer → Bool
lands_min r p by (Verb.PutMin q b) Answer.Done = (by == r) && (q == p)
lands_min r p by _ _ = false

-- the grant noted of p when it became a member (perhaps none), if it is one
abbrev pub grant_at_joining : ℕ → ℕ → List Event → Option (Option ℕ)
grant_at_joining r p [] = None
grant_at_joining r p (e ∷ past) =
    if begins_leadership r e
    then None
    else if lands_min r p e.by e.verb e.answer
    then newer_or (grant_at_joining r p past) (Some (noted_grant r p past))
    else grant_at_joining r p past

-- p is a member: a `PutMin` landed there in the leadership
abbrev pub is_member : ℕ → ℕ → List Event → Bool
is_member r p past = is_some (grant_at_joining r p past)

-- x is above the number, if there is one
abbrev pub is_above : Option ℕ → ℕ → Bool
is_above None x = false
is_above (Some b) x = nat_lt b x

-- the fence of a member is closing, or has another grant than the one noted at its joining; if none
-- was noted, any fence counts as changed
abbrev pub is_changed : Option (Option ℕ) → Fence → Bool
is_changed None f = false
is_changed (Some None) f = true
is_changed (Some (Some g)) f = f.closing || not (f.grant == g)

-- the step of r ends the leadership
abbrev pub ends_leadership : ℕ → List Event → ℕ → Verb → Answer → Bool
ends_leadership r past by (Verb.Enter p t) (Answer.Lost f) = by == r
ends_leadership r past by (Verb.PutMin p b) Answer.Missed = by == r
ends_leadership r past by (Verb.PutSlot p i b v) Answer.Missed = by == r
ends_leadership r past by (Verb.Min p) (Answer.Number x) =
    (by == r) && is_above (proposal_number r past) x
ends_leadership r past by (Verb.Fence p) (Answer.Seen f) =
    (by == r) && is_changed (grant_at_joining r p past) f
ends_leadership r past by _ _ = false

-- the leadership is over
abbrev pub is_over : ℕ → List Event → Bool
is_over r [] = false
is_over r (e ∷ past) =
    if begins_leadership r e then false
    else (ends_leadership r past e.by e.verb e.answer || is_over r past)

-- more than half of n
abbrev pub majority_of : ℕ → ℕ
majority_of n = n / 2 + 1

-- the members are a majority with r
abbrev pub has_quorum : Config → ℕ → List Event → Bool
has_quorum c r past =
    is_member r r past
    && nat_le (majority_of c.replicas) (count_below c.replicas (λ p. is_member r p past))
