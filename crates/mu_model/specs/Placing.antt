-- placing: when an entry may be put into the log of a region.
use Rattle.std.specs.Prelude.{Bool, List, None, Some, [], false, if◌then◌else◌, nat_le, nat_lt, not, ℕ, ◌%◌, ◌&&◌, ◌+◌, ◌==◌, ◌||◌, ◌∷◌}
use Rattle.std.specs.declared.option.Option.{Option}
use Rattle.std.specs.List.{slice_get}
use Rattle.mu_model.specs.declared.config.Config.{Config}
use Rattle.mu_model.specs.declared.event.Answer.{Answer}
use Rattle.mu_model.specs.declared.event.Event.{Event}
use Rattle.mu_model.specs.declared.event.Verb.{Verb}
use Rattle.mu_model.specs.Answers.{is_enter_of}
use Rattle.mu_model.specs.Histories.{before, has, since}
use Rattle.mu_model.specs.Knowledge.{greatest_fuo_read, is_value, known}
use Rattle.mu_model.specs.Leaderships.{begins_leadership, is_member, leadership}
use Rattle.mu_model.specs.Picks.{is_past, look_answer}

-- the look, if there is one, had another answer than `Past`
abbrev pub is_good_look : Option Answer → Bool
is_good_look None = false
is_good_look (Some a) = not (is_past a)

-- the step is a put of r at p in a position of the same place as i
abbrev pub is_slot_put_at : ℕ → ℕ → ℕ → ℕ → ℕ → Verb → Bool
is_slot_put_at r p ring i by (Verb.PutSlot q j b v) =
    (by == r) && ((q == p) && (j % ring == i % ring))
is_slot_put_at r p ring i by _ = false

-- the events of the leadership since p became a member
abbrev pub since_joining : ℕ → ℕ → List Event → List Event
since_joining r p [] = []
since_joining r p (e ∷ past) =
    if begins_leadership r e then [] else if is_member r p past then (e ∷ since_joining r p past)
    else []

-- before the last `Enter` of r at p a look at i there, made since p became a member, was no `Past`,
-- and no put came since at that place
abbrev pub looked_before_entering : Config → ℕ → ℕ → ℕ → List Event → Bool
looked_before_entering c r p i past =
    has (λ e. is_good_look (look_answer r p i e.by e.verb e.answer))
    (since (λ e. is_slot_put_at r p c.ring i e.by e.verb)
    (before (is_enter_of r p) (since_joining r p past)))

-- a look at i in p, made since p became a member, was no `Past`, and no put came since at that
-- place
abbrev pub has_looked_since : Config → ℕ → ℕ → ℕ → List Event → Bool
has_looked_since c r p i mine =
    has (λ e. is_good_look (look_answer r p i e.by e.verb e.answer))
    (since (λ e. is_slot_put_at r p c.ring i e.by e.verb) (since_joining r p mine))

-- the step is a put of r at p and j of the known value, answered `Done`
abbrev pub is_known_put : List ℕ → ℕ → ℕ → ℕ → ℕ → Verb → Answer → Bool
is_known_put values r p j by (Verb.PutSlot q i b v) Answer.Done =
    (by == r) && ((q == p) && ((i == j) && is_value (slice_get values j) v))
is_known_put values r p j by _ _ = false

-- p has what is known of j: a FUO of p above it was read in the leadership, or the known value was
-- put there in it
abbrev pub is_caught_up_at : Config → ℕ → ℕ → List Event → ℕ → Bool
is_caught_up_at c r p past j =
    nat_lt j (greatest_fuo_read r p (leadership r past))
    || has (λ e. is_known_put (known c r past) r p j e.by e.verb e.answer) (leadership r past)

-- the FUO of p that the step of r read or raised
abbrev pub fuo_read_or_raised : ℕ → ℕ → ℕ → Verb → Answer → Option ℕ
fuo_read_or_raised r p by (Verb.Fuo q) (Answer.Number x) =
    if (by == r) && (q == p) then Some x else None
fuo_read_or_raised r p by (Verb.RaiseFuo q u) a = if (by == r) && (q == p) then Some u else None
fuo_read_or_raised r p by _ _ = None

-- the FUO, if there is one, and the ring reach above i
abbrev pub is_within_ring : ℕ → ℕ → Option ℕ → Bool
is_within_ring i ring None = false
is_within_ring i ring (Some u) = nat_lt i (u + ring)

-- the FUO, if there is one, is at least h
abbrev pub reaches_head : ℕ → Option ℕ → Bool
reaches_head h None = false
reaches_head h (Some u) = nat_le h u
