-- pick: which value may be put at a position that isn't known.
use Rattle.std.specs.Prelude.{Bool, List, None, Some, [], false, if◌then◌else◌, is_none, is_some, length, nat_lt, not, suc, true, zero, ℕ, ◌%◌, ◌&&◌, ◌+◌, ◌/◌, ◌==◌, ◌||◌, ◌∷◌}
use Rattle.std.specs.declared.option.Option.{Option}
use Rattle.mu_model.specs.declared.config.Config.{Config}
use Rattle.mu_model.specs.declared.event.Answer.{Answer}
use Rattle.mu_model.specs.declared.event.Event.{Event}
use Rattle.mu_model.specs.declared.event.Verb.{Verb}
use Rattle.mu_model.specs.Contents.{client_of, command_count, is_batch, is_mark, marked, number_of}
use Rattle.mu_model.specs.Histories.{all_below, newest, oldest}
use Rattle.mu_model.specs.Knowledge.{known, wrote_batch}
use Rattle.mu_model.specs.Leaderships.{begins_leadership, is_member, leadership}
use Rattle.mu_model.specs.Room.{is_mark_candidate, reserve}

-- the answer of a look of r at position i of region p
abbrev pub look_answer : ℕ → ℕ → ℕ → ℕ → Verb → Answer → Option Answer
look_answer r p i by (Verb.Look q j) a =
    if (by == r) && ((q == p) && (j == i)) then Some a else None
look_answer r p i by _ a = None

-- the answer is `Past`
abbrev pub is_past : Answer → Bool
is_past Answer.Past = true
is_past _ = false

-- the look, if there is one, was `Past`
abbrev pub is_past_look : Option Answer → Bool
is_past_look None = false
is_past_look (Some a) = is_past a

-- by the step of r a region becomes a member
abbrev pub is_joining : ℕ → List Event → ℕ → Verb → Answer → Bool
is_joining r past by (Verb.PutMin p b) Answer.Done = (by == r) && not (is_member r p past)
is_joining r past by _ _ = false

-- the events of the leadership since the last region became a member
abbrev pub since_last_joining : ℕ → List Event → List Event
since_last_joining r [] = []
since_last_joining r (e ∷ past) =
    if is_joining r past e.by e.verb e.answer then [] else if begins_leadership r e then []
    else (e ∷ since_last_joining r past)

-- the last look at position i of region p since the last region became a member
abbrev pub last_look : ℕ → ℕ → ℕ → List Event → Option Answer
last_look r p i past =
    newest (λ e. look_answer r p i e.by e.verb e.answer) (since_last_joining r past)

-- the entry that a look shows
abbrev pub entry_of : Option Answer → Option (ℕ × ℕ)
entry_of (Some (Answer.Entry b v)) = Some (b, v)
entry_of _ = None

-- the entry of the larger number, the first at a tie
abbrev pub larger : Option (ℕ × ℕ) → Option (ℕ × ℕ) → Option (ℕ × ℕ)
larger None other = other
larger (Some x) None = Some x
larger (Some x) (Some y) = if nat_lt x.0 y.0 then Some y else Some x

-- the entry of the largest number among the last looks at the members below n, of the least id at a
-- tie
abbrev pub highest_accepted : ℕ → ℕ → List Event → ℕ → Option (ℕ × ℕ)
highest_accepted r i past zero = None
highest_accepted r i past (suc p) =
    larger (highest_accepted r i past p)
    (if is_member r p past then entry_of (last_look r p i past) else None)

-- v is a batch of r's own that is written in full, and the next of its client after what r knows
abbrev pub is_offer : Config → ℕ → List Event → ℕ → Bool
is_offer c r past v =
    is_batch c v
    && ((v / 4096 == r)
    && (wrote_batch c r (v % 4096) past
    && (number_of c (v % 4096) == command_count c (client_of c (v % 4096)) (known c r past) + 1)))

-- v is r's own payload number of a mark of another replica that has none yet and is a candidate
abbrev pub is_mark_offer : Config → ℕ → List Event → ℕ → Bool
is_mark_offer c r past v =
    (v / 4096 == r)
    && not
    (all_below c.replicas
    (λ q. not
    (is_mark c q v
    && (not (q == r)
    && (not (marked c q (known c r past))
    && is_mark_candidate c r q (length (known c r past) + reserve c) past)))))

-- if some look shows an entry, the value of that entry only; else an offer of its own, or a mark
abbrev pub pick : Config → ℕ → List Event → ℕ → Option (ℕ × ℕ) → Bool
pick c r past v (Some entry) = entry.1 == v
pick c r past v None = is_offer c r past v || is_mark_offer c r past v

-- the pick of the last looks of the members at i allows v
abbrev pub may_pick_at : Config → ℕ → List Event → ℕ → ℕ → Bool
may_pick_at c r past i v = pick c r past v (highest_accepted r i past c.replicas)

-- the value of a `PutSlot` of r at position i
abbrev pub value_put : ℕ → ℕ → ℕ → Verb → Option ℕ
value_put r i by (Verb.PutSlot p j b v) = if (by == r) && (j == i) then Some v else None
value_put r i by _ = None

-- the value of the first put at i in the leadership, landed or missed
abbrev pub first_value : ℕ → ℕ → List Event → Option ℕ
first_value r i past = oldest (λ e. value_put r i e.by e.verb) (leadership r past)

-- a region became a member after the first put at i in the leadership
abbrev pub joined_since_first_put : ℕ → ℕ → List Event → Bool
joined_since_first_put r i [] = false
joined_since_first_put r i (e ∷ past) =
    if begins_leadership r e
    then false
    else if is_joining r past e.by e.verb e.answer && is_some (first_value r i past)
    then true
    else joined_since_first_put r i past

-- v is the value of the first put at i, and no region joined since it; if none was made, every
-- member was looked at since the last joining and the pick allows v
abbrev pub may_propose : Config → ℕ → List Event → ℕ → ℕ → Option ℕ → Bool
may_propose c r past i v (Some first) = (v == first) && not (joined_since_first_put r i past)
may_propose c r past i v None =
    all_below c.replicas (λ p. not (is_member r p past) || is_some (last_look r p i past))
    && may_pick_at c r past i v

-- v is a batch, and no look shows an entry
abbrev pub is_fresh_batch : Config → ℕ → List Event → ℕ → ℕ → Bool
is_fresh_batch c r past i v = is_batch c v && is_none (highest_accepted r i past c.replicas)
