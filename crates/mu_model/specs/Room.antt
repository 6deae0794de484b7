-- room, reserve: whether the heads that r has read leave room for one more position; and how many
-- places offers of a replica's own leave free for marks.
use Rattle.std.specs.Prelude.{Bool, List, None, Some, [], false, if◌then◌else◌, nat_le, nat_lt, ℕ, ◌&&◌, ◌+◌, ◌==◌, ◌||◌, ◌∷◌}
use Rattle.std.specs.declared.option.Option.{Option}
use Rattle.mu_model.specs.declared.config.Config.{Config}
use Rattle.mu_model.specs.declared.event.Answer.{Answer}
use Rattle.mu_model.specs.declared.event.Event.{Event}
use Rattle.mu_model.specs.declared.event.Verb.{Verb}
use Rattle.mu_model.specs.Contents.{marked}
use Rattle.mu_model.specs.Histories.{all_below, newest, or_zero}
use Rattle.mu_model.specs.Knowledge.{known}
use Rattle.mu_model.specs.Leaderships.{begins_leadership}
use Rattle.mu_model.specs.Scores.{is_failed}

-- the answer of a `Head(q)` of r
abbrev pub head_read : ℕ → ℕ → ℕ → Verb → Answer → Option ℕ
head_read r q by (Verb.Head p) (Answer.Number x) = if (by == r) && (p == q) then Some x else None
head_read r q by _ _ = None

-- the head of q that r read last, else 0
abbrev pub last_head : ℕ → ℕ → List Event → ℕ
last_head r q past = or_zero (newest (λ e. head_read r q e.by e.verb e.answer) past)

-- how many places a replica's own offers leave free for marks
abbrev pub reserve : Config → ℕ
reserve c = if c.version == 2 then c.replicas else 0

-- the last head read of every replica without a known mark leaves room for position i and for
-- `free` more
abbrev pub has_room : Config → ℕ → List Event → ℕ → ℕ → Bool
has_room c r past i free =
    all_below c.replicas
    (λ q. marked c q (known c r past) || nat_lt (i + free) (last_head r q past + c.ring))

-- the head, if there is one, and the ring do not reach above the limit
abbrev pub lacks_room : Config → ℕ → Option ℕ → Bool
lacks_room c limit None = false
lacks_room c limit (Some h) = nat_le (h + c.ring) limit

-- in the leadership a head of q was read that leaves no room, and q was failed right after it
abbrev pub is_mark_candidate : Config → ℕ → ℕ → ℕ → List Event → Bool
is_mark_candidate c r q limit [] = false
is_mark_candidate c r q limit (e ∷ past) =
    if begins_leadership r e then false
    else ((lacks_room c limit (head_read r q e.by e.verb e.answer) && is_failed r q (e ∷ past))
    || is_mark_candidate c r q limit past)
