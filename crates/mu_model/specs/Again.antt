-- foreign row, astray, asks again: when a leader asks again though its leadership isn't over: it
-- saw the region of a replica that it doesn't hold failed granted to another, 16 times in a row.
--
-- Only eager nodes do so. Each time begins a new leadership and a new row, and no limit is set to
-- how often it happens.
use Rattle.std.specs.Prelude.{Bool, List, None, Some, [], false, if◌then◌else◌, is_some, nat_le, nat_lt, not, ℕ, ◌&&◌, ◌+◌, ◌==◌, ◌∷◌}
use Rattle.std.specs.declared.option.Option.{Option}
use Rattle.mu_model.specs.declared.config.Config.{Config}
use Rattle.mu_model.specs.declared.event.Event.{Event}
use Rattle.mu_model.specs.declared.event.Fence.{Fence}
use Rattle.mu_model.specs.Histories.{count_below}
use Rattle.mu_model.specs.Leaderships.{begins_leadership, fence_seen, is_member, is_over, proposal_number}
use Rattle.mu_model.specs.Scores.{is_failed}

-- there is an owner, and it is another than r
abbrev pub owner_is_other : ℕ → Option ℕ → Bool
owner_is_other r None = false
owner_is_other r (Some w) = not (w == r)

-- the fence is open, and granted to another than r
abbrev pub is_foreign : ℕ → Fence → Bool
is_foreign r f = not f.closing && owner_is_other r f.owner

-- the length of a row after one more: it isn't counted beyond 16
abbrev pub one_more : ℕ → ℕ
one_more k = if nat_lt k 16 then k + 1 else k

-- the length of the row after what was seen of the fence, by whether the leadership has its number
abbrev pub row_with : ℕ → Bool → Option Fence → ℕ → ℕ
row_with r numbered None k = k
row_with r numbered (Some f) k = if numbered then (if is_foreign r f then one_more k else 0) else k

-- how many times in a row, under the number of its leadership, r saw that the region p is open and
-- granted to another: 16 stands for as many or more
abbrev pub foreign_row : ℕ → ℕ → List Event → ℕ
foreign_row r p [] = 0
foreign_row r p (e ∷ past) =
    if begins_leadership r e then 0
    else row_with r (is_some (proposal_number r past)) (fence_seen r p e.by e.verb e.answer)
    (foreign_row r p past)

-- the region p has gone astray: it is no member, its host isn't held to be failed, and it was
-- foreign 16 times in a row
abbrev pub is_astray : ℕ → List Event → ℕ → Bool
is_astray r past p =
    not (is_member r p past) && (not (is_failed r p past) && nat_le 16 (foreign_row r p past))

-- a leadership of r has its number, and is not over
abbrev pub is_numbered : ℕ → List Event → Bool
is_numbered r past = is_some (proposal_number r past) && not (is_over r past)

-- some region has gone astray of a leadership that goes on under its number
abbrev pub asks_again : Config → ℕ → List Event → Bool
asks_again c r past =
    is_numbered r past && nat_lt 0 (count_below c.replicas (λ p. is_astray r past p))
