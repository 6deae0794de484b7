-- filled, rested: what an order gives that is filled from a list in order (only for private
-- contracts of `match_book`).
use Rattle.std.specs.Prelude.{ℕ, ◌-◌, ◌==◌, ◌&&◌, ◌++◌, Bool, not, filter, if◌then◌else◌, List, [], ◌∷◌, nat_lt}
use Rattle.std.specs.Ordering.{is_lt, nat_cmp, ordering_then}
use Rattle.std.specs.Cmp.Lexicographic.{slice_cmp}
use Rattle.match_book.specs.declared.order.Resting.{Resting}
use Rattle.match_book.specs.declared.order.Side.{Side}
use Rattle.match_book.specs.declared.order.Trade.{Trade}
use Rattle.match_book.specs.Ledgers.{leaving, trade_with}
use Rattle.match_book.specs.Places.{crosses, goes_first, other, side_placing}

-- the order stands before all of this symbol and side
abbrev pub is_ahead : List ℕ → Side → Resting → Bool
is_ahead symbol side order =
    is_lt (ordering_then (slice_cmp nat_cmp order.symbol symbol) (side_placing order.side side))

-- the orders before those of the other side of the order's symbol, and the orders from there on
abbrev pub before_others : Resting → List Resting → List Resting
before_others order orders = filter (is_ahead order.symbol (other order.side)) orders

abbrev pub from_others : Resting → List Resting → List Resting
from_others order orders =
    filter (λ resting. not (is_ahead order.symbol (other order.side) resting)) orders

-- what filling an order comes to: its trades, what is left of it, and the list that stays
pub record Filled : Type 0 where
  pub trades : List Trade
  pub left : ℕ
  pub queue : List Resting

-- one more trade before those that follow
abbrev pub led_by : Trade → Filled → Filled
led_by trade rest = record { trades = trade ∷ rest.trades; left = rest.left; queue = rest.queue }

-- an order with `left` left trades with those at the front that it crosses
abbrev pub filled : ℕ → Resting → ℕ → List Resting → Filled
filled index order left [] = record { trades = []; left = left; queue = [] }
filled index order left (best ∷ queue) =
    if nat_lt 0 left && crosses order best then
    (if nat_lt left best.left
    then record {
      trades = trade_with index order best left ∷ [];
      left = 0;
      queue = leaving best (best.left - left) ∷ queue;
    }
    else led_by (trade_with index order best best.left)
    (filled index order (left - best.left) queue))
    else record { trades = []; left = left; queue = best ∷ queue }

-- orders in the stated arrangement with what is left of one more, if something is
abbrev pub rested : Resting → ℕ → List Resting → List Resting
rested order left orders =
    if left == 0 then orders
    else filter (λ resting. not (goes_first (leaving order left) resting)) orders
    ++ leaving order left
    ∷ filter (goes_first (leaving order left)) orders
