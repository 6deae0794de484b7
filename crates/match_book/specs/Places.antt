-- placing, arranged, in order: by the bytes of the symbol; buys before sells; the better price;
-- then the earlier arrival.
--
-- crosses: the order and a resting one are of one symbol and of opposite sides, and the buy price
-- is at least the sell price.
use Rattle.std.specs.Prelude.{ℕ, ◌≡◌, ◌==◌, ⊤, Bool, false, true, not, ◌&&◌, List, [], ◌∷◌, ◌++◌, filter, nat_le}
use Rattle.std.specs.declared.cmp.Ordering.{Ordering}
use Rattle.std.specs.declared.cmp.Ordering.TheVariants.{Less, Equal, Greater}
use Rattle.std.specs.Ordering.{is_lt, nat_cmp, ordering_then}
use Rattle.std.specs.Cmp.Lexicographic.{slice_cmp}
use Rattle.std.specs.List.{AllByRecursion}
use Rattle.std.specs.Str.{bytes_eq}
use Rattle.match_book.specs.declared.order.Id.{Id}
use Rattle.match_book.specs.declared.order.Resting.{Resting}
use Rattle.match_book.specs.declared.order.Side.{Side}
use Rattle.match_book.specs.declared.order.Side.TheVariants.{Buy, Sell}

-- the same order
abbrev pub is_same : Id → Id → Bool
is_same one another = one.client == another.client && one.number == another.number

-- the same side
abbrev pub is_equal_side : Side → Side → Bool
is_equal_side Buy Buy = true
is_equal_side Buy Sell = false
is_equal_side Sell Buy = false
is_equal_side Sell Sell = true

-- the side that a side trades with
abbrev pub other : Side → Side
other Buy = Sell
other Sell = Buy

-- buys come before sells
abbrev pub side_placing : Side → Side → Ordering
side_placing Buy Buy = Equal
side_placing Buy Sell = Less
side_placing Sell Buy = Greater
side_placing Sell Sell = Equal

-- on one side the better price comes first: the higher one of buys, the lower one of sells
abbrev pub price_placing : Side → ℕ → ℕ → Ordering
price_placing Buy price another = nat_cmp another price
price_placing Sell price another = nat_cmp price another

-- by the bytes of the symbol, then buys before sells, then the better price
abbrev pub placing : Resting → Resting → Ordering
placing one another =
    ordering_then (slice_cmp nat_cmp one.symbol another.symbol)
    (ordering_then (side_placing one.side another.side)
    (price_placing one.side one.price another.price))

-- one order is before another, whichever arrived earlier
abbrev pub goes_first : Resting → Resting → Bool
goes_first one another = is_lt (placing one another)

-- the stated arrangement of orders that stand in order of arrival: the order that arrived first
-- stands after those that go before it and before all others, so that it is before later ones of
-- its symbol, side and price
abbrev pub arranged : List Resting → List Resting
arranged [] = []
arranged (first ∷ later) =
    filter (λ order. goes_first order first) (arranged later) ++ first
    ∷ filter (λ order. not (goes_first order first)) (arranged later)

-- no order of the list goes before an earlier one
abbrev pub IsInOrder : List Resting → Type 0
IsInOrder [] = ⊤
IsInOrder (first ∷ orders) =
    AllByRecursion (λ order. goes_first order first ≡ false) orders × IsInOrder orders

-- a price to buy at is at least a price to sell at
abbrev pub meet : Side → ℕ → ℕ → Bool
meet Buy buy sell = nat_le sell buy
meet Sell sell buy = nat_le sell buy

-- the order crosses a resting one: it has the same symbol and the other side, and the buy price is
-- at least the sell price
abbrev pub crosses : Resting → Resting → Bool
crosses order resting =
    (bytes_eq resting.symbol order.symbol && is_equal_side resting.side (other order.side))
    && meet order.side order.price resting.price
