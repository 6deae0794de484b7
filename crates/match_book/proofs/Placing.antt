-- The placing of orders is a total order.
use Rattle.std.proofs.Common.{◌≡◌, ℕ, true, false, not, ◌&&◌, List, nat_le, arith, Ordering, Less, Equal, Greater, refl, sym, ap, ◌∙◌}
use Rattle.std.specs.Ordering.{is_eq, is_lt, nat_cmp, ordering_reverse, ordering_then}
use Rattle.std.specs.Cmp.{IsStrictWeakOrder, IsTotalOrder}
use Rattle.std.specs.Cmp.Lexicographic.{slice_cmp, texts_ties}
use Rattle.std.proofs.lemmas.Cmp.{alike_right, nat_cmp_total, nat_list_cmp_total, on_total, then_total}
use Rattle.std.proofs.lemmas.List.Sorted.{ranks_by}
use Rattle.match_book.specs.declared.order.Resting.{Resting}
use Rattle.match_book.specs.declared.order.Side.{Side}
use Rattle.match_book.specs.declared.order.Side.TheVariants.{Buy, Sell}
use Rattle.match_book.specs.Places.{crosses, goes_first, is_equal_side, meet, other, placing, price_placing, side_placing}
use Rattle.match_book.specs.Filling.{is_ahead}
use Rattle.match_book.proofs.Parting.{not_both, by_cases}
use Rattle.std.proofs.lemmas.Bool.Decides.{nat_tests}

-- only the side and the price
abbrev offer_placing : Side × ℕ → Side × ℕ → Ordering
offer_placing one another = ordering_then (side_placing one.0 another.0) (price_placing one.0 one.1 another.1)

offer_antisymm : (s t : Side) (p q : ℕ) → offer_placing (s, p) (t, q) ≡ ordering_reverse (offer_placing (t, q) (s, p))
offer_antisymm Buy Buy p q = nat_cmp_total.antisymm q p
offer_antisymm Buy Sell p q = refl
offer_antisymm Sell Buy p q = refl
offer_antisymm Sell Sell p q = nat_cmp_total.antisymm p q

offer_trans : (s t u : Side) (p q r : ℕ) → offer_placing (s, p) (t, q) ≡ Less → offer_placing (t, q) (u, r) ≡ Less → offer_placing (s, p) (u, r) ≡ Less
offer_trans Buy Buy Buy p q r e f = nat_cmp_total.trans r q p f e
offer_trans Buy Buy Sell p q r e f = refl
offer_trans Buy Sell Buy p q r e f = cc
offer_trans Buy Sell Sell p q r e f = refl
offer_trans Sell Buy u p q r e f = cc
offer_trans Sell Sell Buy p q r e f = cc
offer_trans Sell Sell Sell p q r e f = nat_cmp_total.trans p q r e f

offer_congr : (s t u : Side) (p q r : ℕ) → offer_placing (s, p) (t, q) ≡ Equal → offer_placing (s, p) (u, r) ≡ offer_placing (t, q) (u, r)
offer_congr Buy Buy Buy p q r e = sym (alike_right nat_cmp_total q p r e)
offer_congr Buy Buy Sell p q r e = refl
offer_congr Buy Sell u p q r e = cc
offer_congr Sell Buy u p q r e = cc
offer_congr Sell Sell Buy p q r e = refl
offer_congr Sell Sell Sell p q r e = nat_cmp_total.congr p q r e

offers_total : IsTotalOrder offer_placing
offers_total = record {
  antisymm = λ x y. offer_antisymm x.0 y.0 x.1 y.1;
  trans = λ x y z e f. offer_trans x.0 y.0 z.0 x.1 y.1 z.1 e f;
  congr = λ x y z e. offer_congr x.0 y.0 z.0 x.1 y.1 z.1 e;
}

pub placing_total : IsTotalOrder placing
placing_total = then_total (on_total (λ (r : Resting). r.symbol) nat_list_cmp_total) (on_total (λ (r : Resting). (r.side, r.price)) offers_total)

-- so going first is a strict weak order
pub goes_first_weak : IsStrictWeakOrder goes_first
goes_first_weak = ranks_by placing_total (λ (r : Resting). r)

sides_antisymm : (s t : Side) → side_placing s t ≡ ordering_reverse (side_placing t s)
sides_antisymm Buy Buy = refl
sides_antisymm Buy Sell = refl
sides_antisymm Sell Buy = refl
sides_antisymm Sell Sell = refl

sides_trans : (s t u : Side) → side_placing s t ≡ Less → side_placing t u ≡ Less → side_placing s u ≡ Less
sides_trans Buy t Sell e f = refl
sides_trans Buy Buy Buy e f = cc
sides_trans Buy Sell Buy e f = cc
sides_trans Sell Buy u e f = cc
sides_trans Sell Sell u e f = cc

sides_congr : (s t u : Side) → side_placing s t ≡ Equal → side_placing s u ≡ side_placing t u
sides_congr Buy Buy u e = refl
sides_congr Buy Sell u e = cc
sides_congr Sell Buy u e = cc
sides_congr Sell Sell u e = refl

-- only the symbol and the side
abbrev spot_placing : List ℕ × Side → List ℕ × Side → Ordering
spot_placing one another = ordering_then (slice_cmp nat_cmp one.0 another.0) (side_placing one.1 another.1)

spots_total : IsTotalOrder spot_placing
spots_total = then_total (on_total (λ (x : List ℕ × Side). x.0) nat_list_cmp_total) (on_total (λ (x : List ℕ × Side). x.1) (record { antisymm = sides_antisymm; trans = sides_trans; congr = sides_congr }))

spots_weak : IsStrictWeakOrder (λ one another. is_lt (spot_placing one another))
spots_weak = ranks_by spots_total (λ (x : List ℕ × Side). x)

not_before_spot : (o s p : Ordering) → is_lt (ordering_then o (ordering_then s p)) ≡ false → is_lt (ordering_then o s) ≡ false
not_before_spot Less s p e = e
not_before_spot Equal Less p e = e
not_before_spot Equal Equal p e = refl
not_before_spot Equal Greater p e = refl
not_before_spot Greater s p e = refl

-- what isn't placed after an order that stands ahead of a symbol and side does so too
pub ahead_closed : (symbol : List ℕ) (side : Side) (one another : Resting) → goes_first another one ≡ false → is_ahead symbol side another ≡ true → is_ahead symbol side one ≡ true
ahead_closed symbol side one another after ahead =
    let spot : is_lt (spot_placing (another.symbol, another.side) (one.symbol, one.side)) ≡ false = not_before_spot (slice_cmp nat_cmp another.symbol one.symbol) (side_placing another.side one.side) (price_placing another.side another.price one.price) after in
    by_cases (is_ahead symbol side one) (λ e. e) (λ e. not_both (is_ahead symbol side another) ahead (spots_weak.chain (another.symbol, another.side) (one.symbol, one.side) (symbol, side) spot e))

price_meets : (p q : ℕ) → nat_le q p ≡ not (is_lt (nat_cmp p q))
price_meets p q = grind (arith, nat_tests)

crosses_by : (o : Ordering) (s t : Side) (p q : ℕ) →
    ((is_eq o && is_equal_side t (other s)) && meet s p q) ≡ (not (is_lt (ordering_then o (side_placing t (other s)))) && not (is_lt (ordering_then (ordering_reverse o) (ordering_then (side_placing (other s) t) (price_placing (other s) p q)))))
crosses_by Less s t p q = refl
crosses_by Greater s t p q = refl
crosses_by Equal Buy Buy p q = refl
crosses_by Equal Buy Sell p q = price_meets p q
crosses_by Equal Sell Buy p q = price_meets q p
crosses_by Equal Sell Sell p q = refl

-- an order of the other side at the price of this one
abbrev pub mirror : Resting → Resting
mirror order = record { id = order.id; symbol = order.symbol; side = other order.side; price = order.price; left = order.left }

-- an order crosses those of the other side that its mirror doesn't go before
pub crosses_is : (order resting : Resting) → crosses order resting ≡ (not (is_ahead order.symbol (other order.side) resting) && not (goes_first (mirror order) resting))
crosses_is order resting =
    let o = slice_cmp nat_cmp resting.symbol order.symbol in
    ap (λ b. (b && is_equal_side resting.side (other order.side)) && meet order.side order.price resting.price) (texts_ties resting.symbol order.symbol)
    ∙ crosses_by o order.side resting.side order.price resting.price
    ∙ ap (λ r. not (is_lt (ordering_then o (side_placing resting.side (other order.side)))) && not (is_lt (ordering_then r (ordering_then (side_placing (other order.side) resting.side) (price_placing (other order.side) order.price resting.price))))) (sym (nat_list_cmp_total.antisymm order.symbol resting.symbol))
