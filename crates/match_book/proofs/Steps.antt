-- The step of an order, on the arrangement.
use Rattle.std.proofs.Common.{◌≡◌, ℕ, ◌-◌, ◌<◌, ◌≤◌, ◌==◌, true, false, not, ◌&&◌, cond, List, [], ◌∷◌, ◌++◌, sym, ap, subst, ◌∙◌, arith, append-nil}
use Rattle.std.specs.List.{AllByRecursion, cons_option, filter, filter_map}
use Rattle.std.proofs.lemmas.Bool.Decides.{nat_tests}
use Rattle.std.proofs.lemmas.List.Elements.{filter-append, filter_map-append}
use Rattle.match_book.specs.declared.order.Resting.{Resting}
use Rattle.match_book.specs.Filling.{Filled, before_others, filled, from_others, is_ahead, rested}
use Rattle.match_book.specs.Ledgers.{IsMatched, Ledger, after_trades, leaving, queue_for, remaining, traded, trades_with, with_left}
use Rattle.match_book.specs.Places.{arranged, crosses, goes_first, is_same, other}
use Rattle.match_book.proofs.Parting.{all_back, all_fail, all_filter, all_front, by_cases, filters_clash}
use Rattle.match_book.proofs.Placing.{crosses_is, mirror}
use Rattle.match_book.proofs.Arranging.{arranged_in_order, arranged_last, arranged_lessened, closed_ahead, in_order_filter, parted, with_last}
use Rattle.match_book.proofs.Trading.{HaveSomeLeft, amounts, amounts_are_traded, filled_trades}
use Rattle.match_book.proofs.Remaining.{AreDifferent, IsApart, all_remain, remaining_filled, remaining_lessens, same_turn, traded_none, traded_own, with_none, with_some}
use Rattle.match_book.proofs.Sound.{all_arranged}

-- the arrangement, before and from the orders of the other side
pub arranged_parts : (order : Resting) (book : List Resting) → before_others order (arranged book) ++ from_others order (arranged book) ≡ arranged book
arranged_parts order book = parted (is_ahead order.symbol (other order.side)) (closed_ahead order.symbol (other order.side)) (arranged book) (arranged_in_order book)

-- nothing that stands ahead is crossed
pub ahead_uncrossed : (order resting : Resting) → is_ahead order.symbol (other order.side) resting ≡ true → crosses order resting ≡ false
ahead_uncrossed order resting ahead = crosses_is order resting ∙ ap (λ b. not b && not (goes_first (mirror order) resting)) ahead

queue_is : (order : Resting) (book : List Resting) → filter (crosses order) (from_others order (arranged book)) ≡ queue_for order book
queue_is order book =
    let front = before_others order (arranged book) in
    let back = from_others order (arranged book) in
    let none : filter (crosses order) front ≡ [] = filters_clash (crosses order) (is_ahead order.symbol (other order.side)) (ahead_uncrossed order) (arranged book) in
    sym (ap (filter (crosses order)) (sym (arranged_parts order book)) ∙ filter-append (crosses order) front back ∙ ap (λ xs. xs ++ filter (crosses order) back) none)

-- what filling the order from the arrangement comes to
abbrev pub filled_in : ℕ → Resting → List Resting → Filled
filled_in index order book = filled index order order.left (from_others order (arranged book))

-- its trades are those of the step
pub filled_is_step : (index : ℕ) (order : Resting) (book : List Resting) → (filled_in index order book).trades ≡ trades_with index order (queue_for order book) (amounts order.left (queue_for order book))
filled_is_step index order book =
    let ahead = λ (o : Resting). is_ahead order.symbol (other order.side) o in
    filled_trades index order order.left (from_others order (arranged book)) (in_order_filter (λ o. not (ahead o)) (arranged book) (arranged_in_order book)) (all_fail ahead (arranged book))
    ∙ ap (λ xs. trades_with index order xs (amounts order.left xs)) (queue_is order book)

-- so the ledger with these trades is after the step
pub filled_matches : (order : Resting) (before : Ledger) → HaveSomeLeft before.book → IsMatched order before (after_trades order (filled_in before.applied order before.book).trades before)
filled_matches order before some = record {
  quantities = amounts order.left (queue_for order before.book);
  are_traded = amounts_are_traded order.left (queue_for order before.book) (all_filter (λ (o : Resting). 1 ≤ o.left) (crosses order) (arranged before.book) (all_arranged (λ (o : Resting). 1 ≤ o.left) before.book some));
  is = ap (λ trades. after_trades order trades before) (filled_is_step before.applied order before.book);
}

different_back : (front back : List Resting) → AreDifferent (front ++ back) → AreDifferent back
different_back [] back different = different
different_back (order ∷ front) back different = different_back front back different.1

front_untraded : (index : ℕ) (order : Resting) (left : ℕ) (front back : List Resting) → IsApart order.id front → AreDifferent (front ++ back) → AllByRecursion (λ (o : Resting). traded o.id (filled index order left back).trades ≡ 0) front
front_untraded index order left [] back own different = tt
front_untraded index order left (o ∷ front) back own different = (
  traded_none o.id index order left back (same_turn o.id order.id ∙ own.0) (all_back (λ (r : Resting). is_same o.id r.id ≡ false) front back different.0),
  front_untraded index order left front back own.1 different.1,
)

-- of the arrangement the trades leave what the filling leaves
pub arranged_remaining : (index : ℕ) (order : Resting) (book : List Resting) → IsApart order.id (arranged book) → AreDifferent (arranged book) → HaveSomeLeft (arranged book) →
    filter_map (remaining (filled_in index order book).trades) (arranged book) ≡ before_others order (arranged book) ++ (filled_in index order book).queue
arranged_remaining index order book own different some =
    let front = before_others order (arranged book) in
    let back = from_others order (arranged book) in
    let h = remaining (filled_in index order book).trades in
    let parts = sym (arranged_parts order book) in
    let own' = subst (IsApart order.id) parts own in
    let different' = subst AreDifferent parts different in
    let some' = subst HaveSomeLeft parts some in
    let P = λ (r : Resting). is_same order.id r.id ≡ false in
    let Q = λ (r : Resting). 1 ≤ r.left in
    ap (filter_map h) parts
    ∙ filter_map-append h front back
    ∙ ap (λ xs. xs ++ filter_map h back) (all_remain (filled_in index order book).trades front (front_untraded index order order.left front back (all_front P front back own') different') (all_front Q front back some'))
    ∙ ap (λ xs. front ++ xs) (remaining_filled index order order.left back (all_back P front back own') (different_back front back different') (all_back Q front back some'))

rested_is : (order : Resting) (left : ℕ) (book : List Resting) → arranged (book ++ cons_option (with_left order left) []) ≡ rested order left (arranged book)
rested_is order left book =
    by_cases (left == 0)
    (λ e. let none : left ≡ 0 = grind (arith, nat_tests) in
    ap (λ o. arranged (book ++ cons_option o [])) (with_none order left none) ∙ ap arranged (append-nil book) ∙ sym (ap (λ b. cond b (arranged book) (with_last (leaving order left) (arranged book))) e))
    (λ e. let more : 0 < left = grind (arith, nat_tests) in
    ap (λ o. arranged (book ++ cons_option o [])) (with_some order left more) ∙ arranged_last book (leaving order left) ∙ sym (ap (λ b. cond b (arranged book) (with_last (leaving order left) (arranged book))) e))

-- and the arrangement after the step is what the code keeps
pub matched_arranged : (index : ℕ) (order : Resting) (book : List Resting) → IsApart order.id (arranged book) → AreDifferent (arranged book) → HaveSomeLeft (arranged book) →
    arranged (filter_map (remaining (filled_in index order book).trades) (book ++ order ∷ [])) ≡ rested order (filled_in index order book).left (before_others order (arranged book) ++ (filled_in index order book).queue)
matched_arranged index order book own different some =
    let f = filled_in index order book in
    let h = remaining f.trades in
    let all = traded_own index order order.left (from_others order (arranged book)) in
    let left : order.left - traded order.id f.trades ≡ f.left = omega arith in
    ap arranged (filter_map-append h book (order ∷ []))
    ∙ ap (λ n. arranged (filter_map h book ++ cons_option (with_left order n) [])) left
    ∙ rested_is order f.left (filter_map h book)
    ∙ ap (rested order f.left) (arranged_lessened h (remaining_lessens f.trades) book ∙ arranged_remaining index order book own different some)
