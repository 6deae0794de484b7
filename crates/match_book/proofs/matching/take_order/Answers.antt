use Rattle.std.proofs.Common.{◌≡◌, ℕ, ◌+◌, ◌<◌, ◌++◌, ◌∷◌, ◌==◌, false, not, cond, List, take, drop, sym, ap, subst, ◌∙◌, arith}
use Rattle.std.specs.List.{filter}
use Rattle.std.proofs.lemmas.Bool.Decides.{nat_tests}
use Rattle.match_book.specs.declared.order.Resting.{Resting}
use Rattle.match_book.specs.declared.order.Side.{Side}
use Rattle.match_book.specs.Filling.{before_others, filled, from_others, is_ahead, rested}
use Rattle.match_book.specs.Ledgers.{leaving}
use Rattle.match_book.specs.Places.{IsInOrder, goes_first, other}
use Rattle.match_book.proofs.Arranging.{closed_ahead, parted}
use Rattle.match_book.proofs.Filling.{filled_in_order}
use Rattle.match_book.proofs.matching.take_order.Goals as goal

front_is : (order : Resting) (side : Side) (start : ℕ) (orders lent : List Resting) → lent ≡ orders → side ≡ other order.side → take start lent ≡ filter (is_ahead order.symbol side) lent → take start orders ≡ before_others order orders
front_is order side start orders lent same is e = ap (take start) (sym same) ∙ e ∙ ap (λ s. filter (is_ahead order.symbol s) lent) is ∙ ap (before_others order) same

back_is : (order : Resting) (side : Side) (start : ℕ) (orders lent : List Resting) → lent ≡ orders → side ≡ other order.side → drop start lent ≡ filter (λ resting. not (is_ahead order.symbol side resting)) lent → drop start orders ≡ from_others order orders
back_is order side start orders lent same is e = ap (drop start) (sym same) ∙ e ∙ ap (λ s. filter (λ resting. not (is_ahead order.symbol s resting)) lent) is ∙ ap (from_others order) same

abbrev put_in : Resting → ℕ → List Resting → List Resting
put_in order left orders = filter (λ resting. not (goes_first (leaving order left) resting)) orders ++ leaving order left ∷ filter (goes_first (leaving order left)) orders

rested_some : (order : Resting) (left : ℕ) (orders : List Resting) → 0 < left → put_in order left orders ≡ rested order left orders
rested_some order left orders some =
    let more : (left == 0) ≡ false = grind (arith, nat_tests) in
    sym (ap (λ b. cond b orders (put_in order left orders)) more)

pub returns-then-left-gt0-clause-items : goal.returns-then-left-gt0-clause-items
returns-then-left-gt0-clause-items c = λ is.
    let order = c.args.order in
    let orders = c.args.resting.now.items in
    let lent : IsInOrder c.deref.result.now = subst IsInOrder (sym c.deref.ensures.value) is in
    let front = front_is order c.other.result c.first_of-start.result orders c.deref.result.now c.deref.ensures.value c.other.ensures (c.first_of-start.ensures.front lent) in
    let back = back_is order c.other.result c.first_of-start.result orders c.deref.result.now c.deref.ensures.value c.other.ensures (c.first_of-start.ensures.back lent) in
    let queue = c.fill-whole.ensures.queue ∙ ap (λ xs. (filled c.args.index order order.left xs).queue) back in
    let left = c.fill-whole.ensures.left ∙ ap (λ xs. (filled c.args.index order order.left xs).left) back in
    let stays = before_others order orders ++ (filled c.args.index order order.left (from_others order orders)).queue in
    let kept : c.forget.new.resting.items ≡ stays =
    c.forget.ensures.items
    ∙ ap (λ xs. xs ++ drop (c.first_of-start.result + c.fill-whole.result.whole) c.fill-whole.new.resting.items) (c.fill-whole.ensures.front ∙ front)
    ∙ ap (λ xs. before_others order orders ++ xs) queue in
    let whole : IsInOrder (before_others order orders ++ from_others order orders) = subst IsInOrder (sym (parted (is_ahead order.symbol (other order.side)) (closed_ahead order.symbol (other order.side)) orders is)) is in
    let in_order : IsInOrder stays = filled_in_order c.args.index order order.left (before_others order orders) (from_others order orders) whole in
    c.rest.ensures.items (subst IsInOrder (sym kept) in_order)
    ∙ ap (put_in order c.fill-whole.result.left) kept
    ∙ rested_some order c.fill-whole.result.left stays c.if-left-gt0.true
    ∙ ap (λ n. rested order n stays) left
