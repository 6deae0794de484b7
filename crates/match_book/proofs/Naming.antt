-- The order that a cancel names: its place, and the orders without it.
use Rattle.std.proofs.Common.{◌≡◌, ℕ, zero, suc, ◌+◌, ◌≤◌, Bool, true, false, not, ◌&&◌, cond, List, [], ◌∷◌, length, take, drop, None, Some, refl, sym, ap, subst, ◌∙◌, arith}
use Rattle.std.specs.declared.cmp.Ordering.{Ordering}
use Rattle.std.specs.declared.cmp.Ordering.TheVariants.{Less, Equal, Greater}
use Rattle.std.specs.Cmp.Lexicographic.{slice_cmp, texts_ties}
use Rattle.std.specs.List.{AllByRecursion, filter, position, position_or_len, remove}
use Rattle.std.specs.Ordering.{is_eq, is_lt, nat_cmp, ordering_then}
use Rattle.std.specs.Str.{bytes_eq}
use lib.ListN.{length-drop}
use Rattle.std.proofs.lemmas.Grind.{common_steps}
use Rattle.std.proofs.lemmas.Slice.Eq.{bytes_eq-Decides}
use Rattle.match_book.specs.declared.order.Id.{Id}
use Rattle.match_book.specs.declared.order.Resting.{Resting}
use Rattle.match_book.specs.declared.order.Side.{Side}
use Rattle.match_book.specs.declared.order.Side.TheVariants.{Buy, Sell}
use Rattle.match_book.specs.Filling.{is_ahead}
use Rattle.match_book.specs.Ledgers.{is_named}
use Rattle.match_book.specs.Places.{is_same, side_placing}
use Rattle.match_book.proofs.Parting.{all_imply, all_pass, not_both, by_cases, filter_all}
use Rattle.match_book.proofs.Remaining.{AreDifferent, IsApart, same_ids}
use Rattle.std.proofs.lemmas.Bool.{and_parts}
use Rattle.match_book.proofs.Trading.{and_false}

equal_not_ahead : (o : Ordering) (side : Side) → is_eq o ≡ true → is_lt (ordering_then o (side_placing side Buy)) ≡ false
equal_not_ahead Less side e = cc
equal_not_ahead Greater side e = cc
equal_not_ahead Equal Buy e = refl
equal_not_ahead Equal Sell e = refl

-- no order of a symbol stands ahead of the symbol
pub named_not_ahead : (id : Id) (symbol : List ℕ) (order : Resting) → is_ahead symbol Buy order ≡ true → is_named id symbol order ≡ false
named_not_ahead id symbol order ahead =
    by_cases (bytes_eq symbol order.symbol)
    (λ e.
    let same : symbol ≡ order.symbol = (bytes_eq-Decides symbol order.symbol).0 e in
    let tie : bytes_eq order.symbol symbol ≡ true = (bytes_eq-Decides order.symbol symbol).1 (sym same) in
    let equal : is_eq (slice_cmp nat_cmp order.symbol symbol) ≡ true = sym (texts_ties order.symbol symbol) ∙ tie in
    not_both (is_ahead symbol Buy order) ahead (equal_not_ahead (slice_cmp nat_cmp order.symbol symbol) order.side equal))
    (λ e. ap (λ b. is_same id order.id && b) e ∙ and_false (is_same id order.id))

others_unnamed : (id : Id) (symbol : List ℕ) (order : Resting) (orders : List Resting) → is_named id symbol order ≡ true → IsApart order.id orders → AllByRecursion (λ o. not (is_named id symbol o) ≡ true) orders
others_unnamed id symbol order orders named apart =
    let same : id ≡ order.id = same_ids id order.id (and_parts (is_same id order.id) (bytes_eq symbol order.symbol) named).0 in
    all_imply (λ o. is_same order.id o.id ≡ false) (λ o. not (is_named id symbol o) ≡ true)
    (λ o e. ap not (ap (λ b. b && bytes_eq symbol o.symbol) (subst (λ i. is_same i o.id ≡ false) (sym same) e))) orders apart

-- of different orders, those without the named one are the list without its place
pub filter_named : (id : Id) (symbol : List ℕ) (orders : List Resting) → AreDifferent orders → filter (λ o. not (is_named id symbol o)) orders ≡ remove orders (position_or_len (is_named id symbol) orders)
filter_named id symbol [] different = refl
filter_named id symbol (order ∷ orders) different =
    let p = λ (o : Resting). is_named id symbol o in
    let n = position_or_len p orders in
    let rest = λ (b : Bool). cond (not b) (order ∷ filter (λ o. not (p o)) orders) (filter (λ o. not (p o)) orders) in
    let place = λ (b : Bool). cond (not b) (1 + n) 0 in
    by_cases (p order)
    (λ e. ap rest e ∙ filter_all (λ o. not (p o)) orders (others_unnamed id symbol order orders e different.0) ∙ sym (ap (λ b. remove (order ∷ orders) (place b)) e))
    (λ e. let next : 1 + n ≡ suc n = omega arith in ap rest e ∙ ap (λ xs. order ∷ xs) (filter_named id symbol orders different.1) ∙ sym (ap (λ b. remove (order ∷ orders) (place b)) e ∙ ap (remove (order ∷ orders)) next))

-- behind a front without it
pub placed_behind : {X : Type 0} (p : X → Bool) (start : ℕ) (xs : List X) → start ≤ length xs → AllByRecursion (λ x. p x ≡ false) (take start xs) → position_or_len p xs ≡ start + position_or_len p (drop start xs)
placed_behind p zero xs le front = omega arith
placed_behind p (suc start) [] le front = absurd (omega arith)
placed_behind p (suc start) (x ∷ xs) le front =
    let here : position_or_len p (x ∷ xs) ≡ 1 + position_or_len p xs = ap (λ b. cond (not b) (1 + position_or_len p xs) 0) front.0 in
    let rest = placed_behind p start xs (omega arith) front.1 in
    omega arith

-- the orders ahead of the symbol are others
pub unnamed_front : (id : Id) (symbol : List ℕ) (orders : List Resting) (start : ℕ) → take start orders ≡ filter (is_ahead symbol Buy) orders → AllByRecursion (λ o. is_named id symbol o ≡ false) (take start orders)
unnamed_front id symbol orders start is =
    subst (AllByRecursion (λ o. is_named id symbol o ≡ false)) (sym is)
    (all_imply (λ o. is_ahead symbol Buy o ≡ true) (λ o. is_named id symbol o ≡ false) (named_not_ahead id symbol) (filter (is_ahead symbol Buy) orders) (all_pass (is_ahead symbol Buy) orders))

-- found behind such a front
pub found_behind : {X : Type 0} (p : X → Bool) (start i : ℕ) (xs : List X) → start ≤ length xs → AllByRecursion (λ x. p x ≡ false) (take start xs) → position p (drop start xs) ≡ Some i → position_or_len p xs ≡ start + i
found_behind p start i xs le front found =
    let behind = placed_behind p start xs le front in
    let at : position_or_len p (drop start xs) ≡ i = grind (arith, common_steps) in
    omega arith

-- and not found there
pub found_nowhere : {X : Type 0} (p : X → Bool) (start : ℕ) (xs : List X) → start ≤ length xs → AllByRecursion (λ x. p x ≡ false) (take start xs) → position p (drop start xs) ≡ None → length xs ≤ position_or_len p xs
found_nowhere p start xs le front found =
    let behind = placed_behind p start xs le front in
    let all : length (drop start xs) ≤ position_or_len p (drop start xs) = grind (arith, common_steps) in
    omega (arith, length-drop start xs)

-- if none is named the list stays
pub remove_none : {X : Type 0} (xs : List X) (i : ℕ) → length xs ≤ i → remove xs i ≡ xs
remove_none [] zero le = refl
remove_none [] (suc i) le = refl
remove_none (x ∷ xs) zero le = absurd (omega arith)
remove_none (x ∷ xs) (suc i) le = ap (λ ys. x ∷ ys) (remove_none xs i (omega arith))
