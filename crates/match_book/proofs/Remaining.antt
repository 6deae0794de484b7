-- What the trades of a filling leave of the orders.
use Rattle.std.proofs.Common.{◌≡◌, inl, inr, ℕ, ◌+◌, ◌-◌, ◌<◌, ◌≤◌, ◌==◌, Bool, true, false, ◌&&◌, ◌||◌, cond, List, [], ◌∷◌, None, Some, refl, sym, ap, subst, ◌∙◌, arith}
use Rattle.std.specs.List.{AllByRecursion, cons_option, filter_map}
use Rattle.std.proofs.lemmas.Bool.Decides.{Decides-eqb, nat_tests}
use Rattle.std.proofs.lemmas.List.Sums.{sum_by-cons}
use Rattle.match_book.specs.declared.order.Id.{Id}
use Rattle.match_book.specs.declared.order.Resting.{Resting}
use Rattle.match_book.specs.declared.order.Side.{Side}
use Rattle.match_book.specs.declared.order.Side.TheVariants.{Buy, Sell}
use Rattle.match_book.specs.declared.order.Trade.{Trade}
use Rattle.match_book.specs.Filling.{filled}
use Rattle.match_book.specs.Ledgers.{buyer, leaving, remaining, takes_part, trade_with, traded, with_left}
use Rattle.match_book.specs.Places.{is_same}
use Rattle.match_book.proofs.Parting.{by_cases}
use Rattle.match_book.proofs.Arranging.{Lessens}
use Rattle.match_book.proofs.Filling.{filled_cases, filled_split}
use Rattle.match_book.proofs.Trading.{HaveSomeLeft}
use Rattle.std.proofs.lemmas.Bool.{and_parts}

pub same_number : (m n : ℕ) → (m == n) ≡ (n == m)
same_number m n = grind (arith, nat_tests)

-- being the same order goes both ways
pub same_turn : (one another : Id) → is_same one another ≡ is_same another one
same_turn one another = ap (λ b. b && one.number == another.number) (same_number one.client another.client) ∙ ap (λ b. another.client == one.client && b) (same_number one.number another.number)

pub same_itself : (id : Id) → is_same id id ≡ true
same_itself id = ap (λ b. b && id.number == id.number) ((Decides-eqb id.client id.client).1 refl) ∙ (Decides-eqb id.number id.number).1 refl

-- one id
pub same_ids : (one another : Id) → is_same one another ≡ true → one ≡ another
same_ids one another e =
    let parts = and_parts (one.client == another.client) (one.number == another.number) e in
    let client : one.client ≡ another.client = (Decides-eqb one.client another.client).0 parts.0 in
    let number : one.number ≡ another.number = (Decides-eqb one.number another.number).0 parts.1 in
    ap (λ n. record { client = n; number = one.number }) client ∙ ap (λ n. record { client = another.client; number = n }) number

or_turn : (a b : Bool) → (a || b) ≡ (b || a)
or_turn true true = refl
or_turn true false = refl
or_turn false true = refl
or_turn false false = refl

by_side : (id : Id) (side : Side) (one another : Id) → (is_same id (buyer side one another) || is_same id (buyer side another one)) ≡ (is_same id one || is_same id another)
by_side id Buy one another = refl
by_side id Sell one another = or_turn (is_same id another) (is_same id one)

-- the two orders of a trade take part in it, and no others
pub parts_of : (id : Id) (index : ℕ) (order resting : Resting) (quantity : ℕ) → takes_part id (trade_with index order resting quantity) ≡ (is_same id order.id || is_same id resting.id)
parts_of id index order resting quantity = by_side id order.side order.id resting.id

-- what one more trade adds to what an order traded
pub traded_more : (id : Id) (trade : Trade) (trades : List Trade) → traded id (trade ∷ trades) ≡ cond (takes_part id trade) trade.quantity 0 + traded id trades
traded_more id trade trades = sum_by-cons (λ (t : Trade). cond (takes_part id t) t.quantity 0) trade trades

pub traded_with : (id : Id) (index : ℕ) (order resting : Resting) (quantity : ℕ) (trades : List Trade) → traded id (trade_with index order resting quantity ∷ trades) ≡ cond (is_same id order.id || is_same id resting.id) quantity 0 + traded id trades
traded_with id index order resting quantity trades = traded_more id (trade_with index order resting quantity) trades ∙ ap (λ b. cond b quantity 0 + traded id trades) (parts_of id index order resting quantity)

-- the order isn't one of these
abbrev pub IsApart : Id → List Resting → Type 0
IsApart id orders = AllByRecursion (λ (order : Resting). is_same id order.id ≡ false) orders

neither : (a b : Bool) → a ≡ false → b ≡ false → (a || b) ≡ false
neither true b e f = cc
neither false b e f = f

first_of : (a b : Bool) → a ≡ true → (a || b) ≡ true
first_of true b e = refl
first_of false b e = cc

second_of : (a b : Bool) → b ≡ true → (a || b) ≡ true
second_of true b e = refl
second_of false b e = e

-- an order that is neither the filled one nor in the queue trades nothing
pub traded_none : (id : Id) (index : ℕ) (order : Resting) (left : ℕ) (queue : List Resting) → is_same id order.id ≡ false → IsApart id queue → traded id (filled index order left queue).trades ≡ 0
traded_none id index order left [] own apart = refl
traded_none id index order left (best ∷ queue) own apart =
    let others : (is_same id order.id || is_same id best.id) ≡ false = neither (is_same id order.id) (is_same id best.id) own apart.0 in
    let none = λ (quantity : ℕ) (trades : List Trade). traded_with id index order best quantity trades ∙ ap (λ b. cond b quantity 0 + traded id trades) others in
    filled_cases (λ f. traded id f.trades ≡ 0) index order best left queue
    (omega (arith, none left []))
    (omega (arith, none best.left (filled index order (left - best.left) queue).trades, traded_none id index order (left - best.left) queue own apart.1))
    refl

-- the filled order trades what it no longer has
pub traded_own : (index : ℕ) (order : Resting) (left : ℕ) (queue : List Resting) → traded order.id (filled index order left queue).trades + (filled index order left queue).left ≡ left
traded_own index order left [] = omega arith
traded_own index order left (best ∷ queue) =
    let both : (is_same order.id order.id || is_same order.id best.id) ≡ true = first_of (is_same order.id order.id) (is_same order.id best.id) (same_itself order.id) in
    let all = λ (quantity : ℕ) (trades : List Trade). traded_with order.id index order best quantity trades ∙ ap (λ b. cond b quantity 0 + traded order.id trades) both in
    filled_split (λ f. traded order.id f.trades + f.left ≡ left) index order best left queue
    (λ some c part. omega (arith, all left []))
    (λ some c whole. omega (arith, all best.left (filled index order (left - best.left) queue).trades, traded_own index order (left - best.left) queue))
    (λ stop. omega arith)

pub with_none : (order : Resting) (left : ℕ) → left ≡ 0 → with_left order left ≡ None
with_none order left e = ap (λ n. with_left order n) e

pub with_some : (order : Resting) (left : ℕ) → 0 < left → with_left order left ≡ Some (leaving order left)
with_some order left some = let more : (left == 0) ≡ false = grind (arith, nat_tests) in ap (λ b. cond b None (Some (leaving order left))) more

-- an order that traded nothing stays as it is
pub remaining_all : (trades : List Trade) (order : Resting) → traded order.id trades ≡ 0 → 1 ≤ order.left → remaining trades order ≡ Some order
remaining_all trades order none some =
    let same : order.left - traded order.id trades ≡ order.left = omega arith in
    ap (with_left order) same ∙ with_some order order.left some

pub all_remain : (trades : List Trade) (orders : List Resting) → AllByRecursion (λ (order : Resting). traded order.id trades ≡ 0) orders → HaveSomeLeft orders → filter_map (remaining trades) orders ≡ orders
all_remain trades [] none some = refl
all_remain trades (order ∷ orders) none some = ap (λ o. cons_option o (filter_map (remaining trades) orders)) (remaining_all trades order none.0 some.0) ∙ ap (λ rest. order ∷ rest) (all_remain trades orders none.1 some.1)

remain_alike : (one another : List Trade) (orders : List Resting) → AllByRecursion (λ (order : Resting). traded order.id one ≡ traded order.id another) orders → filter_map (remaining one) orders ≡ filter_map (remaining another) orders
remain_alike one another [] same = refl
remain_alike one another (order ∷ orders) same = ap (λ n. cons_option (with_left order (order.left - n)) (filter_map (remaining one) orders)) same.0 ∙ ap (cons_option (remaining another order)) (remain_alike one another orders same.1)

nothing : (orders : List Resting) → AllByRecursion (λ (order : Resting). traded order.id [] ≡ 0) orders
nothing [] = tt
nothing (order ∷ orders) = (refl, nothing orders)

-- no two of these are one order
abbrev pub AreDifferent : List Resting → Type 0
AreDifferent [] = Unit {0}
AreDifferent (order ∷ orders) = IsApart order.id orders × AreDifferent orders

untouched : (index : ℕ) (order best : Resting) (quantity : ℕ) (trades : List Trade) (orders : List Resting) → IsApart order.id orders → IsApart best.id orders → AllByRecursion (λ (o : Resting). traded o.id (trade_with index order best quantity ∷ trades) ≡ traded o.id trades) orders
untouched index order best quantity trades [] own apart = tt
untouched index order best quantity trades (o ∷ orders) own apart =
    let others : (is_same o.id order.id || is_same o.id best.id) ≡ false = neither (is_same o.id order.id) (is_same o.id best.id) (same_turn o.id order.id ∙ own.0) (same_turn o.id best.id ∙ apart.0) in (
      traded_with o.id index order best quantity trades ∙ ap (λ b. cond b quantity 0 + traded o.id trades) others ∙ omega arith,
      untouched index order best quantity trades orders own.1 apart.1,
    )

-- the trades of a filling leave of the queue what the filling leaves
pub remaining_filled : (index : ℕ) (order : Resting) (left : ℕ) (queue : List Resting) → IsApart order.id queue → AreDifferent queue → HaveSomeLeft queue → filter_map (remaining (filled index order left queue).trades) queue ≡ (filled index order left queue).queue
remaining_filled index order left [] own different some = refl
remaining_filled index order left (best ∷ queue) own different some =
    let other : is_same best.id order.id ≡ false = same_turn best.id order.id ∙ own.0 in
    let both : (is_same best.id order.id || is_same best.id best.id) ≡ true = second_of (is_same best.id order.id) (is_same best.id best.id) (same_itself best.id) in
    let mine = λ (quantity : ℕ) (trades : List Trade). traded_with best.id index order best quantity trades ∙ ap (λ b. cond b quantity 0 + traded best.id trades) both in
    filled_split (λ f. filter_map (remaining f.trades) (best ∷ queue) ≡ f.queue) index order best left queue
    (λ one c part.
    let trades = trade_with index order best left ∷ [] in
    let now : best.left - traded best.id trades ≡ best.left - left = omega (arith, mine left []) in
    ap (λ n. cons_option (with_left best n) (filter_map (remaining trades) queue)) now
    ∙ ap (λ o. cons_option o (filter_map (remaining trades) queue)) (with_some best (best.left - left) (omega arith))
    ∙ ap (λ rest. leaving best (best.left - left) ∷ rest) (remain_alike trades [] queue (untouched index order best left [] queue own.1 different.0) ∙ all_remain [] queue (nothing queue) some.1))
    (λ one c whole.
    let rest = filled index order (left - best.left) queue in
    let trades = trade_with index order best best.left ∷ rest.trades in
    let none : traded best.id rest.trades ≡ 0 = traded_none best.id index order (left - best.left) queue other different.0 in
    let now : best.left - traded best.id trades ≡ 0 = omega (arith, mine best.left rest.trades) in
    ap (λ n. cons_option (with_left best n) (filter_map (remaining trades) queue)) now
    ∙ remain_alike trades rest.trades queue (untouched index order best best.left rest.trades queue own.1 different.0)
    ∙ remaining_filled index order (left - best.left) queue own.1 different.1 some.1)
    (λ stop. all_remain [] (best ∷ queue) (nothing (best ∷ queue)) some)

-- what these trades leave is less of the same orders
pub remaining_lessens : (trades : List Trade) → Lessens (remaining trades)
remaining_lessens trades order =
    let n = order.left - traded order.id trades in
    by_cases (n == 0) (λ e. inl (ap (λ b. cond b None (Some (leaving order n))) e)) (λ e. inr (n, ap (λ b. cond b None (Some (leaving order n))) e))

some_with : (order : Resting) (left : ℕ) (orders : List Resting) → HaveSomeLeft orders → HaveSomeLeft (cons_option (with_left order left) orders)
some_with order left orders some =
    by_cases (left == 0)
    (λ e. let none : left ≡ 0 = grind (arith, nat_tests) in subst (λ o. HaveSomeLeft (cons_option o orders)) (sym (with_none order left none)) some)
    (λ e. let more : 1 ≤ left = grind (arith, nat_tests) in subst (λ o. HaveSomeLeft (cons_option o orders)) (sym (with_some order left more)) (more, some))

-- nothing stays that has nothing left
pub remaining_some : (trades : List Trade) (orders : List Resting) → HaveSomeLeft (filter_map (remaining trades) orders)
remaining_some trades [] = tt
remaining_some trades (order ∷ orders) = some_with order (order.left - traded order.id trades) (filter_map (remaining trades) orders) (remaining_some trades orders)
