-- The arrangement is in order, and stays so as orders come, change and go.
use Rattle.std.proofs.Common.{◌≡◌, ◌⊎◌, inl, inr, ℕ, zero, suc, subst, ◌<◌, ◌≤◌, Bool, true, false, not, cond, List, [], ◌∷◌, ◌++◌, length, get_or, take, drop, None, Some, refl, sym, ap, ◌∙◌, arith, append_assoc, append-nil}
use Rattle.std.specs.declared.option.Option.{Option}
use Rattle.std.specs.List.{AllByRecursion, AllWithin, filter, filter_map, cons_option}
use Rattle.std.specs.List.Sorted.{IsPartitionPoint, IsPartitionedBy}
use Rattle.std.proofs.lemmas.List.{take-append-drop}
use Rattle.std.proofs.lemmas.List.Elements.{filter-append, All-from_recursion, filter_map-append}
use Rattle.match_book.specs.declared.order.Resting.{Resting}
use Rattle.match_book.specs.Laws.{stands_with}
use Rattle.std.specs.List.Sorted.{IsPermutation}
use Rattle.std.proofs.lemmas.List.Sorted.{IsPermutation-cons, IsPermutation-filter_both, IsPermutation-middle, IsPermutation-refl, IsPermutation-sym, IsPermutation-trans}
use Rattle.match_book.specs.Ledgers.{leaving}
use Rattle.match_book.specs.Places.{IsInOrder, arranged, goes_first}
use Rattle.match_book.proofs.Parting.{not_both, by_cases, not_is, all_append, all_fail, all_filter, all_imply, all_pass, filter_middle, filter_other, filter_parted, filters_clash, filters_turn}
use Rattle.match_book.proofs.Placing.{ahead_closed, goes_first_weak}
use Rattle.match_book.specs.declared.order.Side.{Side}
use Rattle.match_book.specs.Filling.{is_ahead}
use Rattle.std.proofs.lemmas.Bool.{and_parts}

-- whatever isn't placed after one that passes, passes
abbrev pub IsClosed : (Resting → Bool) → Type 0
IsClosed p = (one another : Resting) → goes_first another one ≡ false → p another ≡ true → p one ≡ true

-- what goes first of one goes first of all that it is not after
pub closed_before : (order : Resting) → IsClosed (λ one. goes_first one order)
closed_before order one another after first = by_cases (goes_first one order) (λ e. e) (λ e. not_both (goes_first another order) first (goes_first_weak.chain another one order after e))

-- what an order doesn't go before
pub closed_upto : (order : Resting) → IsClosed (λ one. not (goes_first order one))
closed_upto order one another after upto = ap not (goes_first_weak.chain order another one (not_is (goes_first order another) upto) after)

-- of a list in order, what passes a closed test comes before the rest
pub parted : (p : Resting → Bool) → IsClosed p → (orders : List Resting) → IsInOrder orders → filter p orders ++ filter (λ order. not (p order)) orders ≡ orders
parted p closed [] is = refl
parted p closed (order ∷ orders) is =
    by_cases (p order)
    (λ e. ap (λ b. cond b (order ∷ filter p orders) (filter p orders) ++ cond (not b) (order ∷ filter (λ o. not (p o)) orders) (filter (λ o. not (p o)) orders)) e ∙ ap (λ rest. order ∷ rest) (parted p closed orders is.1))
    (λ e.
    let fail : AllByRecursion (λ o. p o ≡ false) (order ∷ orders) = (e, all_imply (λ o. goes_first o order ≡ false) (λ o. p o ≡ false) (λ o after. by_cases (p o) (λ f. not_both (p order) (closed order o after f) e) (λ f. f)) orders is.0) in
    let front : filter p (order ∷ orders) ≡ [] = filter_parted p [] (order ∷ orders) tt fail in
    let back : filter (λ o. not (p o)) (order ∷ orders) ≡ order ∷ orders = filter_other p [] (order ∷ orders) tt fail in
    ap (λ xs. xs ++ filter (λ o. not (p o)) (order ∷ orders)) front ∙ back)

front_at : {X : Type 0} (p : X → Bool) (front back : List X) → AllByRecursion (λ x. p x ≡ true) front → AllByRecursion (λ x. p x ≡ false) back → (i j : ℕ) (d : X) → i ≤ j → j < length (front ++ back) → p (get_or (front ++ back) j d) ≡ true → p (get_or (front ++ back) i d) ≡ true
front_at p [] back pass fail i j d le below e = not_both (p (get_or back j d)) e (All-from_recursion (λ x. p x ≡ false) back fail j d below)
front_at p (x ∷ front) back pass fail zero j d le below e = pass.0
front_at p (x ∷ front) back pass fail (suc i) zero d le below e = absurd (omega arith)
front_at p (x ∷ front) back pass fail (suc i) (suc j) d le below e = front_at p front back pass.1 fail i j d (omega arith) (omega arith) e

-- so the place where it ends can be found by halves
pub partitioned : (p : Resting → Bool) → IsClosed p → (orders : List Resting) → IsInOrder orders → IsPartitionedBy p orders
partitioned p closed orders is = subst (IsPartitionedBy p) (parted p closed orders is) (front_at p (filter p orders) (filter (λ o. not (p o)) orders) (all_pass p orders) (all_fail p orders))

within_front : {X : Type 0} (P : X → Type 0) (xs : List X) (i : ℕ) → AllWithin P xs 0 i → i ≤ length xs → AllByRecursion P (take i xs)
within_front P xs zero all le = tt
within_front P [] (suc i) all le = absurd (omega arith)
within_front P (x ∷ xs) (suc i) all le = (all 0 x (omega arith) (omega arith), within_front P xs i (λ k d low high. all (suc k) d (omega arith) (omega arith)) (omega arith))

within_back : {X : Type 0} (P : X → Type 0) (xs : List X) (i : ℕ) → AllWithin P xs i (length xs) → AllByRecursion P (drop i xs)
within_back P [] zero all = tt
within_back P [] (suc i) all = tt
within_back P (x ∷ xs) zero all = (all 0 x (omega arith) (omega arith), within_back P xs zero (λ k d low high. all (suc k) d (omega arith) (omega arith)))
within_back P (x ∷ xs) (suc i) all = within_back P xs i (λ k d low high. all (suc k) d (omega arith) (omega arith))

-- at that place the list is cut into what passes and what doesn't
pub cut_front : {X : Type 0} (p : X → Bool) (xs : List X) (i : ℕ) → i ≤ length xs → IsPartitionPoint (λ x. p x ≡ true) (λ x. p x ≡ false) xs i → take i xs ≡ filter p xs
cut_front p xs i le point =
    sym (filter_parted p (take i xs) (drop i xs) (within_front (λ x. p x ≡ true) xs i point.0 le) (within_back (λ x. p x ≡ false) xs i point.1)) ∙ ap (filter p) (take-append-drop i xs)

pub cut_back : {X : Type 0} (p : X → Bool) (xs : List X) (i : ℕ) → i ≤ length xs → IsPartitionPoint (λ x. p x ≡ true) (λ x. p x ≡ false) xs i → drop i xs ≡ filter (λ x. not (p x)) xs
cut_back p xs i le point =
    sym (filter_other p (take i xs) (drop i xs) (within_front (λ x. p x ≡ true) xs i point.0 le) (within_back (λ x. p x ≡ false) xs i point.1)) ∙ ap (filter (λ x. not (p x))) (take-append-drop i xs)

-- what stands ahead of a symbol and side
pub closed_ahead : (symbol : List ℕ) (side : Side) → IsClosed (is_ahead symbol side)
closed_ahead symbol side one another after ahead = ahead_closed symbol side one another after ahead

-- orders in order around one more
in_order_around : (front : List Resting) (order : Resting) (back : List Resting) → AllByRecursion (λ o. goes_first o order ≡ true) front → AllByRecursion (λ o. goes_first o order ≡ false) back → IsInOrder front → IsInOrder back → IsInOrder (front ++ order ∷ back)
in_order_around [] order back before after is later = (after, later)
in_order_around (first ∷ front) order back before after is later =
    let next : goes_first order first ≡ false = goes_first_weak.one_way first order before.0 in
    let beyond = all_imply (λ o. goes_first o order ≡ false) (λ o. goes_first o first ≡ false) (λ o e. goes_first_weak.chain o order first e next) back after in
    (all_append (λ o. goes_first o first ≡ false) front (order ∷ back) is.0 (next, beyond), in_order_around front order back before.1 after is.1 later)

in_order_cond : (b : Bool) (order : Resting) (orders : List Resting) → AllByRecursion (λ o. goes_first o order ≡ false) orders → IsInOrder orders → IsInOrder (cond b (order ∷ orders) orders)
in_order_cond true order orders all is = (all, is)
in_order_cond false order orders all is = is

pub in_order_filter : (p : Resting → Bool) (orders : List Resting) → IsInOrder orders → IsInOrder (filter p orders)
in_order_filter p [] is = tt
in_order_filter p (order ∷ orders) is = in_order_cond (p order) order (filter p orders) (all_filter (λ o. goes_first o order ≡ false) p orders is.0) (in_order_filter p orders is.1)

-- the arrangement is in order
pub arranged_in_order : (book : List Resting) → IsInOrder (arranged book)
arranged_in_order [] = tt
arranged_in_order (first ∷ later) =
    let p = λ (o : Resting). goes_first o first in
    let is = arranged_in_order later in
    in_order_around (filter p (arranged later)) first (filter (λ o. not (p o)) (arranged later)) (all_pass p (arranged later)) (all_fail p (arranged later)) (in_order_filter p (arranged later) is) (in_order_filter (λ o. not (p o)) (arranged later) is)

-- a change of orders that takes some away and leaves less of others
abbrev pub Lessens : (Resting → Option Resting) → Type 0
Lessens h = (order : Resting) → (h order ≡ None) ⊎ ((left : ℕ) × (h order ≡ Some (leaving order left)))

none_either : (b : Bool) (rest : List Resting) → cond b rest rest ≡ rest
none_either true rest = refl
none_either false rest = refl

lessened_one : (p : Resting → Bool) (kept : (order : Resting) (left : ℕ) → p (leaving order left) ≡ p order) (h : Resting → Option Resting) (order : Resting) (others rest : List Resting) → (h order ≡ None) ⊎ ((left : ℕ) × (h order ≡ Some (leaving order left))) → filter p others ≡ rest → filter p (cons_option (h order) others) ≡ cond (p order) (cons_option (h order) rest) rest
lessened_one p kept h order others rest (inl e) is = ap (λ o. filter p (cons_option o others)) e ∙ is ∙ sym (none_either (p order) rest) ∙ sym (ap (λ o. cond (p order) (cons_option o rest) rest) e)
lessened_one p kept h order others rest (inr e) is =
    ap (λ o. filter p (cons_option o others)) e.1
    ∙ ap (λ b. cond b (leaving order e.0 ∷ filter p others) (filter p others)) (kept order e.0)
    ∙ ap (λ xs. cond (p order) (leaving order e.0 ∷ xs) xs) is
    ∙ sym (ap (λ o. cond (p order) (cons_option o rest) rest) e.1)

map_cond : (h : Resting → Option Resting) (b : Bool) (order : Resting) (orders : List Resting) → filter_map h (cond b (order ∷ orders) orders) ≡ cond b (cons_option (h order) (filter_map h orders)) (filter_map h orders)
map_cond h true order orders = refl
map_cond h false order orders = refl

-- a filter that doesn't see what is left, before and after such a change
pub filter_lessened : (p : Resting → Bool) (kept : (order : Resting) (left : ℕ) → p (leaving order left) ≡ p order) (h : Resting → Option Resting) → Lessens h → (orders : List Resting) → filter p (filter_map h orders) ≡ filter_map h (filter p orders)
filter_lessened p kept h less [] = refl
filter_lessened p kept h less (order ∷ orders) =
    lessened_one p kept h order (filter_map h orders) (filter_map h (filter p orders)) (less order) (filter_lessened p kept h less orders)
    ∙ sym (map_cond h (p order) order (filter p orders))

arranged_one : (h : Resting → Option Resting) → Lessens h → (first : Resting) (later sorted : List Resting) → IsInOrder sorted → arranged later ≡ filter_map h sorted → (h first ≡ None) ⊎ ((left : ℕ) × (h first ≡ Some (leaving first left))) →
    arranged (cons_option (h first) later) ≡ filter_map h (filter (λ o. goes_first o first) sorted) ++ cons_option (h first) (filter_map h (filter (λ o. not (goes_first o first)) sorted))
arranged_one h less first later sorted is e (inl none) =
    let p = λ (o : Resting). goes_first o first in
    ap (λ o. arranged (cons_option o later)) none
    ∙ e
    ∙ ap (filter_map h) (sym (parted p (closed_before first) sorted is))
    ∙ filter_map-append h (filter p sorted) (filter (λ o. not (p o)) sorted)
    ∙ sym (ap (λ o. filter_map h (filter p sorted) ++ cons_option o (filter_map h (filter (λ o. not (p o)) sorted))) none)
arranged_one h less first later sorted is e (inr some) =
    let p = λ (o : Resting). goes_first o first in
    ap (λ o. arranged (cons_option o later)) some.1
    ∙ ap (λ xs. filter p xs ++ leaving first some.0 ∷ filter (λ o. not (p o)) xs) e
    ∙ ap (λ xs. xs ++ leaving first some.0 ∷ filter (λ o. not (p o)) (filter_map h sorted)) (filter_lessened p (λ o n. refl) h less sorted)
    ∙ ap (λ xs. filter_map h (filter p sorted) ++ leaving first some.0 ∷ xs) (filter_lessened (λ o. not (p o)) (λ o n. refl) h less sorted)
    ∙ sym (ap (λ o. filter_map h (filter p sorted) ++ cons_option o (filter_map h (filter (λ o. not (p o)) sorted))) some.1)

-- such a change may come before the arrangement or after it
pub arranged_lessened : (h : Resting → Option Resting) → Lessens h → (book : List Resting) → arranged (filter_map h book) ≡ filter_map h (arranged book)
arranged_lessened h less [] = refl
arranged_lessened h less (first ∷ later) =
    arranged_one h less first (filter_map h later) (arranged later) (arranged_in_order later) (arranged_lessened h less later) (less first)
    ∙ sym (filter_map-append h (filter (λ o. goes_first o first) (arranged later)) (first ∷ filter (λ o. not (goes_first o first)) (arranged later)))

choose_pass : (p : Resting → Bool) (order : Resting) → (cond (p order) (Some order) None ≡ None) ⊎ ((left : ℕ) × (cond (p order) (Some order) None ≡ Some (leaving order left)))
choose_pass p order = by_cases (p order) (λ e. inr (order.left, ap (λ b. cond b (Some order) None) e)) (λ e. inl (ap (λ b. cond b (Some order) None) e))

cons_cond : (b : Bool) (order : Resting) (orders : List Resting) → cons_option (cond b (Some order) None) orders ≡ cond b (order ∷ orders) orders
cons_cond true order orders = refl
cons_cond false order orders = refl

filter_as_map : (p : Resting → Bool) (orders : List Resting) → filter_map (λ order. cond (p order) (Some order) None) orders ≡ filter p orders
filter_as_map p [] = refl
filter_as_map p (order ∷ orders) = ap (cons_option (cond (p order) (Some order) None)) (filter_as_map p orders) ∙ cons_cond (p order) order (filter p orders)

-- the same of a filter
pub arranged_filtered : (p : Resting → Bool) (book : List Resting) → arranged (filter p book) ≡ filter p (arranged book)
arranged_filtered p book = ap arranged (sym (filter_as_map p book)) ∙ arranged_lessened (λ order. cond (p order) (Some order) None) (choose_pass p) book ∙ filter_as_map p (arranged book)

-- an order with those that it doesn't go before, and the others behind it
abbrev pub with_last : Resting → List Resting → List Resting
with_last order orders = filter (λ o. not (goes_first order o)) orders ++ order ∷ filter (goes_first order) orders

through : (p : Resting → Bool) (b : Bool) (front : List Resting) (order : Resting) (back : List Resting) → p order ≡ b → filter p (front ++ order ∷ back) ≡ filter p front ++ cond b (order ∷ filter p back) (filter p back)
through p b front order back e = filter_middle p front order back ∙ ap (λ c. filter p front ++ cond c (order ∷ filter p back) (filter p back)) e

last_earlier : (order first : Resting) (sorted : List Resting) → goes_first order first ≡ true → filter (λ o. goes_first o first) (with_last order sorted) ++ first ∷ filter (λ o. not (goes_first o first)) (with_last order sorted) ≡ with_last order (filter (λ o. goes_first o first) sorted ++ first ∷ filter (λ o. not (goes_first o first)) sorted)
last_earlier order first sorted e =
    let p = λ (o : Resting). goes_first o first in
    let n = λ (o : Resting). not (goes_first o first) in
    let u = λ (o : Resting). not (goes_first order o) in
    let v = λ (o : Resting). goes_first order o in
    let a = filter u (filter p sorted) in
    let b = filter v (filter p sorted) in
    let d = filter v (filter n sorted) in
    let never : filter n (filter u sorted) ≡ [] = filters_clash n u (λ o f. by_cases (n o) (λ g. not_both (goes_first order first) e (goes_first_weak.chain order o first (not_is (goes_first order o) f) (not_is (goes_first o first) g))) (λ g. g)) sorted in
    let one : filter p (with_last order sorted) ≡ a ++ order ∷ b = through p true (filter u sorted) order (filter v sorted) e ∙ ap (λ xs. xs ++ order ∷ filter p (filter v sorted)) (filters_turn p u sorted) ∙ ap (λ xs. a ++ order ∷ xs) (filters_turn p v sorted) in
    let two : filter n (with_last order sorted) ≡ d = through n false (filter u sorted) order (filter v sorted) (ap not e) ∙ ap (λ xs. xs ++ filter n (filter v sorted)) never ∙ filters_turn n v sorted in
    let three : filter u (filter p sorted ++ first ∷ filter n sorted) ≡ a = through u false (filter p sorted) first (filter n sorted) (ap not e) ∙ ap (λ xs. a ++ xs) (filters_turn u n sorted ∙ never) ∙ append-nil a in
    let four : filter v (filter p sorted ++ first ∷ filter n sorted) ≡ b ++ first ∷ d = through v true (filter p sorted) first (filter n sorted) e in
    ap (λ xs. xs ++ first ∷ filter n (with_last order sorted)) one
    ∙ ap (λ xs. (a ++ order ∷ b) ++ first ∷ xs) two
    ∙ append_assoc a (order ∷ b) (first ∷ d)
    ∙ sym (ap (λ xs. xs ++ order ∷ filter v (filter p sorted ++ first ∷ filter n sorted)) three ∙ ap (λ xs. a ++ order ∷ xs) four)

last_later : (order first : Resting) (sorted : List Resting) → goes_first order first ≡ false → filter (λ o. goes_first o first) (with_last order sorted) ++ first ∷ filter (λ o. not (goes_first o first)) (with_last order sorted) ≡ with_last order (filter (λ o. goes_first o first) sorted ++ first ∷ filter (λ o. not (goes_first o first)) sorted)
last_later order first sorted e =
    let p = λ (o : Resting). goes_first o first in
    let n = λ (o : Resting). not (goes_first o first) in
    let u = λ (o : Resting). not (goes_first order o) in
    let v = λ (o : Resting). goes_first order o in
    let a = filter u (filter p sorted) in
    let c = filter u (filter n sorted) in
    let d = filter v (filter n sorted) in
    let never : filter v (filter p sorted) ≡ [] = filters_clash v p (λ o f. by_cases (v o) (λ g. not_both (goes_first o first) f (goes_first_weak.chain o order first (goes_first_weak.one_way order o g) e)) (λ g. g)) sorted in
    let one : filter p (with_last order sorted) ≡ a = through p false (filter u sorted) order (filter v sorted) e ∙ ap (λ xs. xs ++ filter p (filter v sorted)) (filters_turn p u sorted) ∙ ap (λ xs. a ++ xs) (filters_turn p v sorted ∙ never) ∙ append-nil a in
    let two : filter n (with_last order sorted) ≡ c ++ order ∷ d = through n true (filter u sorted) order (filter v sorted) (ap not e) ∙ ap (λ xs. xs ++ order ∷ filter n (filter v sorted)) (filters_turn n u sorted) ∙ ap (λ xs. c ++ order ∷ xs) (filters_turn n v sorted) in
    let three : filter u (filter p sorted ++ first ∷ filter n sorted) ≡ a ++ first ∷ c = through u true (filter p sorted) first (filter n sorted) (ap not e) in
    let four : filter v (filter p sorted ++ first ∷ filter n sorted) ≡ d = through v false (filter p sorted) first (filter n sorted) e ∙ ap (λ xs. xs ++ d) never in
    ap (λ xs. xs ++ first ∷ filter n (with_last order sorted)) one
    ∙ ap (λ xs. a ++ first ∷ xs) two
    ∙ sym (append_assoc a (first ∷ c) (order ∷ d))
    ∙ sym (ap (λ xs. xs ++ order ∷ filter v (filter p sorted ++ first ∷ filter n sorted)) three ∙ ap (λ xs. (a ++ first ∷ c) ++ order ∷ xs) four)

-- the order that arrived last stands before those that it goes before
pub arranged_last : (book : List Resting) (order : Resting) → arranged (book ++ order ∷ []) ≡ with_last order (arranged book)
arranged_last [] order = refl
arranged_last (first ∷ later) order =
    ap (λ xs. filter (λ o. goes_first o first) xs ++ first ∷ filter (λ o. not (goes_first o first)) xs) (arranged_last later order)
    ∙ by_cases (goes_first order first) (last_earlier order first (arranged later)) (last_later order first (arranged later))

-- as many of each order
pub arranged_permutes : (book : List Resting) → IsPermutation book (arranged book)
arranged_permutes [] = IsPermutation-refl []
arranged_permutes (first ∷ later) =
    let p = λ (o : Resting). goes_first o first in
    let n = λ (o : Resting). not (goes_first o first) in
    let front = filter p (arranged later) in
    let back = filter n (arranged later) in
    let whole = front ++ first ∷ back in
    let split = IsPermutation-cons first (arranged later) (front ++ back) (IsPermutation-filter_both p n (λ o. refl) (arranged later)) in
    let moved = IsPermutation-sym whole (first ∷ (front ++ back)) (IsPermutation-middle front first back) in
    IsPermutation-trans (first ∷ later) (first ∷ arranged later) whole (IsPermutation-cons first later (arranged later) (arranged_permutes later)) (IsPermutation-trans (first ∷ arranged later) (first ∷ (front ++ back)) whole split moved)

-- what stands with an order that stands with another goes first of neither
level : (order first o : Resting) → stands_with order first ≡ true → stands_with order o ≡ true → goes_first o first ≡ false
level order first o one two =
    let a = and_parts (not (goes_first order first)) (not (goes_first first order)) one in
    let b = and_parts (not (goes_first order o)) (not (goes_first o order)) two in
    goes_first_weak.chain o order first (not_is (goes_first o order) b.1) (not_is (goes_first order first) a.0)

-- those of one symbol, side and price stand in order of arrival
pub arrival_kept : (order : Resting) (book : List Resting) → filter (stands_with order) (arranged book) ≡ filter (stands_with order) book
arrival_kept order [] = refl
arrival_kept order (first ∷ later) =
    let t = stands_with order in
    let p = λ (o : Resting). goes_first o first in
    let n = λ (o : Resting). not (goes_first o first) in
    let front = filter p (arranged later) in
    let back = filter n (arranged later) in
    let all : filter t front ++ filter t back ≡ filter t later = sym (filter-append t front back) ∙ ap (filter t) (parted p (closed_before first) (arranged later) (arranged_in_order later)) ∙ arrival_kept order later in
    filter_middle t front first back
    ∙ by_cases (t first)
    (λ e.
    let none : filter t front ≡ [] = filters_clash t p (λ o f. by_cases (t o) (λ g. not_both (goes_first o first) f (level order first o e g)) (λ g. g)) (arranged later) in
    let rest : filter t back ≡ filter t later = sym (ap (λ xs. xs ++ filter t back) none) ∙ all in
    ap (λ xs. xs ++ cond (t first) (first ∷ filter t back) (filter t back)) none
    ∙ ap (λ xs. cond (t first) (first ∷ xs) xs) rest)
    (λ e. ap (λ b. filter t front ++ cond b (first ∷ filter t back) (filter t back)) e ∙ all ∙ sym (ap (λ b. cond b (first ∷ filter t later) (filter t later)) e))
