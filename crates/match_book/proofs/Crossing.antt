-- In no book does a buy cross a sell.
use Rattle.std.proofs.Common.{◌≡◌, ◌⊎◌, inl, inr, ℕ, zero, suc, length, get_or, ◌-◌, ◌<◌, ◌≤◌, ◌==◌, Bool, true, false, not, ◌&&◌, cond, nat_le, List, [], ◌∷◌, ◌++◌, None, Some, refl, sym, ap, subst, ◌∙◌, arith, append-nil}
use Rattle.std.specs.declared.option.Option.{Option}
use Rattle.std.specs.List.{AllByRecursion, cons_option, filter, filter_map}
use Rattle.std.specs.Str.{bytes_eq}
use Rattle.std.proofs.lemmas.Slice.Eq.{bytes_eq-Decides}
use Rattle.std.specs.Cmp.Lexicographic.{nat_list_eq_equiv}
use Rattle.std.proofs.lemmas.Bool.Decides.{nat_tests}
use Rattle.std.proofs.lemmas.List.Elements.{All-from_recursion, filter_map-append}
use Rattle.kv_store.specs.Commands.{Request, key_of}
use Rattle.match_book.specs.declared.instruction.Instruction.{Instruction}
use Rattle.match_book.specs.declared.instruction.Instruction.TheVariants.{Order, Cancel}
use Rattle.match_book.specs.declared.order.Resting.{Resting}
use Rattle.match_book.specs.declared.order.Side.{Side}
use Rattle.match_book.specs.declared.order.Side.TheVariants.{Buy, Sell}
use Rattle.match_book.specs.Filling.{before_others, filled, from_others, is_ahead}
use Rattle.match_book.specs.Ledgers.{HaveDifferentIds, IsLedgerOf, IsMatched, IsObeyed, Ledger, after_trades, asked_by, id_of, is_named, leaving, remaining, traded, with_left}
use Rattle.match_book.specs.Places.{IsInOrder, arranged, crosses, goes_first, is_equal_side, meet, other}
use Rattle.match_book.proofs.Parting.{all_append, all_fail, all_filter, all_imply, all_pass, by_cases, parted_all}
use Rattle.match_book.proofs.Arranging.{Lessens, arranged_in_order, arranged_lessened, in_order_filter}
use Rattle.match_book.proofs.Filling.{filled_split}
use Rattle.match_book.proofs.Ledgers.{matched_determined}
use Rattle.match_book.proofs.Remaining.{AreDifferent, IsApart, remaining_lessens, traded_own, with_none, with_some}
use Rattle.match_book.proofs.Trading.{HaveSomeLeft, none_crossed}
use Rattle.match_book.proofs.Sound.{IsSound, all_arranged, apart_new, different_book, ledger_keeps}
use Rattle.match_book.proofs.Steps.{ahead_uncrossed, arranged_remaining, filled_in, filled_matches}

-- no order of the list is crossed by the order
abbrev pub IsFree : Resting → List Resting → Type 0
IsFree order orders = AllByRecursion (λ (resting : Resting). crosses order resting ≡ false) orders

-- what is left after a filling that leaves something of the order isn't crossed
filled_free : (index : ℕ) (order : Resting) (left : ℕ) (queue : List Resting) → IsInOrder queue → AllByRecursion (λ o. is_ahead order.symbol (other order.side) o ≡ false) queue → 0 < (filled index order left queue).left → IsFree order (filled index order left queue).queue
filled_free index order left [] is here = λ some. tt
filled_free index order left (best ∷ queue) is here =
    filled_split (λ f. 0 < f.left → IsFree order f.queue) index order best left queue
    (λ one c part some. absurd (omega arith))
    (λ one c whole some. filled_free index order (left - best.left) queue is.1 here.1 some)
    (λ stop some. elim stop [ inl e ↦ absurd (omega arith) | inr e ↦ (e, none_crossed order best queue here.0 e is.0) ])

-- from the arrangement back to the book
book_all : (P : Resting → Type 0) (book : List Resting) → AllByRecursion P (arranged book) → AllByRecursion P book
book_all P [] all = tt
book_all P (first ∷ later) all =
    let p = λ (o : Resting). goes_first o first in
    let parts = parted_all P p first (arranged later) all in
    (parts.0, book_all P later parts.1)

meets_turn : (a : Bool) (s t : Side) (p q : ℕ) → ((a && is_equal_side t (other s)) && meet s p q) ≡ ((a && is_equal_side s (other t)) && meet t q p)
meets_turn false s t p q = refl
meets_turn true Buy Buy p q = refl
meets_turn true Buy Sell p q = refl
meets_turn true Sell Buy p q = refl
meets_turn true Sell Sell p q = refl

-- crossing goes both ways
crosses_turn : (one another : Resting) → crosses one another ≡ crosses another one
crosses_turn one another =
    ap (λ b. (b && is_equal_side another.side (other one.side)) && meet one.side one.price another.price) (nat_list_eq_equiv.symm another.symbol one.symbol)
    ∙ meets_turn (bytes_eq one.symbol another.symbol) one.side another.side one.price another.price

alone : (a : Bool) (s : Side) (p : ℕ) → ((a && is_equal_side s (other s)) && meet s p p) ≡ false
alone true Buy p = refl
alone true Sell p = refl
alone false s p = refl

-- no order crosses itself
crosses_itself : (order : Resting) → crosses order order ≡ false
crosses_itself order = alone (bytes_eq order.symbol order.symbol) order.side order.price

-- no two orders cross
abbrev pub AreFree : List Resting → Type 0
AreFree [] = Unit {0}
AreFree (order ∷ orders) = IsFree order orders × AreFree orders

free_last : (book : List Resting) (order : Resting) → AreFree book → IsFree order book → AreFree (book ++ order ∷ [])
free_last [] order are free = (tt, tt)
free_last (first ∷ book) order are free = (all_append (λ (r : Resting). crosses first r ≡ false) book (order ∷ []) are.0 (crosses_turn first order ∙ free.0, tt), free_last book order are.1 free.1)

free_option : (first order : Resting) (o : Option Resting) (orders : List Resting) → (o ≡ None) ⊎ ((left : ℕ) × (o ≡ Some (leaving order left))) → crosses first order ≡ false → IsFree first orders → IsFree first (cons_option o orders)
free_option first order o orders (inl e) one free = subst (λ p. IsFree first (cons_option p orders)) (sym e) free
free_option first order o orders (inr e) one free = subst (λ p. IsFree first (cons_option p orders)) (sym e.1) (one, free)

free_lessened : (h : Resting → Option Resting) → Lessens h → (first : Resting) (orders : List Resting) → IsFree first orders → IsFree first (filter_map h orders)
free_lessened h less first [] free = tt
free_lessened h less first (order ∷ orders) free = free_option first order (h order) (filter_map h orders) (less order) free.0 (free_lessened h less first orders free.1)

are_option : (order : Resting) (o : Option Resting) (orders : List Resting) → (o ≡ None) ⊎ ((left : ℕ) × (o ≡ Some (leaving order left))) → IsFree order orders → AreFree orders → AreFree (cons_option o orders)
are_option order o orders (inl e) free are = subst (λ p. AreFree (cons_option p orders)) (sym e) are
are_option order o orders (inr e) free are = subst (λ p. AreFree (cons_option p orders)) (sym e.1) (free, are)

are_lessened : (h : Resting → Option Resting) → Lessens h → (orders : List Resting) → AreFree orders → AreFree (filter_map h orders)
are_lessened h less [] are = tt
are_lessened h less (order ∷ orders) are = are_option order (h order) (filter_map h orders) (less order) (free_lessened h less order orders are.0) (are_lessened h less orders are.1)

-- what the trades of an order leave isn't crossed by it, if something of it is left
remaining_free : (index : ℕ) (order : Resting) (book : List Resting) → IsApart order.id (arranged book) → AreDifferent (arranged book) → HaveSomeLeft (arranged book) → 0 < (filled_in index order book).left → IsFree order (filter_map (remaining (filled_in index order book).trades) book)
remaining_free index order book own different some left =
    let ahead = λ (o : Resting). is_ahead order.symbol (other order.side) o in
    let h = remaining (filled_in index order book).trades in
    let front : IsFree order (before_others order (arranged book)) = all_imply (λ o. ahead o ≡ true) (λ o. crosses order o ≡ false) (ahead_uncrossed order) (before_others order (arranged book)) (all_pass ahead (arranged book)) in
    let back = filled_free index order order.left (from_others order (arranged book)) (in_order_filter (λ o. not (ahead o)) (arranged book) (arranged_in_order book)) (all_fail ahead (arranged book)) left in
    let stays = arranged_lessened h (remaining_lessens (filled_in index order book).trades) book ∙ arranged_remaining index order book own different some in
    book_all (λ (o : Resting). crosses order o ≡ false) (filter_map h book)
    (subst (IsFree order) (sym stays) (all_append (λ (o : Resting). crosses order o ≡ false) (before_others order (arranged book)) (filled_in index order book).queue front back))

with_free : (order : Resting) (left : ℕ) (book : List Resting) → AreFree book → (0 < left → IsFree order book) → AreFree (book ++ cons_option (with_left order left) [])
with_free order left book are free =
    by_cases (left == 0)
    (λ e. let none : left ≡ 0 = grind (arith, nat_tests) in subst (λ o. AreFree (book ++ cons_option o [])) (sym (with_none order left none)) (subst AreFree (sym (append-nil book)) are))
    (λ e. let more : 0 < left = grind (arith, nat_tests) in subst (λ o. AreFree (book ++ cons_option o [])) (sym (with_some order left more)) (free_last book (leaving order left) are (free more)))

matched_free : (done : List Request) (command : Request) (order : Resting) (before after : Ledger) → order.id ≡ id_of command → HaveDifferentIds (done ++ command ∷ []) → IsSound done before → AreFree before.book → IsMatched order before after → AreFree after.book
matched_free done command order before after mine once sound are step =
    let index = before.applied in
    let book = before.book in
    let f = filled_in index order book in
    let h = remaining f.trades in
    let own = subst (λ id. IsApart id (arranged book)) (sym mine) (apart_new done command before once sound) in
    let different = different_book done command before once sound in
    let some = all_arranged (λ (o : Resting). 1 ≤ o.left) book sound.some in
    let same = matched_determined order before after (after_trades order f.trades before) step (filled_matches order before sound.some) in
    let all = traded_own index order order.left (from_others order (arranged book)) in
    let left : order.left - traded order.id f.trades ≡ f.left = omega arith in
    let is : after.book ≡ filter_map h book ++ cons_option (with_left order f.left) [] = ap (λ l. l.book) same ∙ filter_map-append h book (order ∷ []) ∙ ap (λ n. filter_map h book ++ cons_option (with_left order n) []) left in
    subst AreFree (sym is) (with_free order f.left (filter_map h book) (are_lessened h (remaining_lessens f.trades) book are) (remaining_free index order book own different some))

are_chosen : (b : Bool) (order : Resting) (orders : List Resting) → IsFree order orders → AreFree orders → AreFree (cond b (order ∷ orders) orders)
are_chosen true order orders free are = (free, are)
are_chosen false order orders free are = are

are_filtered : (p : Resting → Bool) (orders : List Resting) → AreFree orders → AreFree (filter p orders)
are_filtered p [] are = tt
are_filtered p (order ∷ orders) are = are_chosen (p order) order (filter p orders) (all_filter (λ (r : Resting). crosses order r ≡ false) p orders are.0) (are_filtered p orders are.1)

obeyed_free : (done : List Request) (command : Request) (symbol : List ℕ) (asked : Option Instruction) (before after : Ledger) → HaveDifferentIds (done ++ command ∷ []) → IsSound done before → AreFree before.book → IsObeyed (id_of command) symbol asked before after → AreFree after.book
obeyed_free done command symbol (Some (Order side price quantity)) before after once sound are step = matched_free done command (record { id = id_of command; symbol = symbol; side = side; price = price; left = quantity }) before after refl once sound are step
obeyed_free done command symbol (Some (Cancel number)) before after once sound are step =
    subst AreFree (sym (ap (λ l. l.book) step)) (are_filtered (λ order. not (is_named (record { client = command.client; number = number }) symbol order)) before.book are)
obeyed_free done command symbol None before after once sound are step = subst AreFree (sym (ap (λ l. l.book) step)) are

-- no two orders of a ledger's book cross
pub ledger_is_free : (commands : List Request) (ledger : Ledger) → HaveDifferentIds commands → IsLedgerOf commands ledger → AreFree ledger.book
ledger_is_free commands ledger once is = ledger_keeps (λ done l. AreFree l.book) (λ done command before after different sound are step. obeyed_free done command (key_of command.op) (asked_by command.op) before after different sound are step) tt commands ledger once is

free_of : (orders : List Resting) (first : Resting) (k : ℕ) (d : Resting) → IsFree first orders → k < length orders → crosses first (get_or orders k d) ≡ false
free_of orders first k d free below = All-from_recursion (λ (r : Resting). crosses first r ≡ false) orders free k d below

-- whichever two are taken
pub free_at : (orders : List Resting) (i j : ℕ) (d e : Resting) → AreFree orders → i < length orders → j < length orders → crosses (get_or orders i d) (get_or orders j e) ≡ false
free_at [] i j d e are low high = absurd (omega arith)
free_at (order ∷ orders) zero zero d e are low high = crosses_itself order
free_at (order ∷ orders) zero (suc j) d e are low high = free_of orders order j e are.0 (omega arith)
free_at (order ∷ orders) (suc i) zero d e are low high = crosses_turn (get_or orders i d) order ∙ free_of orders order i d are.0 (omega arith)
free_at (order ∷ orders) (suc i) (suc j) d e are low high = free_at orders i j d e are.1 (omega arith) (omega arith)

not_at_least : (p q : ℕ) → nat_le q p ≡ false → p < q
not_at_least p q e = grind (arith, nat_tests)

above : (a : Bool) (p q : ℕ) → a ≡ true → ((a && is_equal_side Sell (other Buy)) && meet Buy p q) ≡ false → p < q
above true p q e free = not_at_least p q free
above false p q e free = cc

-- a buy that doesn't cross a sell of its symbol has the lower price
pub below_sell : (buy sell : Resting) → crosses buy sell ≡ false → buy.side ≡ Buy → sell.side ≡ Sell → buy.symbol ≡ sell.symbol → buy.price < sell.price
below_sell buy sell free buys sells same =
    let a = bytes_eq sell.symbol buy.symbol in
    let first : ((a && is_equal_side sell.side (other Buy)) && meet Buy buy.price sell.price) ≡ false = subst (λ s. ((a && is_equal_side sell.side (other s)) && meet s buy.price sell.price) ≡ false) buys free in
    let second : ((a && is_equal_side Sell (other Buy)) && meet Buy buy.price sell.price) ≡ false = subst (λ s. ((a && is_equal_side s (other Buy)) && meet Buy buy.price sell.price) ≡ false) sells first in
    above a buy.price sell.price ((bytes_eq-Decides sell.symbol buy.symbol).1 (sym same)) second
