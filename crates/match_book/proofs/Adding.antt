-- What an order placed is what it traded, what is left and what was cancelled.
use Rattle.std.proofs.Common.{◌≡◌, ℕ, ◌+◌, ◌-◌, ◌<◌, ◌≤◌, ◌==◌, Bool, true, false, not, ◌||◌, cond, List, [], ◌∷◌, ◌++◌, None, Some, refl, sym, ap, subst, ◌∙◌, arith}
use Rattle.std.specs.declared.option.Option.{Option}
use Rattle.std.specs.List.{cons_option, filter, filter_map}
use Rattle.std.proofs.lemmas.Bool.Decides.{nat_tests}
use Rattle.std.proofs.lemmas.List.Elements.{filter_map-append}
use Rattle.std.proofs.lemmas.List.Filters.{sum_by-filter_both}
use Rattle.std.proofs.lemmas.List.Sums.{sum_by-append, sum_by-cons}
use Rattle.kv_store.specs.Commands.{Request, key_of}
use Rattle.match_book.specs.declared.instruction.Instruction.{Instruction}
use Rattle.match_book.specs.declared.instruction.Instruction.TheVariants.{Order, Cancel}
use Rattle.match_book.specs.declared.order.Id.{Id}
use Rattle.match_book.specs.declared.order.Resting.{Resting}
use Rattle.match_book.specs.declared.order.Trade.{Trade}
use Rattle.match_book.specs.Filling.{before_others, filled, from_others}
use Rattle.match_book.specs.Laws.{left_of, quantity_of, quantity_placed}
use Rattle.match_book.specs.Ledgers.{HaveDifferentIds, IsLedgerOf, IsMatched, IsObeyed, Ledger, after_other, after_trades, asked_by, id_of, is_named, leaving, remaining, takes_part, traded, with_left}
use Rattle.match_book.specs.Places.{arranged, is_same}
use Rattle.match_book.proofs.Parting.{all_back, not_both, by_cases}
use Rattle.match_book.proofs.Arranging.{arranged_lessened}
use Rattle.match_book.proofs.Filling.{filled_split}
use Rattle.match_book.proofs.Ledgers.{matched_determined}
use Rattle.match_book.proofs.Remaining.{IsApart, remaining_lessens, same_ids, traded_own, traded_with, with_none, with_some}
use Rattle.match_book.proofs.Sound.{IsSound, all_arranged, apart_new, different_book, ledger_keeps, sum_arranged}
use Rattle.match_book.proofs.Steps.{arranged_parts, arranged_remaining, filled_in, filled_matches}

-- a quantity, if it is that of this order
abbrev pub own : Id → Id → ℕ → ℕ
own id another quantity = cond (is_same id another) quantity 0

left_more : (id : Id) (order : Resting) (orders : List Resting) → left_of id (order ∷ orders) ≡ own id order.id order.left + left_of id orders
left_more id order orders = sum_by-cons (λ (o : Resting). cond (is_same id o.id) o.left 0) order orders

nothing : (b : Bool) (n : ℕ) → n ≡ 0 → cond b n 0 ≡ 0
nothing true n e = e
nothing false n e = refl

clash_of : true ≡ false → ⊥
clash_of e = cc

-- of two different orders at most one is this one
only_one : (id one another : Id) → is_same one another ≡ false → (is_same id one ≡ true → is_same id another ≡ false)
only_one id one another apart e =
    by_cases (is_same id another)
    (λ f. not_both (is_same one another) (subst (λ x. is_same x another ≡ true) (same_ids id one e) f) apart)
    (λ f. f)

split_part : (a b : Bool) (left rest : ℕ) → (a ≡ true → b ≡ false) → left ≤ rest → cond b (rest - left) 0 + cond (a || b) left 0 ≡ cond b rest 0 + cond a left 0
split_part true true left rest one le = absurd (clash_of (one refl))
split_part true false left rest one le = omega arith
split_part false true left rest one le = omega arith
split_part false false left rest one le = omega arith

split_whole : (a b : Bool) (left best : ℕ) → (a ≡ true → b ≡ false) → best ≤ left → cond (a || b) best 0 + cond a (left - best) 0 ≡ cond b best 0 + cond a left 0
split_whole true true left best one le = absurd (clash_of (one refl))
split_whole true false left best one le = omega arith
split_whole false true left best one le = omega arith
split_whole false false left best one le = omega arith

-- a filling keeps, of each order, what it traded and what is left together
filled_adds_up : (id : Id) (index : ℕ) (order : Resting) (left : ℕ) (queue : List Resting) → IsApart order.id queue → traded id (filled index order left queue).trades + left_of id (filled index order left queue).queue + own id order.id (filled index order left queue).left ≡ left_of id queue + own id order.id left
filled_adds_up id index order left [] apart = omega arith
filled_adds_up id index order left (best ∷ queue) apart =
    let one = only_one id order.id best.id apart.0 in
    filled_split (λ f. traded id f.trades + left_of id f.queue + own id order.id f.left ≡ left_of id (best ∷ queue) + own id order.id left) index order best left queue
    (λ some c part.
    let t = traded_with id index order best left [] in
    let new = left_more id (leaving best (best.left - left)) queue in
    let old = left_more id best queue in
    let none : own id order.id 0 ≡ 0 = nothing (is_same id order.id) 0 refl in
    let sum = split_part (is_same id order.id) (is_same id best.id) left best.left one (omega arith) in
    omega arith)
    (λ some c whole.
    let t = traded_with id index order best best.left (filled index order (left - best.left) queue).trades in
    let rest = filled_adds_up id index order (left - best.left) queue apart.1 in
    let old = left_more id best queue in
    let sum = split_whole (is_same id order.id) (is_same id best.id) left best.left one whole in
    omega arith)
    (λ stop. omega arith)

left_with : (id : Id) (order : Resting) (left : ℕ) → left_of id (cons_option (with_left order left) []) ≡ own id order.id left
left_with id order left =
    by_cases (left == 0)
    (λ e. let none : left ≡ 0 = grind (arith, nat_tests) in ap (λ o. left_of id (cons_option o [])) (with_none order left none) ∙ sym (nothing (is_same id order.id) left none))
    (λ e. let more : 0 < left = grind (arith, nat_tests) in
    let one = left_more id (leaving order left) [] in
    ap (λ o. left_of id (cons_option o [])) (with_some order left more) ∙ one ∙ omega arith)

-- all that was placed is somewhere
abbrev pub HasAll : List Request → Ledger → Type 0
HasAll commands ledger = (id : Id) → quantity_of id commands ≡ traded id ledger.trades + left_of id ledger.book + left_of id ledger.cancelled

placed_on : (id : Id) (commands : List Request) (command : Request) → quantity_of id (commands ++ command ∷ []) ≡ quantity_of id commands + own id (id_of command) (quantity_placed (asked_by command.op))
placed_on id commands command =
    let f : Request → ℕ = λ c. cond (is_same id (id_of c)) (quantity_placed (asked_by c.op)) 0 in
    omega (arith, sum_by-append f commands (command ∷ []), sum_by-cons f command [])

traded_on : (id : Id) (trades more : List Trade) → traded id (trades ++ more) ≡ traded id trades + traded id more
traded_on id trades more = sum_by-append (λ (t : Trade). cond (takes_part id t) t.quantity 0) trades more

left_on : (id : Id) (orders more : List Resting) → left_of id (orders ++ more) ≡ left_of id orders + left_of id more
left_on id orders more = sum_by-append (λ (o : Resting). cond (is_same id o.id) o.left 0) orders more

left_arranged : (id : Id) (book : List Resting) → left_of id (arranged book) ≡ left_of id book
left_arranged id book = sum_arranged (λ (o : Resting). cond (is_same id o.id) o.left 0) book

left_filtered : (id : Id) (p : Resting → Bool) (orders : List Resting) → left_of id (filter p orders) + left_of id (filter (λ o. not (p o)) orders) ≡ left_of id orders
left_filtered id p orders = sum_by-filter_both p (λ o. not (p o)) (λ o. refl) (λ (o : Resting). cond (is_same id o.id) o.left 0) orders

matched_adds_up : (done : List Request) (command : Request) (order : Resting) (before after : Ledger) → order.id ≡ id_of command → HaveDifferentIds (done ++ command ∷ []) → IsSound done before → IsMatched order before after → (id : Id) →
    traded id after.trades + left_of id after.book + left_of id after.cancelled ≡ traded id before.trades + left_of id before.book + left_of id before.cancelled + own id order.id order.left
matched_adds_up done command order before after mine once sound step id =
    let index = before.applied in
    let book = before.book in
    let f = filled_in index order book in
    let h = remaining f.trades in
    let front = before_others order (arranged book) in
    let back = from_others order (arranged book) in
    let own' = subst (λ i. IsApart i (arranged book)) (sym mine) (apart_new done command before once sound) in
    let different = different_book done command before once sound in
    let some = all_arranged (λ (o : Resting). 1 ≤ o.left) book sound.some in
    let same = matched_determined order before after (after_trades order f.trades before) step (filled_matches order before sound.some) in
    let all = traded_own index order order.left back in
    let left : order.left - traded order.id f.trades ≡ f.left = omega arith in
    let apart = all_back (λ (r : Resting). is_same order.id r.id ≡ false) front back (subst (IsApart order.id) (sym (arranged_parts order book)) own') in
    let trades : traded id after.trades ≡ traded id before.trades + traded id f.trades = ap (λ l. traded id l.trades) same ∙ traded_on id before.trades f.trades in
    let cancelled : left_of id after.cancelled ≡ left_of id before.cancelled = ap (λ l. left_of id l.cancelled) same in
    let rest : left_of id after.book ≡ left_of id (filter_map h book) + own id order.id f.left =
    ap (λ l. left_of id l.book) same ∙ ap (left_of id) (filter_map-append h book (order ∷ [])) ∙ left_on id (filter_map h book) (cons_option (h order) [])
    ∙ ap (λ n. left_of id (filter_map h book) + n) (ap (λ n. left_of id (cons_option (with_left order n) [])) left ∙ left_with id order f.left) in
    let stays : left_of id (filter_map h book) ≡ left_of id front + left_of id f.queue =
    sym (left_arranged id (filter_map h book)) ∙ ap (left_of id) (arranged_lessened h (remaining_lessens f.trades) book ∙ arranged_remaining index order book own' different some) ∙ left_on id front f.queue in
    let was : left_of id book ≡ left_of id front + left_of id back = sym (left_arranged id book) ∙ ap (left_of id) (sym (arranged_parts order book)) ∙ left_on id front back in
    let sum = filled_adds_up id index order order.left back apart in
    omega arith

unchanged_adds_up : (id another : Id) (before after : Ledger) → after ≡ after_other before → traded id after.trades + left_of id after.book + left_of id after.cancelled ≡ traded id before.trades + left_of id before.book + left_of id before.cancelled + own id another 0
unchanged_adds_up id another before after is =
    let none = nothing (is_same id another) 0 refl in
    let same : traded id after.trades + left_of id after.book + left_of id after.cancelled ≡ traded id before.trades + left_of id before.book + left_of id before.cancelled = ap (λ l. traded id l.trades + left_of id l.book + left_of id l.cancelled) is in
    omega arith

obeyed_adds_up : (done : List Request) (command : Request) (symbol : List ℕ) (asked : Option Instruction) (before after : Ledger) → HaveDifferentIds (done ++ command ∷ []) → IsSound done before → IsObeyed (id_of command) symbol asked before after → (id : Id) →
    traded id after.trades + left_of id after.book + left_of id after.cancelled ≡ traded id before.trades + left_of id before.book + left_of id before.cancelled + own id (id_of command) (quantity_placed asked)
obeyed_adds_up done command symbol (Some (Order side price quantity)) before after once sound step id = matched_adds_up done command (record { id = id_of command; symbol = symbol; side = side; price = price; left = quantity }) before after refl once sound step id
obeyed_adds_up done command symbol (Some (Cancel number)) before after once sound step id =
    let p = λ (o : Resting). is_named (record { client = command.client; number = number }) symbol o in
    let none = nothing (is_same id (id_of command)) 0 refl in
    let trades : traded id after.trades ≡ traded id before.trades = ap (λ l. traded id l.trades) step in
    let book : left_of id after.book ≡ left_of id (filter (λ o. not (p o)) before.book) = ap (λ l. left_of id l.book) step in
    let cancelled : left_of id after.cancelled ≡ left_of id before.cancelled + left_of id (filter p before.book) = ap (λ l. left_of id l.cancelled) step ∙ left_on id before.cancelled (filter p before.book) in
    let both = left_filtered id p before.book in
    omega arith
obeyed_adds_up done command symbol None before after once sound step id = unchanged_adds_up id (id_of command) before after step

-- in the ledger of commands with different ids all that was placed is somewhere
pub ledger_has_all : (commands : List Request) (ledger : Ledger) → HaveDifferentIds commands → IsLedgerOf commands ledger → HasAll commands ledger
ledger_has_all commands ledger once is =
    ledger_keeps HasAll (λ done command before after different sound has step id.
    let one = obeyed_adds_up done command (key_of command.op) (asked_by command.op) before after different sound step id in
    let now = has id in
    let more = placed_on id done command in
    omega arith) (λ id. refl) commands ledger once is
