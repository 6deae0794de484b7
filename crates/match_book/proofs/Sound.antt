-- In a ledger each id stands at most once, and each resting order has something left.
use Rattle.std.proofs.Common.{◌≡◌, ◌⊎◌, inl, inr, ℕ, ◌+◌, ◌≤◌, Bool, not, cond, List, [], ◌∷◌, ◌++◌, None, Some, refl, sym, ap, subst, ◌∙◌, arith, append_assoc, append-nil}
use Rattle.std.specs.declared.option.Option.{Option}
use Rattle.std.specs.List.{AllByRecursion, cons_option, count_by, filter, filter_map, sum_by}
use Rattle.std.proofs.lemmas.List.Sums.{sum_by-append, sum_by-cons}
use Rattle.std.proofs.lemmas.List.Filters.{sum_by-filter_both}
use Rattle.kv_store.specs.Commands.{Request, key_of}
use Rattle.match_book.specs.declared.instruction.Instruction.{Instruction}
use Rattle.match_book.specs.declared.instruction.Instruction.TheVariants.{Order, Cancel}
use Rattle.match_book.specs.declared.order.Id.{Id}
use Rattle.match_book.specs.declared.order.Resting.{Resting}
use Rattle.match_book.specs.Ledgers.{HaveDifferentIds, IsLedgerOf, IsMatched, IsObeyed, IsStep, LeadsTo, Ledger, asked_by, empty_ledger, id_of, is_named, leaving, queue_for, remaining, trades_with}
use Rattle.match_book.specs.Places.{arranged, goes_first, is_same}
use Rattle.match_book.proofs.Parting.{all_append, all_filter, by_cases}
use Rattle.match_book.proofs.Arranging.{Lessens}
use Rattle.match_book.proofs.Trading.{HaveSomeLeft}
use Rattle.match_book.proofs.Remaining.{AreDifferent, IsApart, remaining_lessens, remaining_some, same_itself}
use Rattle.match_book.proofs.Fronts.{different_front}

-- a sum over the arrangement is the sum over the book
pub sum_arranged : (f : Resting → ℕ) (book : List Resting) → sum_by f (arranged book) ≡ sum_by f book
sum_arranged f [] = refl
sum_arranged f (first ∷ later) =
    let p = λ (o : Resting). goes_first o first in
    let n = λ (o : Resting). not (goes_first o first) in
    omega (arith, sum_by-append f (filter p (arranged later)) (first ∷ filter n (arranged later)), sum_by-cons f first (filter n (arranged later)), sum_by-filter_both p n (λ o. refl) f (arranged later), sum_arranged f later, sum_by-cons f first later)

-- what holds of all orders of the book holds of all of the arrangement
pub all_arranged : (P : Resting → Type 0) (book : List Resting) → AllByRecursion P book → AllByRecursion P (arranged book)
all_arranged P [] all = tt
all_arranged P (first ∷ later) all =
    let rest = all_arranged P later all.1 in
    all_append P (filter (λ o. goes_first o first) (arranged later)) (first ∷ filter (λ o. not (goes_first o first)) (arranged later)) (all_filter P (λ o. goes_first o first) (arranged later) rest) (all.0, all_filter P (λ o. not (goes_first o first)) (arranged later) rest)

-- how often the id stands there
abbrev pub times : Id → List Resting → ℕ
times id orders = count_by (λ (order : Resting). is_same id order.id) orders

abbrev pub times_placed : Id → List Request → ℕ
times_placed id commands = count_by (λ (command : Request). is_same id (id_of command)) commands

pub times_more : (id : Id) (order : Resting) (orders : List Resting) → times id (order ∷ orders) ≡ cond (is_same id order.id) 1 0 + times id orders
times_more id order orders = sum_by-cons (λ (o : Resting). cond (is_same id o.id) 1 0) order orders

-- an id that stands nowhere is apart
pub apart_from : (id : Id) (orders : List Resting) → times id orders ≡ 0 → IsApart id orders
apart_from id [] none = tt
apart_from id (order ∷ orders) none =
    let more = times_more id order orders in (
      by_cases (is_same id order.id) (λ e. let one : times id (order ∷ orders) ≡ 1 + times id orders = more ∙ ap (λ b. cond b 1 0 + times id orders) e in absurd (omega arith)) (λ e. e),
      apart_from id orders (omega arith),
    )

-- ids that stand once are those of different orders
pub different_from : (orders : List Resting) → ((id : Id) → times id orders ≤ 1) → AreDifferent orders
different_from [] once = tt
different_from (order ∷ orders) once =
    let first : times order.id (order ∷ orders) ≡ 1 + times order.id orders = times_more order.id order orders ∙ ap (λ b. cond b 1 0 + times order.id orders) (same_itself order.id) in
    let here = once order.id in
    (apart_from order.id orders (omega arith), different_from orders (λ id. let more = times_more id order orders in let all = once id in omega arith))

times_option : (id : Id) (order : Resting) (o : Option Resting) (orders : List Resting) → (o ≡ None) ⊎ ((left : ℕ) × (o ≡ Some (leaving order left))) → times id (cons_option o orders) ≤ cond (is_same id order.id) 1 0 + times id orders
times_option id order o orders (inl e) = subst (λ p. times id (cons_option p orders) ≤ cond (is_same id order.id) 1 0 + times id orders) (sym e) (omega arith)
times_option id order o orders (inr e) = subst (λ p. times id (cons_option p orders) ≤ cond (is_same id order.id) 1 0 + times id orders) (sym e.1) (let more = times_more id (leaving order e.0) orders in omega arith)

-- a change that lessens orders brings no id in
pub times_lessened : (h : Resting → Option Resting) → Lessens h → (id : Id) (orders : List Resting) → times id (filter_map h orders) ≤ times id orders
times_lessened h less id [] = omega arith
times_lessened h less id (order ∷ orders) = let one = times_option id order (h order) (filter_map h orders) (less order) in let rest = times_lessened h less id orders in let more = times_more id order orders in omega arith

pub times_filtered : (p : Resting → Bool) (id : Id) (orders : List Resting) → times id (filter p orders) ≤ times id orders
times_filtered p id orders = omega (arith, sum_by-filter_both p (λ o. not (p o)) (λ o. refl) (λ (o : Resting). cond (is_same id o.id) 1 0) orders)

-- what each ledger of commands has
pub record IsSound (commands : List Request) (ledger : Ledger) : Type 0 where
  pub few : (id : Id) → times id ledger.book ≤ times_placed id commands
  pub some : HaveSomeLeft ledger.book

placed_more : (id : Id) (commands : List Request) (command : Request) → times_placed id (commands ++ command ∷ []) ≡ times_placed id commands + cond (is_same id (id_of command)) 1 0
placed_more id commands command =
    let f : Request → ℕ = λ c. cond (is_same id (id_of c)) 1 0 in
    omega (arith, sum_by-append f commands (command ∷ []), sum_by-cons f command [])

kept_sound : (commands : List Request) (command : Request) (before : Ledger) (book : List Resting) → IsSound commands before → ((id : Id) → times id book ≤ times id before.book) → HaveSomeLeft book → (after : Ledger) → after.book ≡ book → IsSound (commands ++ command ∷ []) after
kept_sound commands command before book sound fewer some after is = record {
  few = λ id. subst (λ orders. times id orders ≤ times_placed id (commands ++ command ∷ [])) (sym is) (let a = sound.few id in let b = fewer id in let c = placed_more id commands command in omega arith);
  some = subst HaveSomeLeft (sym is) some;
}

matched_sound : (commands : List Request) (command : Request) (order : Resting) (before after : Ledger) → order.id ≡ id_of command → IsSound commands before → IsMatched order before after → IsSound (commands ++ command ∷ []) after
matched_sound commands command order before after same sound step =
    let trades = trades_with before.applied order (queue_for order before.book) step.quantities in
    let book : after.book ≡ filter_map (remaining trades) (before.book ++ order ∷ []) = ap (λ l. l.book) step.is in
    record {
      few = λ id. subst (λ orders. times id orders ≤ times_placed id (commands ++ command ∷ [])) (sym book)
          (let a = sound.few id in
          let b = times_lessened (remaining trades) (remaining_lessens trades) id (before.book ++ order ∷ []) in
          let f : Resting → ℕ = λ o. cond (is_same id o.id) 1 0 in
          let c : times id (before.book ++ order ∷ []) ≡ times id before.book + cond (is_same id order.id) 1 0 = omega (arith, sum_by-append f before.book (order ∷ []), sum_by-cons f order []) in
          let d = placed_more id commands command in
          let g : Id → ℕ = λ i. cond (is_same id i) 1 0 in
          let e : g order.id ≡ g (id_of command) = ap g same in
          omega arith);
      some = subst HaveSomeLeft (sym book) (remaining_some trades (before.book ++ order ∷ []));
    }

obeyed_sound : (commands : List Request) (command : Request) (symbol : List ℕ) (asked : Option Instruction) (before after : Ledger) → IsSound commands before → IsObeyed (id_of command) symbol asked before after → IsSound (commands ++ command ∷ []) after
obeyed_sound commands command symbol (Some (Order side price quantity)) before after sound step = matched_sound commands command (record { id = id_of command; symbol = symbol; side = side; price = price; left = quantity }) before after refl sound step
obeyed_sound commands command symbol (Some (Cancel number)) before after sound step =
    let p = λ (o : Resting). not (is_named (record { client = command.client; number = number }) symbol o) in
    kept_sound commands command before (filter p before.book) sound (λ id. times_filtered p id before.book) (all_filter (λ (o : Resting). 1 ≤ o.left) p before.book sound.some) after (ap (λ l. l.book) step)
obeyed_sound commands command symbol None before after sound step = kept_sound commands command before before.book sound (λ id. omega arith) sound.some after (ap (λ l. l.book) step)

leads_sound : (done commands : List Request) (before after : Ledger) → IsSound done before → LeadsTo before commands after → IsSound (done ++ commands) after
leads_sound done [] before after sound leads = subst (λ cs. IsSound cs after) (sym (append-nil done)) (subst (IsSound done) (sym leads) sound)
leads_sound done (command ∷ commands) before after sound leads =
    subst (λ cs. IsSound cs after) (append_assoc done (command ∷ []) commands) (leads_sound (done ++ command ∷ []) commands leads.0 after (obeyed_sound done command (key_of command.op) (asked_by command.op) before leads.0 sound leads.1) leads.2)

pub ledger_is_sound : (commands : List Request) (ledger : Ledger) → IsLedgerOf commands ledger → IsSound commands ledger
ledger_is_sound commands ledger is = leads_sound [] commands empty_ledger ledger (record { few = λ id. omega arith; some = tt }) is

-- if the id of the last command is new, none of its orders rests
new_id : (commands : List Request) (command : Request) (ledger : Ledger) → HaveDifferentIds (commands ++ command ∷ []) → IsSound commands ledger → times (id_of command) ledger.book ≡ 0
new_id commands command ledger once sound =
    let f : Request → ℕ = λ c. cond (is_same (id_of command) (id_of c)) 1 0 in
    let one : f command ≡ 1 = ap (λ b. cond b 1 0) (same_itself (id_of command)) in
    let few = sound.few (id_of command) in
    let all = once (id_of command) in
    omega (arith, sum_by-append f commands (command ∷ []), sum_by-cons f command [])

-- an id stands once at most
once_each : (commands : List Request) (command : Request) (ledger : Ledger) → HaveDifferentIds (commands ++ command ∷ []) → IsSound commands ledger → (id : Id) → times id ledger.book ≤ 1
once_each commands command ledger once sound id =
    let f : Request → ℕ = λ c. cond (is_same id (id_of c)) 1 0 in
    let few = sound.few id in
    let all = once id in
    omega (arith, sum_by-append f commands (command ∷ []))

-- so it is apart from all that rest
pub apart_new : (commands : List Request) (command : Request) (ledger : Ledger) → HaveDifferentIds (commands ++ command ∷ []) → IsSound commands ledger → IsApart (id_of command) (arranged ledger.book)
apart_new commands command ledger once sound =
    apart_from (id_of command) (arranged ledger.book) (sum_arranged (λ (o : Resting). cond (is_same (id_of command) o.id) 1 0) ledger.book ∙ new_id commands command ledger once sound)

-- and those are different orders
pub different_book : (commands : List Request) (command : Request) (ledger : Ledger) → HaveDifferentIds (commands ++ command ∷ []) → IsSound commands ledger → AreDifferent (arranged ledger.book)
different_book commands command ledger once sound =
    different_from (arranged ledger.book) (λ id. let a = sum_arranged (λ (o : Resting). cond (is_same id o.id) 1 0) ledger.book in let b = once_each commands command ledger once sound id in omega arith)

-- what each step keeps
abbrev pub IsKept : (List Request → Ledger → Type 0) → Type 0
IsKept K = (done : List Request) (command : Request) (before after : Ledger) → HaveDifferentIds (done ++ command ∷ []) → IsSound done before → K done before → IsStep command before after → K (done ++ command ∷ []) after

leads_kept : (K : List Request → Ledger → Type 0) → IsKept K → (done commands : List Request) (before after : Ledger) → HaveDifferentIds (done ++ commands) → IsSound done before → K done before → LeadsTo before commands after → K (done ++ commands) after
leads_kept K step done [] before after once sound now leads = subst (λ cs. K cs after) (sym (append-nil done)) (subst (K done) (sym leads) now)
leads_kept K step done (command ∷ commands) before after once sound now leads =
    let whole : HaveDifferentIds ((done ++ command ∷ []) ++ commands) = subst HaveDifferentIds (sym (append_assoc done (command ∷ []) commands)) once in
    let next = step done command before leads.0 (different_front (done ++ command ∷ []) commands whole) sound now leads.1 in
    subst (λ cs. K cs after) (append_assoc done (command ∷ []) commands)
    (leads_kept K step (done ++ command ∷ []) commands leads.0 after whole (obeyed_sound done command (key_of command.op) (asked_by command.op) before leads.0 sound leads.1) next leads.2)

-- holds of the ledger of all commands with different ids
pub ledger_keeps : (K : List Request → Ledger → Type 0) → IsKept K → K [] empty_ledger → (commands : List Request) (ledger : Ledger) → HaveDifferentIds commands → IsLedgerOf commands ledger → K commands ledger
ledger_keeps K step start commands ledger once is = leads_kept K step [] commands empty_ledger ledger once (record { few = λ id. omega arith; some = tt }) start is
