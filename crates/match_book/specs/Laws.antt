-- laws of ledgers: commands lead to only one ledger; no buy is at or above a sell of its symbol;
-- quantities add up.
use Rattle.std.specs.Prelude.{ℕ, ◌≡◌, ◌+◌, ◌<◌, ◌&&◌, Bool, not, filter, List, if◌then◌else◌, Contains, sum_by, None, Some}
use Rattle.std.specs.declared.option.Option.{Option}
use Rattle.std.specs.List.Sorted.{IsPermutation}
use Rattle.kv_store.specs.Commands.{Request}
use Rattle.kv_store.specs.Sessions.{IsInSession}
use Rattle.match_book.specs.declared.instruction.Instruction.{Instruction}
use Rattle.match_book.specs.declared.instruction.Instruction.TheVariants.{Order, Cancel}
use Rattle.match_book.specs.declared.order.Id.{Id}
use Rattle.match_book.specs.declared.order.Resting.{Resting}
use Rattle.match_book.specs.declared.order.Side.TheVariants.{Buy, Sell}
use Rattle.match_book.specs.Ledgers.{HaveDifferentIds, IsLedgerOf, Ledger, asked_by, id_of, traded}
use Rattle.match_book.specs.Places.{IsInOrder, arranged, goes_first, is_same}

-- the two orders are of one symbol, side and price
abbrev pub stands_with : Resting → Resting → Bool
stands_with one another = not (goes_first one another) && not (goes_first another one)

-- the arrangement has the orders of the book and no others, each before those that it goes before,
-- and those of one symbol, side and price in order of arrival
pub record IsArrangement (book arranged : List Resting) : Type 0 where
  pub same : IsPermutation book arranged
  pub in_order : IsInOrder arranged
  pub by_arrival :
      (order : Resting) → filter (stands_with order) arranged ≡ filter (stands_with order) book

abbrev pub BooksAreArranged : Type 0
BooksAreArranged = (book : List Resting) → IsArrangement book (arranged book)

-- commands lead to only one ledger
abbrev pub IsDetermined : Type 0
IsDetermined =
    (commands : List Request) (one another : Ledger) → IsLedgerOf commands one
    → IsLedgerOf commands another → one ≡ another

-- commands in session have different ids
abbrev pub SessionsDiffer : Type 0
SessionsDiffer = (commands : List Request) → IsInSession commands → HaveDifferentIds commands

-- each price at which a symbol is to be bought is below each price at which it is to be sold
abbrev pub IsUncrossed : Type 0
IsUncrossed =
    (commands : List Request) (ledger : Ledger) → HaveDifferentIds commands
    → IsLedgerOf commands ledger → (buy sell : Resting) → Contains ledger.book buy
    → Contains ledger.book sell → buy.side ≡ Buy → sell.side ≡ Sell → buy.symbol ≡ sell.symbol
    → buy.price < sell.price

-- the quantity that an instruction places
abbrev pub quantity_placed : Option Instruction → ℕ
quantity_placed (Some (Order side price quantity)) = quantity
quantity_placed (Some (Cancel number)) = 0
quantity_placed None = 0

-- the quantity of the order of this id, 0 if the command placed none
abbrev pub quantity_of : Id → List Request → ℕ
quantity_of id commands =
    sum_by
    (λ (command : Request).
    if is_same id (id_of command) then quantity_placed (asked_by command.op) else 0)
    commands

-- what is left of the order of this id, 0 if it isn't there
abbrev pub left_of : Id → List Resting → ℕ
left_of id orders =
    sum_by (λ (order : Resting). if is_same id order.id then order.left else 0) orders

-- the quantity of each order is what it traded, what is left in the book, and what was cancelled
abbrev pub AddsUp : Type 0
AddsUp =
    (commands : List Request) (ledger : Ledger) → HaveDifferentIds commands
    → IsLedgerOf commands ledger → (id : Id)
    → quantity_of id commands
    ≡ traded id ledger.trades + left_of id ledger.book + left_of id ledger.cancelled
