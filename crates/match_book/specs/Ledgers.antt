-- ledger, step of a command: the resting orders in order of arrival, all trades and all cancels;
-- how a command changes them; and an order's trades, as a relation.
use Rattle.std.specs.Prelude.{ℕ, ◌≡◌, ◌⊎◌, ◌+◌, ◌-◌, ◌<◌, ◌≤◌, ◌==◌, Bool, not, if◌then◌else◌, ◌&&◌, ◌||◌, List, [], ◌∷◌, ◌++◌, length, map, sum, sum_by, count_by, filter, filter_map, slice_index, slice_index_or, None, Some}
use Rattle.std.specs.declared.option.Option.{Option}
use Rattle.std.specs.Str.{bytes_eq}
use Rattle.kv_store.specs.Commands.{Request, key_of}
use Rattle.kv_store.specs.declared.command.Op.{Op}
use Rattle.kv_store.specs.declared.command.Op.TheVariants.{Put}
use Rattle.match_book.specs.declared.instruction.Instruction.{Instruction}
use Rattle.match_book.specs.declared.instruction.Instruction.TheVariants.{Order, Cancel}
use Rattle.match_book.specs.declared.order.Id.{Id}
use Rattle.match_book.specs.declared.order.Resting.{Resting}
use Rattle.match_book.specs.declared.order.Side.{Side}
use Rattle.match_book.specs.declared.order.Side.TheVariants.{Buy, Sell}
use Rattle.match_book.specs.declared.order.Trade.{Trade}
use Rattle.match_book.specs.Orders.{instruction_of}
use Rattle.match_book.specs.Places.{arranged, crosses, is_same}

-- what commands lead to
pub record Ledger : Type 0 where
  -- how many commands there were
  pub applied : ℕ
  -- the resting orders, in order of arrival
  pub book : List Resting
  -- all trades, in order
  pub trades : List Trade
  -- the orders that cancels took from the book, with what was left of them
  pub cancelled : List Resting

-- the ledger before any command
abbrev pub empty_ledger : Ledger
empty_ledger = record { applied = 0; book = []; trades = []; cancelled = [] }

-- the order bought or sold in the trade
abbrev pub takes_part : Id → Trade → Bool
takes_part id trade = is_same id trade.buy || is_same id trade.sell

-- how much the order traded in these trades
abbrev pub traded : Id → List Trade → ℕ
traded id trades =
    sum_by (λ (trade : Trade). if takes_part id trade then trade.quantity else 0) trades

-- the same order with this much left
abbrev pub leaving : Resting → ℕ → Resting
leaving order left =
    record
    { id = order.id; symbol = order.symbol; side = order.side; price = order.price; left = left }

-- the order with this much left, if that is something
abbrev pub with_left : Resting → ℕ → Option Resting
with_left order left = if left == 0 then None else Some (leaving order left)

-- what these trades leave of an order: nothing of a fully traded one, and the difference of a
-- partly traded one
abbrev pub remaining : List Trade → Resting → Option Resting
remaining trades order = with_left order (order.left - traded order.id trades)

-- which of two orders buys, if the first is of this side
abbrev pub buyer : Side → Id → Id → Id
buyer Buy one another = one
buyer Sell one another = another

-- the trade of an order with a resting one, at the price of the resting one
abbrev pub trade_with : ℕ → Resting → Resting → ℕ → Trade
trade_with index order resting quantity = record {
  index = index;
  buy = buyer order.side order.id resting.id;
  sell = buyer order.side resting.id order.id;
  symbol = order.symbol;
  price = resting.price;
  quantity = quantity;
}

-- the trades of an order with the first of these resting ones, in these quantities
abbrev pub trades_with : ℕ → Resting → List Resting → List ℕ → List Trade
trades_with index order [] quantities = []
trades_with index order (resting ∷ queue) [] = []
trades_with index order (resting ∷ queue) (quantity ∷ quantities) =
    trade_with index order resting quantity ∷ trades_with index order queue quantities

-- the resting orders that an order crosses, the one that is before all others first
abbrev pub queue_for : Resting → List Resting → List Resting
queue_for order book = filter (crosses order) (arranged book)

-- the quantities that an order of a quantity trades with the first of the orders that it crosses
pub record AreTraded (quantity : ℕ) (queue : List Resting) (quantities : List ℕ) : Type 0 where
  -- one for each of the first orders
  pub few : length quantities ≤ length queue
  -- each but the last trades all that is left there
  pub whole :
      (k : ℕ) (d : Resting) → k + 1 < length quantities
      → slice_index quantities k ≡ (slice_index_or queue k d).left
  -- the last trades at least 1 and at most that
  pub last :
      (k : ℕ) (d : Resting) → k + 1 ≡ length quantities
      → (1 ≤ slice_index quantities k)
      × (slice_index quantities k ≤ (slice_index_or queue k d).left)
  -- they are the quantity together, or all orders traded whole and it is more
  pub enough :
      (sum quantities ≡ quantity)
      ⊎ ((quantities ≡ map (λ (resting : Resting). resting.left) queue)
      × (sum quantities < quantity))

-- an order with its trades: it comes last, and what the trades leave stays
abbrev pub after_trades : Resting → List Trade → Ledger → Ledger
after_trades order trades before = record {
  applied = before.applied + 1;
  book = filter_map (remaining trades) (before.book ++ order ∷ []);
  trades = before.trades ++ trades;
  cancelled = before.cancelled;
}

-- the step of an order
pub record IsMatched (order : Resting) (before after : Ledger) : Type 0 where
  pub quantities : List ℕ
  pub are_traded : AreTraded order.left (queue_for order before.book) quantities
  pub is :
      after
      ≡ after_trades order
      (trades_with before.applied order (queue_for order before.book) quantities) before

-- the order is the one of this id, and of this symbol
abbrev pub is_named : Id → List ℕ → Resting → Bool
is_named id symbol order = is_same id order.id && bytes_eq symbol order.symbol

-- the step of a cancel: the named order leaves the book, if it is there
abbrev pub after_cancel : Id → List ℕ → Ledger → Ledger
after_cancel id symbol before = record {
  applied = before.applied + 1;
  book = filter (λ order. not (is_named id symbol order)) before.book;
  trades = before.trades;
  cancelled = before.cancelled ++ filter (is_named id symbol) before.book;
}

-- the step of any other command
abbrev pub after_other : Ledger → Ledger
after_other before =
    record {
      applied = before.applied
          + 1;
      book = before.book;
      trades = before.trades;
      cancelled = before.cancelled;
    }

-- the step of a command with this id and key, by what it asks for
abbrev pub IsObeyed : Id → List ℕ → Option Instruction → Ledger → Ledger → Type 0
IsObeyed id symbol (Some (Order side price quantity)) before after =
    IsMatched (record { id = id; symbol = symbol; side = side; price = price; left = quantity })
    before after
IsObeyed id symbol (Some (Cancel number)) before after =
    after ≡ after_cancel (record { client = id.client; number = number }) symbol before
IsObeyed id symbol None before after = after ≡ after_other before

-- what an operation asks of the book: only a put may ask for something, of the symbol that is its
-- key
abbrev pub asked_by : Op → Option Instruction
asked_by (Put symbol text) = instruction_of text
asked_by _ = None

-- the id of the order that a command places, if it places one
abbrev pub id_of : Request → Id
id_of command = record { client = command.client; number = command.number }

-- the step of a command
abbrev pub IsStep : Request → Ledger → Ledger → Type 0
IsStep command before after =
    IsObeyed (id_of command) (key_of command.op) (asked_by command.op) before after

-- commands lead from one ledger to another
abbrev pub LeadsTo : Ledger → List Request → Ledger → Type 0
LeadsTo before [] after = after ≡ before
LeadsTo before (command ∷ commands) after =
    (middle : Ledger) × IsStep command before middle × LeadsTo middle commands after

-- the ledger of these commands
abbrev pub IsLedgerOf : List Request → Ledger → Type 0
IsLedgerOf commands ledger = LeadsTo empty_ledger commands ledger

-- no two commands have one id
abbrev pub HaveDifferentIds : List Request → Type 0
HaveDifferentIds commands =
    (id : Id) → count_by (λ (command : Request). is_same id (id_of command)) commands ≤ 1
