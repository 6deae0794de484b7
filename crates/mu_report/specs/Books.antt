-- lines of a book: the trades and the resting orders after a run, as lines without their ends.
use Rattle.std.specs.Prelude.{List, [], ◌∷◌, ◌++◌, ℕ, length, map, codes}
use Rattle.std.specs.Fmt.{decimal}
use Rattle.match_book.specs.declared.order.Id.{Id}
use Rattle.match_book.specs.declared.order.Resting.{Resting}
use Rattle.match_book.specs.declared.order.Side.{Side}
use Rattle.match_book.specs.declared.order.Side.TheVariants.{Buy, Sell}
use Rattle.match_book.specs.declared.order.Trade.{Trade}
use Rattle.match_book.specs.Stands.{Held}
use Rattle.mu_outcome.specs.declared.outcome.Outcome.{Outcome}
use Rattle.mu_outcome.specs.Outcomes.{status_of}
use Rattle.mu_report.specs.Summary.{head_lines}

-- which order it is: its client and its number
abbrev pub id_words : Id → List ℕ
id_words id = decimal id.client ++ codes "." ++ decimal id.number

-- what an order is for
abbrev pub side_words : Side → List ℕ
side_words Buy = codes "B"
side_words Sell = codes "S"

-- a price and a quantity
abbrev pub terms_words : ℕ → ℕ → List ℕ
terms_words price quantity = decimal price ++ codes "x" ++ decimal quantity

-- a trade
abbrev pub trade_line : Trade → List ℕ
trade_line trade =
    decimal trade.index ++ codes " " ++ id_words trade.buy ++ codes " " ++ id_words trade.sell
    ++ codes " "
    ++ trade.symbol
    ++ codes " "
    ++ terms_words trade.price trade.quantity

-- how many trades there are, and the trades in order
abbrev pub trades_lines : List Trade → List (List ℕ)
trades_lines trades = (codes "trades " ++ decimal (length trades)) ∷ map trade_line trades

-- an order that rests, with what is left of it
abbrev pub resting_line : Resting → List ℕ
resting_line order =
    order.symbol ++ codes " " ++ side_words order.side ++ terms_words order.price order.left
    ++ codes " "
    ++ id_words order.id

-- how many orders rest, and the orders in the stated arrangement
abbrev pub resting_lines : List Resting → List (List ℕ)
resting_lines orders = (codes "resting " ++ decimal (length orders)) ∷ map resting_line orders

-- what is told of the logs as a whole, and the whole book
abbrev pub book_lines : Outcome → Held → List (List ℕ)
book_lines o book = codes "book 1"
    ∷
    (head_lines o 0 o.job.config.replicas
    ++ (trades_lines book.trades
    ++ (resting_lines book.resting ++ (codes "status " ++ decimal (status_of o)) ∷ [])))
