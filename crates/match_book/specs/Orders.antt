-- instruction: what the text of a put asks of the book: an order, a cancel, or nothing.
use Rattle.std.specs.Prelude.{ℕ, ◌+◌, ◌==◌, if◌then◌else◌, List, [], ◌∷◌, take, drop, position, None, Some}
use Rattle.std.specs.declared.option.Option.{Option}
use Rattle.kv_store.specs.declared.TheConstants.{LAST_NUMBER}
use Rattle.mu_text.specs.Numbers.{number_of, of_32, within}
use Rattle.match_book.specs.declared.TheConstants.{MOST_AMOUNT, BUY, SELL, CANCEL, TIMES}
use Rattle.match_book.specs.declared.instruction.Instruction.{Instruction}
use Rattle.match_book.specs.declared.instruction.Instruction.TheVariants.{Order, Cancel}
use Rattle.match_book.specs.declared.order.Side.{Side}
use Rattle.match_book.specs.declared.order.Side.TheVariants.{Buy, Sell}

-- a price or a quantity: from 1 to the greatest, without a leading zero
abbrev pub amount_of : List ℕ → Option ℕ
amount_of word = within 1 MOST_AMOUNT (of_32 word)

-- an order, if its price and its quantity are amounts
abbrev pub order_for : Side → Option ℕ → Option ℕ → Option Instruction
order_for side (Some price) (Some quantity) = Some (Order side price quantity)
order_for side _ _ = None

-- the order with its price before the first `x`, and its quantity after it
abbrev pub order_split : Side → List ℕ → Option ℕ → Option Instruction
order_split side terms None = None
order_split side terms (Some at) =
    order_for side (amount_of (take at terms)) (amount_of (drop (at + 1) terms))

abbrev pub order_of : Side → List ℕ → Option Instruction
order_of side terms = order_split side terms (position (λ byte. byte == TIMES) terms)

-- a cancel, if there is a number
abbrev pub cancel_for : Option ℕ → Option Instruction
cancel_for None = None
cancel_for (Some number) = Some (Cancel number)

-- the cancel of the command of the same client that has this number, from 1 to the greatest of a
-- command, without a leading zero
abbrev pub cancel_of : List ℕ → Option Instruction
cancel_of word = cancel_for (within 1 LAST_NUMBER (number_of word))

-- what a text asks for, if it is an order or a cancel
abbrev pub instruction_of : List ℕ → Option Instruction
instruction_of [] = None
instruction_of (letter ∷ rest) =
    if letter == BUY then order_of Buy rest else if letter == SELL then order_of Sell rest
    else if letter == CANCEL then cancel_of rest else None
