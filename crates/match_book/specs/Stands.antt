-- stands for (book): the book holds what the commands lead to, in the stated arrangement.
use Rattle.std.specs.Prelude.{ℕ, ◌≡◌, List}
use Rattle.kv_store.specs.Commands.{Request}
use Rattle.match_book.specs.declared.order.Resting.{Resting}
use Rattle.match_book.specs.declared.order.Trade.{Trade}
use Rattle.match_book.specs.Ledgers.{IsLedgerOf, Ledger}
use Rattle.match_book.specs.Places.{arranged}

-- what a book holds
pub record Held : Type 0 where
  -- the resting orders, in the stated arrangement
  pub resting : List Resting
  -- the trades, in order
  pub trades : List Trade
  -- how many commands were applied
  pub applied : ℕ
  -- how many more can be
  pub room : ℕ

-- the book holds what these commands lead to
pub record StandsFor (commands : List Request) (book : Held) : Type 0 where
  pub ledger : Ledger
  pub is_ledger : IsLedgerOf commands ledger
  pub applied : book.applied ≡ ledger.applied
  pub trades : book.trades ≡ ledger.trades
  pub resting : book.resting ≡ arranged ledger.book
