use Rattle.match_book.specs.Ledgers.{empty_ledger}
use Rattle.match_book.proofs.Ledgers.{leads_determined}
use Rattle.match_book.proofs.ledgers_are_determined.Goals as goal

pub returns : goal.returns
returns c = λ commands one another first second. leads_determined commands empty_ledger one another first second
