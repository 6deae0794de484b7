use Rattle.match_book.proofs.Adding.{ledger_has_all}
use Rattle.match_book.proofs.adds_up.Goals as goal

pub returns : goal.returns
returns c = λ commands ledger once is id. ledger_has_all commands ledger once is id
