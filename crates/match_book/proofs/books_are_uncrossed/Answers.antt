use Rattle.std.proofs.Common.{◌≡◌, false, get_or, subst}
use Rattle.match_book.specs.Places.{crosses}
use Rattle.match_book.proofs.Crossing.{below_sell, free_at, ledger_is_free}
use Rattle.match_book.proofs.books_are_uncrossed.Goals as goal

pub returns : goal.returns
returns c = λ commands ledger once is buy sell buys sells bought sold same.
    let free = free_at ledger.book buys.0 sells.0 buy sell (ledger_is_free commands ledger once is) buys.1 sells.1 in
    let first = subst (λ o. crosses o (get_or ledger.book sells.0 sell) ≡ false) buys.2 free in
    below_sell buy sell (subst (λ o. crosses buy o ≡ false) sells.2 first) bought sold same
