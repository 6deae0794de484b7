-- The lines of a book, taken from the front, and how many they are.
use Rattle.std.proofs.Common.{◌≡◌, ℕ, suc, ◌+◌, ◌*◌, ◌<◌, ◌≤◌, ◌^◌, List, [], ◌∷◌, ◌++◌, ap, ◌∙◌, length, arith, length-append}
use Rattle.std.specs.Fmt.{decimal}
use Rattle.std.specs.Prelude.{codes}
use Rattle.std.proofs.lemmas.List.{length-map}
use Rattle.match_book.specs.declared.order.Resting.{Resting}
use Rattle.match_book.specs.declared.order.Trade.{Trade}
use Rattle.match_book.specs.Stands.{Held}
use Rattle.mu_outcome.specs.declared.outcome.Outcome.{Outcome}
use Rattle.mu_outcome.specs.Outcomes.{status_of}
use Rattle.mu_report.specs.declared.line.TheConstants.{LINE_BYTES}
use Rattle.mu_report.specs.Books.{book_lines, resting_line, resting_lines, trade_line, trades_lines}
use Rattle.mu_report.specs.Summary.{head_lines}
use Rattle.mu_report.proofs.Summaries.{length-head_lines}

-- the bytes of the whole book can be counted
pub book_fits : (o : Outcome) (book : Held) (trades : List Trade) (orders : List Resting) → trades ≡ book.trades → orders ≡ book.resting → length trades ≤ 65535 → length orders ≤ 65535
    → o.job.config.replicas < 2 ^ 8 → LINE_BYTES * length (book_lines o book) < 2 ^ 64
book_fits o book trades orders traded rest few least low =
    let status : List (List ℕ) = (codes "status " ++ decimal (status_of o)) ∷ [] in
    let same = ap length traded in
    let equal = ap length rest in
    let all : length (trades_lines book.trades) ≡ 1 + length book.trades = ap (λ n. suc n) (length-map book.trades trade_line) ∙ omega arith in
    let still : length (resting_lines book.resting) ≡ 1 + length book.resting = ap (λ n. suc n) (length-map book.resting resting_line) ∙ omega arith in
    let ending : length (resting_lines book.resting ++ status) ≡ length (resting_lines book.resting) + 1 = length-append (resting_lines book.resting) status in
    let middle : length (trades_lines book.trades ++ (resting_lines book.resting ++ status)) ≡ length (trades_lines book.trades) + length (resting_lines book.resting ++ status) = length-append (trades_lines book.trades) (resting_lines book.resting ++ status) in
    let whole : length (book_lines o book) ≡ 1 + (length (head_lines o 0 o.job.config.replicas) + length (trades_lines book.trades ++ (resting_lines book.resting ++ status))) =
    ap (λ n. suc n) (length-append (head_lines o 0 o.job.config.replicas) (trades_lines book.trades ++ (resting_lines book.resting ++ status))) ∙ omega arith in
    omega (arith, length-head_lines o 0 o.job.config.replicas, same, equal, all, still, ending, middle, whole, few, least, low)
