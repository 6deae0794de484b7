use Rattle.std.proofs.Common.{ap, arith, length, map}
use Rattle.mu_report.specs.Books.{resting_line, trade_line}
use Rattle.mu_report.proofs.BookLines.{book_fits}
use Rattle.mu_report.proofs.Prints.{same_lines, same_number}
use Rattle.std.specs.Prelude.{codes}
use Rattle.mu_report.proofs.book.print_book.Goals as goal

pub returns-clause-lines : goal.returns-clause-lines
returns-clause-lines g c =
    let prints = g.P.Printer.Prints in
    let then = g.met.P.Printer.append in
    let traded = c.trades-trades.ensures.trades in
    let rest = c.resting-orders.ensures.resting in
    let trades = then _ _ _ _ _ (same_number prints (codes "trades ") (ap length traded) c.print_numbered.ensures) (same_lines prints (ap (map trade_line) traded) c.print_each.ensures) in
    let orders = then _ _ _ _ _ (same_number prints (codes "resting ") (ap length rest) c.print_numbered-2.ensures) (same_lines prints (ap (map resting_line) rest) c.print_each-2.ensures) in
    then _ _ _ _ _ c.print_words.ensures (then _ _ _ _ _ c.print_heads.ensures (then _ _ _ _ _ trades (then _ _ _ _ _ orders c.print_status.ensures)))

pub returns-clause-fits : goal.returns-clause-fits
returns-clause-fits g c = book_fits c.args.outcome.now c.args.book.now _ _ c.trades-trades.ensures.trades c.resting-orders.ensures.resting c.trades-trades.ensures.few c.resting-orders.ensures.few (omega arith)
