use Rattle.mu_report.proofs.Pushes.{after_flaw}
use Rattle.mu_report.proofs.Prints.{same_line, same_lines}
use Rattle.mu_report.proofs.misreads.print_misread.Goals as goal

pub returns : goal.returns
returns g c =
    let prints = g.P.Printer.Prints in
    let then = g.met.P.Printer.append in
    let last = same_line prints c.as_slice-2.ensures c.print_words-2.ensures in
    then _ _ _ _ _ (same_line prints c.refusal.ensures.bytes c.print_line.ensures)
    (then _ _ _ _ _ (same_line prints c.as_slice.ensures c.print_words.ensures)
    (same_lines prints (after_flaw c.args.misread.now.flaw c.args.misread.now.expected) (then _ _ _ _ _ c.print_flaw.ensures last)))
