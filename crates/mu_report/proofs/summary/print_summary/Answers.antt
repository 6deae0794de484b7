use Rattle.std.proofs.Common.{◌∙◌, ap, arith}
use Rattle.mu_report.specs.Summary.{counts_line}
use Rattle.mu_report.proofs.Summaries.{summary_fits}
use Rattle.mu_report.proofs.Prints.{same_line, same_number}
use Rattle.std.specs.Prelude.{codes}
use Rattle.mu_report.proofs.summary.print_summary.Goals as goal

pub returns-clause-lines : goal.returns-clause-lines
returns-clause-lines g c =
    let prints = g.P.Printer.Prints in
    let then = g.met.P.Printer.append in
    then _ _ _ _ _ (same_number prints (codes "bulk ") c.len.ensures c.print_numbered.ensures)
    (then _ _ _ _ _ c.print_heads.ensures (then _ _ _ _ _ (same_line prints (c.counts_line.ensures.bytes ∙ ap counts_line c.as_slice.ensures) c.print_line.ensures) c.print_status.ensures))

pub returns-clause-fits : goal.returns-clause-fits
returns-clause-fits g c = summary_fits c.args.outcome.now (omega arith)
