use Rattle.std.proofs.Common.{sym, ◌∙◌}
use Rattle.mu_report.proofs.Traces.{lines_told}
use Rattle.mu_report.proofs.Prints.{same_lines}
use Rattle.mu_report.proofs.trace.print_script.Goals as goal

pub returns-then-has_lines : goal.returns-then-has_lines
returns-then-has_lines g c =
    let then = g.met.P.Printer.append in
    same_lines g.P.Printer.Prints (lines_told c.args.script.now _ _ (sym c.has_lines.ensures ∙ c.if-has_lines.true) c.as_slice.ensures c.as_slice-then-has_lines.ensures)
    (then _ _ _ _ _ c.print_words.ensures (then _ _ _ _ _ c.print_each.ensures c.print_each-then-has_lines.ensures))
