use Rattle.mu_report.proofs.Pushes.{both_parts}
use Rattle.mu_report.proofs.Prints.{same_lines}
use Rattle.mu_report.proofs.reasons.print_explained.Goals as goal

pub returns-in-Some : goal.returns-in-Some
returns-in-Some g c =
    let then = g.met.P.Printer.append in
    same_lines g.P.Printer.Prints (both_parts c.args.events c.args.line c.args.broken.now c.in-Some.broken _ _ _ c.in-Some.is c.first_line.ensures.bytes c.event_line.ensures.bytes c.fault_line.ensures.bytes)
    (then _ _ _ _ _ c.print_line.ensures (then _ _ _ _ _ c.print_line-in-Some.ensures c.print_line-in-Some-2.ensures))
