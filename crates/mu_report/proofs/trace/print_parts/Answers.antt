use Rattle.mu_report.proofs.Prints.{same_lines}
use Rattle.mu_report.proofs.Traces.{behind_job}
use Rattle.mu_report.proofs.trace.print_parts.Goals as goal

pub returns : goal.returns
returns g c =
    let then = g.met.P.Printer.append in
    same_lines g.P.Printer.Prints (behind_job c.args.config.now c.args.commands.now c.args.script.now c.args.journal.now.events)
    (then _ _ _ _ _ c.print_job.ensures (then _ _ _ _ _ c.print_events.ensures c.print_words.ensures))
