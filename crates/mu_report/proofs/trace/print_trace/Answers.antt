use Rattle.std.proofs.Common.{ap, ◌∙◌}
use Rattle.mu_report.specs.Trace.{events_of, job_lines, lines_of_parts}
use Rattle.mu_report.proofs.Prints.{same_lines}
use Rattle.mu_report.proofs.Traces.{behind_job}
use Rattle.mu_report.proofs.trace.print_trace.Goals as goal

pub returns : goal.returns
returns g c =
    let prints = g.P.Printer.Prints in
    let then = g.met.P.Printer.append in
    let job = c.args.outcome.now.job in
    let head = same_lines prints (ap (λ commands. job_lines job.config commands job.script) c.as_slice.ensures) c.print_job.ensures in
    same_lines prints (behind_job job.config job.commands job.script (events_of c.args.outcome.now.order))
    (then _ _ _ _ _ head (then _ _ _ _ _ c.print_all_events.ensures c.print_words.ensures))
