use Rattle.std.proofs.Common.{refl}
use Rattle.mu_report.proofs.Prints.{same_lines}
use Rattle.mu_report.proofs.Traces.{asked_clients}
use Rattle.mu_report.proofs.trace.print_job.Goals as goal

pub returns : goal.returns
returns g c =
    let prints = g.P.Printer.Prints in
    let then = g.met.P.Printer.append in
    let clients = same_lines prints (asked_clients _ _ _ refl c.count_of_clients-count.ensures) c.print_clients.ensures in
    then _ _ _ _ _ c.print_settings.ensures (then _ _ _ _ _ clients (then _ _ _ _ _ c.print_script.ensures c.print_words.ensures))
