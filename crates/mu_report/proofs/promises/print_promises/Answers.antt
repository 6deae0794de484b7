use Rattle.std.proofs.Common.{ap, ◌+◌, ◌++◌, ◌∙◌}
use Rattle.std.specs.Prelude.{codes}
use Rattle.mu_report.proofs.Prints.{same_line}
use Rattle.mu_report.specs.Promises.{promise_words}
use Rattle.mu_report.proofs.promises.print_promises.Goals as goal

pub returns : goal.returns
returns g c =
    let prints = g.P.Printer.Prints in
    let p = c.args.promises.now in
    g.met.P.Printer.append _ _ _ _ _
    (same_line prints (c.promise_line.ensures.bytes ∙ ap (λ b. codes "committed" ++ promise_words p.budget p.large_ring p.committed (b + 1)) c.from-budget.ensures) c.print_line.ensures)
    (same_line prints (c.promise_line-2.ensures.bytes ∙ ap (λ b. codes "finished" ++ promise_words p.budget p.large_ring p.finished b) c.from-budget.ensures) c.print_line-2.ensures)
