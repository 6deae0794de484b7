use Rattle.std.proofs.Common.{◌∙◌, ap, arith}
use Rattle.mu_outcome.specs.Entries.{longest}
use Rattle.mu_report.proofs.Sizes.{few_answers}
use Rattle.mu_report.proofs.Lists.{replies_lines-parts}
use Rattle.mu_report.proofs.Prints.{same_lines}
use Rattle.mu_report.proofs.report.print_replies.Goals as goal

pub command_count-count-requires : goal.command_count-count-requires
command_count-count-requires g c =
    rw (c.longest-log.ensures, c.as_slice.ensures) (let few = few_answers c.args.outcome.now c.requires in omega arith)

pub returns : goal.returns
returns g c =
    same_lines g.P.Printer.Prints (replies_lines-parts c.args.outcome.now _ _ _ (c.longest-log.ensures ∙ ap longest c.as_slice.ensures) c.command_count-count.ensures c.as_slice-2.ensures)
    (g.met.P.Printer.append _ _ _ _ _ c.print_numbered.ensures c.print_answers.ensures)
