use Rattle.std.proofs.Common.{Some, ap, arith, length, subst}
use Rattle.mu_input.proofs.Advancing.{few_lines}
use Rattle.mu_verdict.proofs.EventLines.{explained_is}
use Rattle.mu_outcome.specs.Breaks.{IsBroken}
use Rattle.mu_verdict.proofs.explaining.line_of.Goals as goal

pub returns : goal.returns
returns c spelled fits all breaks =
    let bytes = c.args.bytes.now in
    let broken = c.args.broken.now in
    let lines = few_lines bytes in
    explained_is bytes spelled (length c.args.events.now) c.count_of_lines.result c.saturating_add.result (Some broken) fits (ap length all) c.count_of_lines.ensures
    (subst (λ es. IsBroken spelled.job.config es broken) all breaks) (omega (arith, lines, c.requires.limit, c.count_of_lines.ensures))
    (λ few within small. omega (arith, few, within, small, c.saturating_sub.ensures, c.saturating_add.ensures))
