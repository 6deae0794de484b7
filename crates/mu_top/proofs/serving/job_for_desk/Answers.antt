use Rattle.std.proofs.Common.{None, Some, ap, sym, ◌∙◌}
use Rattle.mu_input.specs.Grammar.{job}
use Rattle.mu_input.specs.Senders.{desk_line}
use Rattle.mu_top.specs.Desks.{at_desk}
use Rattle.mu_top.proofs.Arrived.{left_at_desk}
use Rattle.mu_top.proofs.serving.job_for_desk.Goals as goal
use Rattle.mu_cluster.proofs.RowsMade.{rows_made}

pub returns-in-Err-clause-reading : goal.returns-in-Err-clause-reading
returns-in-Err-clause-reading c = left_at_desk (desk_line c.args.bytes.now) (job c.args.bytes.now) c.in-Err.end c.in-Err.ensures.reading

pub returns-in-Some-clause-reading : goal.returns-in-Some-clause-reading
returns-in-Some-clause-reading c =
    ap (λ found. at_desk found (job c.args.bytes.now)) (sym c.in-Some.ensures.line) ∙ ap (at_desk (Some c.in-Some.line)) c.in-Ok.ensures.reading

pub returns-in-None-clause-reading : goal.returns-in-None-clause-reading
returns-in-None-clause-reading c =
    ap (λ found. at_desk found (job c.args.bytes.now)) (sym c.in-None.ensures.line) ∙ ap (at_desk None) c.in-Ok.ensures.reading

pub returns-in-None-clause-rows : goal.returns-in-None-clause-rows
returns-in-None-clause-rows c = rows_made c.args.bytes.now c.in-Ok.job c.in-Ok.ensures.reading
