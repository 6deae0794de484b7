use Rattle.std.proofs.Common.{◌∙◌, ap, arith, length}
use Rattle.mu_verdict.proofs.AttestedItems.{opens_items}
use Rattle.mu_input.proofs.Advancing.{few_lines}
use Rattle.mu_verdict.proofs.finding.finding_of.Goals as goal

pub job_bytes-requires : goal.job_bytes-requires
job_bytes-requires c =
    let few = few_lines c.args.bytes.now in
    let many = ap length c.new-lines.ensures.lines in
    record { few = omega (arith, few, many, c.requires, c.new-lines.ensures.number) }

pub returns-clause-found : goal.returns-clause-found
returns-clause-found c =
    c.attested_items.ensures.found c.args.bytes.now
    (opens_items c.args.bytes.now c.as_slice.result.now c.in_ok-job.job c.new-lines.result c.job_bytes.new.lines c.new-lines.ensures.number c.new-lines.ensures.lines (c.as_slice.ensures.value ∙ c.in_ok-text.ensures.bytes)
    c.in_ok-text.ensures.later c.in_ok-text.ensures.number c.in_ok-job.ensures.reading)

pub returns-clause-end : goal.returns-clause-end
returns-clause-end c =
    c.attested_items.ensures.end c.args.bytes.now
    (opens_items c.args.bytes.now c.as_slice.result.now c.in_ok-job.job c.new-lines.result c.job_bytes.new.lines c.new-lines.ensures.number c.new-lines.ensures.lines (c.as_slice.ensures.value ∙ c.in_ok-text.ensures.bytes)
    c.in_ok-text.ensures.later c.in_ok-text.ensures.number c.in_ok-job.ensures.reading)
