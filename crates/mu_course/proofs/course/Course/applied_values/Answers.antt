use Rattle.std.proofs.Common.{◌∙◌, ap, arith, length, take}
use Rattle.mu_model.specs.Knowledge.{applied, has_entry, known}
use Rattle.mu_knowledge.proofs.Fetched.{front_fits}
use Rattle.mu_follow.proofs.Kept.{applied_is}
use Rattle.mu_course.proofs.course.Course.applied_values.Goals as goal

pub returns : goal.returns
returns c = λ k r mine stands.
    let values = c.known.ensures k r mine stands in
    let count = c.applied_count.ensures.tells k r mine stands.replica.held_rows in
    let long = ap length values in
    let fits = front_fits (λ v. has_entry k r v mine) (known k r mine) in
    c.first_values.ensures (omega (arith, fits, long, count))
    ∙ (ap (λ n. take n c.known.result.now) count ∙ (ap (λ l. take (length (applied k r mine)) l) values ∙ applied_is k r mine))
