use Rattle.std.proofs.Common.{arith}
use Rattle.mu_model.specs.Leaderships.{is_member}
use Rattle.mu_lead.proofs.Writes.{where_is}
use Rattle.mu_lead.proofs.recording.set_members.Goals as goal

pub returns-clause-is : goal.returns-clause-is
returns-clause-is c = λ r mine seven leading.
    let all = c.loop-p-test.false in
    let kept = c.loop-p.invariant in
    where_is (λ p. is_member r p mine) c.args.number c.args.table.now c.loop-p.table kept.long (λ q low member. kept.members r mine q (omega (arith, low, seven, all)) seven leading member) (λ q stranger. kept.others r mine q leading stranger)
