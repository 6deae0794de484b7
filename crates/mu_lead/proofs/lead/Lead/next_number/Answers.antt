use Rattle.mu_agree.proofs.Readings.{part_numbers_leave_room_law}
use Rattle.std.proofs.Common.{arith}
use Rattle.mu_lead.proofs.lead.Lead.next_number.Goals as goal

pub returns-in-ReadMin : goal.returns-in-ReadMin
returns-in-ReadMin c = λ now is inside possible leading.
    let l = c.args.self.now in
    let few = is.replicas.1 in
    let counts = part_numbers_leave_room_law l.config l.id now is possible in
    rw c.in-ReadMin.is (λ none. c.next_number.ensures l.id now (omega (arith, few, inside)) counts.0 counts.1 leading)
