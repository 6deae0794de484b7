use Rattle.std.proofs.Common.{refl}
use Rattle.mu_report.proofs.sentence.push_value.Goals as goal

pub returns-in-Byte-clause-bytes : goal.returns-in-Byte-clause-bytes
returns-in-Byte-clause-bytes c = rw c.in-Byte.is (rw c.push_number.ensures.bytes (rw c.from.ensures refl))

pub returns-in-Short-clause-bytes : goal.returns-in-Short-clause-bytes
returns-in-Short-clause-bytes c = rw c.in-Short.is (rw c.push_number-in-Short.ensures.bytes (rw c.from-in-Short.ensures refl))

pub returns-in-Wide-clause-bytes : goal.returns-in-Wide-clause-bytes
returns-in-Wide-clause-bytes c = rw c.in-Wide.is (rw c.push_number-in-Wide.ensures.bytes (rw c.from-in-Wide.ensures refl))

pub returns-in-Long-clause-bytes : goal.returns-in-Long-clause-bytes
returns-in-Long-clause-bytes c = rw c.in-Long.is (rw c.push_number-in-Long.ensures.bytes refl)

pub returns-in-Count-clause-bytes : goal.returns-in-Count-clause-bytes
returns-in-Count-clause-bytes c = rw c.in-Count.is (rw c.push_number-in-Count.ensures.bytes refl)

pub returns-in-Region-clause-bytes : goal.returns-in-Region-clause-bytes
returns-in-Region-clause-bytes c = rw c.in-Region.is (rw c.push_region.ensures.bytes refl)

pub returns-in-Own-clause-bytes : goal.returns-in-Own-clause-bytes
returns-in-Own-clause-bytes c = rw c.in-Own.is (rw c.push_own.ensures.bytes refl)

pub returns-in-Entered-clause-bytes : goal.returns-in-Entered-clause-bytes
returns-in-Entered-clause-bytes c = rw c.in-Entered.is (rw c.push_entered.ensures.bytes refl)

pub returns-in-Seen-clause-bytes : goal.returns-in-Seen-clause-bytes
returns-in-Seen-clause-bytes c = rw c.in-Seen.is (rw c.push_answer.ensures.bytes refl)
