use Rattle.std.proofs.Common.{arith}
use Rattle.mu_knowledge.proofs.Widening.{there_long, wrote_long}
use Rattle.mu_knowledge.proofs.held_rows.HeldRows.make_room.Goals as goal

pub returns-clause-room : goal.returns-clause-room
returns-clause-room c k r mine good held =
    let self = c.args.self.now in
    let long = wrote_long k r mine self.written.items held.written in
    let wide = there_long k r mine self.got.items good held.got in
    record {
      written = omega (arith, long, c.in_ok-reserve.ensures.ok, c.in_ok-reserve.ensures.len);
      got = omega (arith, wide, c.in_ok-reserve-2.ensures.ok, c.in_ok-reserve-2.ensures.len);
    }
