use Rattle.std.proofs.Common.{arith}
use Rattle.mu_knowledge.proofs.known_log.KnownLog.make_room.Goals as goal

pub returns-clause-room : goal.returns-clause-room
returns-clause-room c r mine held =
    let seen = held.positions in
    record {
      by_client = c.in_ok-make_room.ensures.room c.args.config.now held.values.by_client;
      values = omega (arith, c.in_ok-reserve_to.ensures.room, c.saturating_add.ensures, c.positions_in.ensures.count, c.requires.few);
      seen = omega (arith, seen, c.in_ok-reserve.ensures.ok, c.in_ok-reserve.ensures.len);
    }
