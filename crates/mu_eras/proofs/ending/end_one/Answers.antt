use Rattle.std.proofs.Common.{ap, arith}
use Rattle.mu_eras.proofs.Ends.{is_ended}
use Rattle.mu_eras.proofs.ending.end_one.Goals as goal

pub returns-clause-room : goal.returns-clause-room
returns-clause-room c =
    let same = ap (λ s. s.room) c.begin.ensures.store in
    omega (arith, c.catch_up.ensures.room, same)

pub returns-clause-holds : goal.returns-clause-holds
returns-clause-holds c base held = is_ended base c.args.engine.now c.catch_up.new.applied c.begin.new.self (c.catch_up.ensures.holds base held) c.begin.ensures.store c.begin.ensures.entries c.begin.ensures.commands
