use Rattle.std.proofs.Common.{◌<◌, ◌≤◌, ap, arith, drop, length, subst}
use Rattle.std.proofs.Math.Logic.{∥∥₁_elim}
use Rattle.std.specs.Coded.{le_prop}
use Rattle.mu_follow.specs.Groups.{groups_of}
use Rattle.mu_eras.specs.Applied.{Applies}
use Rattle.mu_eras.specs.Holding.{handed_by}
use Rattle.mu_eras.proofs.Ends.{caught_up, is_whole, room_to_catch_up}
use Rattle.mu_eras.proofs.Handing.{group_same}
use Rattle.mu_eras.proofs.ending.catch_up.Goals as goal

pub take-requires-clause-room : goal.take-requires-clause-room
take-requires-clause-room c = ∥∥₁_elim c.requires.holds le_prop (λ h.
    let live = c.args.engine.now in
    let a = c.args.applied.now in
    let n = c.args.applied.now.entries in
    let low : c.args.from < c.args.engine.now.job.config.replicas = omega (arith, c.requires.from, c.config.ensures.replicas) in
    let there : c.args.r < c.args.engine.now.job.config.replicas = omega (arith, c.requires.there, c.config.ensures.replicas) in
    let long = ap length c.handed_by-entries.ensures in
    let within : c.args.applied.now.entries ≤ length (handed_by c.args.engine.now c.args.from) = omega (arith, c.if-applied-entries.true, long) in
    let same = group_same c.config-then-applied-entries.result.now live.job.config c.commands.result.now live.job.commands c.handed_by-entries.result.now (handed_by live c.args.from) n c.config-then-applied-entries.ensures.config c.commands.ensures c.handed_by-entries.ensures in
    let fits = room_to_catch_up h.0 live c.args.from c.args.r a c.events.ensures.moment low there within h.1 in
    let room = h.1.room in
    let alike = ap length same in
    omega (arith, fits, room, alike))

pub take-requires-clause-few : goal.take-requires-clause-few
take-requires-clause-few c = ∥∥₁_elim c.requires.holds le_prop (λ h.
    let live = c.args.engine.now in
    let a = c.args.applied.now in
    let n = c.args.applied.now.entries in
    let low : c.args.from < c.args.engine.now.job.config.replicas = omega (arith, c.requires.from, c.config.ensures.replicas) in
    let there : c.args.r < c.args.engine.now.job.config.replicas = omega (arith, c.requires.there, c.config.ensures.replicas) in
    let long = ap length c.handed_by-entries.ensures in
    let within : c.args.applied.now.entries ≤ length (handed_by c.args.engine.now c.args.from) = omega (arith, c.if-applied-entries.true, long) in
    let same = group_same c.config-then-applied-entries.result.now live.job.config c.commands.result.now live.job.commands c.handed_by-entries.result.now (handed_by live c.args.from) n c.config-then-applied-entries.ensures.config c.commands.ensures c.handed_by-entries.ensures in
    let fits = room_to_catch_up h.0 live c.args.from c.args.r a c.events.ensures.moment low there within h.1 in
    let most = c.is_within_limits.ensures.few in
    let alike = ap length same in
    omega (arith, fits, most, alike))

pub returns-then-applied-entries-clause-holds : goal.returns-then-applied-entries-clause-holds
returns-then-applied-entries-clause-holds c base held =
    let live = c.args.engine.now in
    let a = c.args.applied.now in
    let n = c.args.applied.now.entries in
    let low : c.args.from < c.args.engine.now.job.config.replicas = omega (arith, c.requires.from, c.config.ensures.replicas) in
    let there : c.args.r < c.args.engine.now.job.config.replicas = omega (arith, c.requires.there, c.config.ensures.replicas) in
    let long = ap length c.handed_by-entries.ensures in
    let within : c.args.applied.now.entries ≤ length (handed_by c.args.engine.now c.args.from) = omega (arith, c.if-applied-entries.true, long) in
    let same = group_same c.config-then-applied-entries.result.now live.job.config c.commands.result.now live.job.commands c.handed_by-entries.result.now (handed_by live c.args.from) n c.config-then-applied-entries.ensures.config c.commands.ensures c.handed_by-entries.ensures in
    caught_up base live c.args.from c.args.r a c.take.new.self c.args.replies.now c.take.new.replies c.events.ensures.moment low there c.requires.settled within held
    (subst (λ l. Applies l (groups_of c.args.engine.now.job.config c.args.engine.now.job.commands (drop c.args.applied.now.entries (handed_by c.args.engine.now c.args.from))) c.args.applied.now c.take.new.self c.args.replies.now c.take.new.replies) c.commands.ensures
    (subst (λ g. Applies c.commands.result.now g c.args.applied.now c.take.new.self c.args.replies.now c.take.new.replies) same c.take.ensures.applies))

pub returns-else-applied-entries-clause-holds : goal.returns-else-applied-entries-clause-holds
returns-else-applied-entries-clause-holds c base held =
    let live = c.args.engine.now in
    let a = c.args.applied.now in
    let n = c.args.applied.now.entries in
    let low : c.args.from < c.args.engine.now.job.config.replicas = omega (arith, c.requires.from, c.config.ensures.replicas) in
    let there : c.args.r < c.args.engine.now.job.config.replicas = omega (arith, c.requires.there, c.config.ensures.replicas) in
    let long = ap length c.handed_by-entries.ensures in
    let beyond : length (handed_by c.args.engine.now c.args.from) ≤ c.args.applied.now.entries = omega (arith, c.if-applied-entries.false, long) in
    is_whole base live c.args.from c.args.r a c.events.ensures.moment low there c.requires.settled beyond held

pub returns-then-applied-entries-clause-room : goal.returns-then-applied-entries-clause-room
returns-then-applied-entries-clause-room c = ∥∥₁_elim c.requires.holds le_prop (λ h.
    let live = c.args.engine.now in
    let a = c.args.applied.now in
    let n = c.args.applied.now.entries in
    let low : c.args.from < c.args.engine.now.job.config.replicas = omega (arith, c.requires.from, c.config.ensures.replicas) in
    let there : c.args.r < c.args.engine.now.job.config.replicas = omega (arith, c.requires.there, c.config.ensures.replicas) in
    let long = ap length c.handed_by-entries.ensures in
    let within : c.args.applied.now.entries ≤ length (handed_by c.args.engine.now c.args.from) = omega (arith, c.if-applied-entries.true, long) in
    let same = group_same c.config-then-applied-entries.result.now live.job.config c.commands.result.now live.job.commands c.handed_by-entries.result.now (handed_by live c.args.from) n c.config-then-applied-entries.ensures.config c.commands.ensures c.handed_by-entries.ensures in
    let fits = room_to_catch_up h.0 live c.args.from c.args.r a c.events.ensures.moment low there within h.1 in
    let used = c.take.ensures.applies.room in
    let alike = ap length same in
    omega (arith, fits, used, alike))
