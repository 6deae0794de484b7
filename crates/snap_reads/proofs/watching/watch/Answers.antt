use Rattle.std.proofs.Common.{arith, subst}
use Rattle.snap_reads.specs.Lives.{HasWatched}
use Rattle.snap_reads.proofs.Watched.{gets_some, not_empty, watched_length}
use Rattle.snap_reads.proofs.watching.watch.Goals as goal

pub see_behind-requires-clause-step : goal.see_behind-requires-clause-step
see_behind-requires-clause-step g c =
    let long = watched_length _ _ _ _ c.loop-k.invariant in
    omega (arith, long, c.through-passed.ensures.step)

pub see_behind-requires-clause-room : goal.see_behind-requires-clause-room
see_behind-requires-clause-room g c =
    let long = watched_length _ _ _ _ c.loop-k.invariant in
    let room = c.loop-k.invariant.room in
    omega (arith, long, room, c.loop-k-test.true)

pub returns : goal.returns
returns g c =
    let some = not_empty c.args.keys.now c.is_empty.result c.is_empty.ensures c.if-is_empty.false in
    let all = gets_some c.args.keys.now some in
    subst (λ n. HasWatched c.args.watcher.now.reader c.args.keys.now n c.loop-k.watcher)
    (omega (arith, all, c.loop-k-test.false, c.loop-k.auto.k-end)) c.loop-k.invariant
