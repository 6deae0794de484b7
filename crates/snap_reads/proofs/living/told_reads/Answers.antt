use Rattle.std.proofs.Common.{List, arith, subst, sym}
use Rattle.snap_reads.specs.declared.sight.Sight.{Sight}
use Rattle.snap_reads.specs.Lives.{AreSights}
use Rattle.snap_reads.proofs.Telling.{read_done, read_more, read_room, told_first}
use Rattle.snap_reads.proofs.living.told_reads.Goals as goal

pub loop-key-init : goal.loop-key-init
loop-key-init c = told_first c.args.told c.args.keys.now c.args.watcher c.learn.new.self c.requires c.learn.ensures

pub see-requires-clause-room : goal.see-requires-clause-room
see-requires-clause-room c =
    let room = read_room _ _ _ _ _ c.loop-key.invariant c.loop-key-test.true in
    omega (arith, room)

pub loop-key-preserved : goal.loop-key-preserved
loop-key-preserved c =
    read_more c.args.told c.args.keys.now c.loop-key.key-index c.loop-key.reader c.see.new.reader c.loop-key.sights c.see.new.sights c.key-item.result c.loop-key.invariant c.loop-key-test.true c.key-item.is
    c.see.ensures.same c.see.ensures.told c.see.ensures.within c.see.ensures.sight c.see.ensures.right c.see.ensures.rise c.see.ensures.room

pub returns : goal.returns
returns c =
    subst (λ (l : List Sight). AreSights c.args.told.list c.args.keys.now l) (sym c.from_vec.ensures)
    (read_done _ _ c.loop-key.key-index _ _ (omega (arith, c.loop-key-test.false, c.loop-key.auto.key-index-end)) c.loop-key.invariant)
