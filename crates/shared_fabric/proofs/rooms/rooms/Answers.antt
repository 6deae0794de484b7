use Rattle.std.proofs.Common.{rules, sym, subst, arith, List, All}
use Rattle.std.specs.Arc.{arc_value}
use Rattle.std.proofs.lemmas.List.Elements.{All-push}
use Rattle.shared_fabric.specs.declared.rooms.Room.{Room}
use Rattle.shared_fabric.specs.Rooms.{IsRoom}
use Rattle.shared_fabric.proofs.rooms.rooms.Goals as goal

pub loop-preserved : goal.loop-preserved
loop-preserved c =
    let P : Room → Type 0 = IsRoom (arc_value c.args.words.now) c.args.config.now in
    let room : Room = record { words = c.in_ok-try_clone.field-0; found = c.in_ok-with_room.field-0 } in (
      omega (arith, c.in_ok-push.ensures.len, c.loop.invariant.0),
      subst (λ (l : List Room). All P l) (sym {A = List Room} c.in_ok-push.ensures.items)
          (All-push P c.loop.rooms.items room c.loop.invariant.1 record { of = search rules; found = c.in_ok-with_room.ensures.stands }),
    )
