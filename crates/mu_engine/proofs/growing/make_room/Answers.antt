use Rattle.std.proofs.Common.{◌≡◌, ◌∙◌, ◌<◌, Some, ap, arith, inl, inr, length, length-set, refl, subst, sym}
use Rattle.std.specs.Prelude.{slice_index_or}
use Rattle.std.specs.List.{slice_get}
use Rattle.std.proofs.lemmas.Option.{slice_get-get_or, slice_get_within}
use Rattle.mu_model.specs.Contents.{IsConfig}
use Rattle.mu_model.proofs.Lists.{set_get}
use Rattle.mu_node.specs.Growing.{HasRoomForRow}
use Rattle.mu_node.proofs.Growing.{in_turn}
use Rattle.mu_engine.specs.declared.seat.Seat.{Seat}
use Rattle.mu_engine.specs.Seats.{Sits, part_of}
use Rattle.mu_engine.proofs.Holds.{held_map}
use Rattle.mu_engine.proofs.Seating.{seated_set}
use Rattle.mu_engine.proofs.growing.make_room.Goals as goal

pub make_room-requires : goal.make_room-requires
make_room-requires c =
    let k = c.loop-k.k in
    let seats = c.loop-k.seats in
    let low : k < length seats = omega (arith, c.loop-k-test.true, c.loop-k.invariant.count) in
    let sits = c.loop-k.invariant.seated.each k _ (slice_get-get_or seats k c.index-seats-k.result low) in
    record { config = subst IsConfig (sym sits.lives.beside.follow.config) c.requires.config }

pub loop-k-preserved : goal.loop-k-preserved
loop-k-preserved c =
    let k = c.loop-k.k in
    let seats = c.loop-k.seats in
    let f = c.args._port.now.config in
    let events = c.args._port.now.events in
    let old = slice_index_or seats k c.index-seats-k.result in
    let new : Seat = record { node = c.make_room.new.self; hold = old.hold } in
    let low : k < length seats = omega (arith, c.loop-k-test.true, c.loop-k.invariant.count) in
    let at : slice_get seats k ≡ Some old = slice_get-get_or seats k c.index-seats-k.result low in
    let sits = c.loop-k.invariant.seated.each k old at in
    let kept : Sits f k events new = record { lives = c.make_room.ensures.keeps.stands f k (part_of k events) sits.lives; stops = ap (λ v. v.items) c.make_room.ensures.stops ∙ sits.stops; zeal = c.make_room.ensures.zeal ∙ sits.zeal } in
    record {
      count = length-set seats k new ∙ c.loop-k.invariant.count;
      seated = seated_set f events seats k new kept c.loop-k.invariant.seated;
      room = λ r seat below there. elim (set_get seats k new r seat there) [
        | inl here ↦ subst (λ (s : Seat). HasRoomForRow f s.node) here.1 (c.in_ok-make_room.ensures.room f k (part_of k events) (in_turn f k (part_of k events) old.node sits.lives))
        | inr other ↦ c.loop-k.invariant.room r seat (let differ = other.0 in omega (arith, below, differ)) other.1
      ];
      holds = held_map seats k old new at refl ∙ c.loop-k.invariant.holds;
    }

pub returns-in_err-make_room-clause-seated : goal.returns-in_err-make_room-clause-seated
returns-in_err-make_room-clause-seated c =
    let k = c.loop-k.k in
    let seats = c.loop-k.seats in
    let f = c.args._port.now.config in
    let events = c.args._port.now.events in
    let old = slice_index_or seats k c.index-seats-k.result in
    let new : Seat = record { node = c.make_room.new.self; hold = old.hold } in
    let low : k < length seats = omega (arith, c.loop-k-test.true, c.loop-k.invariant.count) in
    let at : slice_get seats k ≡ Some old = slice_get-get_or seats k c.index-seats-k.result low in
    let sits = c.loop-k.invariant.seated.each k old at in
    let kept : Sits f k events new = record { lives = c.make_room.ensures.keeps.stands f k (part_of k events) sits.lives; stops = ap (λ v. v.items) c.make_room.ensures.stops ∙ sits.stops; zeal = c.make_room.ensures.zeal ∙ sits.zeal } in
    seated_set f events seats k new kept c.loop-k.invariant.seated

pub returns-in_err-make_room-clause-holds : goal.returns-in_err-make_room-clause-holds
returns-in_err-make_room-clause-holds c =
    let k = c.loop-k.k in
    let seats = c.loop-k.seats in
    let old = slice_index_or seats k c.index-seats-k.result in
    let new : Seat = record { node = c.make_room.new.self; hold = old.hold } in
    let low : k < length seats = omega (arith, c.loop-k-test.true, c.loop-k.invariant.count) in
    let at : slice_get seats k ≡ Some old = slice_get-get_or seats k c.index-seats-k.result low in
    held_map seats k old new at refl ∙ c.loop-k.invariant.holds

pub returns-clause-room : goal.returns-clause-room
returns-clause-room c = λ r seat there. (let low = slice_get_within c.loop-k.seats r seat there in c.loop-k.invariant.room r seat (omega (arith, low, c.loop-k-test.false, c.loop-k.invariant.count)) there)
