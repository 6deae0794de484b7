use Rattle.std.proofs.Common.{◌≡◌, ◌∙◌, ◌<◌, ◌≤◌, Some, arith, length, refl, set}
use Rattle.std.specs.Prelude.{slice_index_or}
use Rattle.std.specs.List.{slice_get}
use Rattle.std.proofs.lemmas.List.{length-set}
use Rattle.std.proofs.lemmas.Option.{slice_get-get_or, slice_get_within}
use Rattle.kv_store.specs.Tables.{Table}
use Rattle.mu_engine.specs.Live.{Live}
use Rattle.mu_eras.specs.Holding.{HoldStores}
use Rattle.mu_eras.proofs.Ends.{applied_kept, ended_set}
use Rattle.mu_eras.proofs.Handing.{hold_set}
use Rattle.mu_eras.proofs.ending.make_room.Goals as goal

pub returns-in_err-make_room-clause-holds : goal.returns-in_err-make_room-clause-holds
returns-in_err-make_room-clause-holds c base live held =
    let stores = c.loop-k.stores in
    let k = c.loop-k.k in
    let low : c.loop-k.k < length c.loop-k.stores = omega (arith, c.loop-k-test.true, c.loop-k.invariant.stores) in
    let old = slice_index_or stores k c.index-stores-k.result in
    let new = c.make_room.new.self in
    let at : slice_get stores k ≡ Some old = slice_get-get_or stores k c.index-stores-k.result low in
    let on : (base : Table) (live : Live) → HoldStores base live c.args.stores.now → HoldStores base live (set c.loop-k.stores c.loop-k.k c.make_room.new.self) =
    λ base live held. hold_set base live stores k new low (c.loop-k.invariant.holds base live held)
    (applied_kept base live k old new c.make_room.ensures.table c.make_room.ensures.keeps c.make_room.ensures.entries c.make_room.ensures.commands (c.loop-k.invariant.holds base live held k old at)) in
    on base live held

pub loop-k-preserved : goal.loop-k-preserved
loop-k-preserved c =
    let stores = c.loop-k.stores in
    let k = c.loop-k.k in
    let low : c.loop-k.k < length c.loop-k.stores = omega (arith, c.loop-k-test.true, c.loop-k.invariant.stores) in
    let old = slice_index_or stores k c.index-stores-k.result in
    let new = c.make_room.new.self in
    let at : slice_get stores k ≡ Some old = slice_get-get_or stores k c.index-stores-k.result low in
    let on : (base : Table) (live : Live) → HoldStores base live c.args.stores.now → HoldStores base live (set c.loop-k.stores c.loop-k.k c.make_room.new.self) =
    λ base live held. hold_set base live stores k new low (c.loop-k.invariant.holds base live held)
    (applied_kept base live k old new c.make_room.ensures.table c.make_room.ensures.keeps c.make_room.ensures.entries c.make_room.ensures.commands (c.loop-k.invariant.holds base live held k old at)) in
    record {
      stores = length-set stores k new ∙ c.loop-k.invariant.stores;
      done = ended_set (λ x. c.args.room ≤ x.store.room) stores k new k refl low c.loop-k.invariant.done c.in_ok-make_room.ensures.room;
      holds = on;
    }

pub returns-clause-room : goal.returns-clause-room
returns-clause-room c r a at =
    let within = slice_get_within c.loop-k.stores r a at in
    c.loop-k.invariant.done r a (omega (arith, within, c.loop-k-test.false, c.loop-k.auto.k-end, c.loop-k.invariant.stores)) at
