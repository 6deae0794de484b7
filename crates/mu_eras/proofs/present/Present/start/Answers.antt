use Rattle.std.proofs.Common.{◌∙◌, [], ap, arith, length}
use Rattle.std.proofs.lemmas.List.{length-replicate}
use Rattle.kv_store.specs.Tables.{store}
use Rattle.mu_engine.specs.Laws.{order_after}
use Rattle.mu_engine.specs.Live.{Live, free}
use Rattle.mu_eras.proofs.Kept.{followed_none}
use Rattle.mu_eras.proofs.Presents.{stores_first, tells_none}
use Rattle.mu_eras.proofs.present.Present.start.Goals as goal

pub returns-clause-inside : goal.returns-clause-inside
returns-clause-inside c =
    let live = c.in_ok-engine.engine in
    let first = c.in_ok-engine.ensures in
    let held_as = ap (λ (l : Live). length l.holds) first ∙ length-replicate c.args.shape.replicas free in
    let commands = ap (λ (l : Live). l.job.commands) first in
    let room = ap (λ (l : Live). l.room) first in
    let none = ap length c.in_ok-replies.ensures.items in
    let empty = ap length commands in
    record {
      count = omega (arith, c.in_ok-stores.ensures.count, held_as);
      places = omega (arith, none, empty);
      space = omega (arith, none, room, c.in_ok-replies.ensures.capacity, c.from-room.ensures);
      stores = ∣ (store [], stores_first live c.from-room.result c.in_ok-stores.stores.items commands (omega (arith, room, c.from-room.ensures)) c.in_ok-stores.ensures.each) ∣₁;
    }

pub returns-clause-holds : goal.returns-clause-holds
returns-clause-holds c =
    let live = c.in_ok-engine.engine in
    let first = c.in_ok-engine.ensures in
    let held_as = ap (λ (l : Live). length l.holds) first ∙ length-replicate c.args.shape.replicas free in
    let commands = ap (λ (l : Live). l.job.commands) first in
    let room = ap (λ (l : Live). l.room) first in
    let none = ap length c.in_ok-replies.ensures.items in
    let empty = ap length commands in
    record {
      eras = tt;
      moment = c.events.ensures.moment;
      count = omega (arith, c.in_ok-stores.ensures.count, held_as);
      places = omega (arith, none, empty);
      space = omega (arith, none, room, c.in_ok-replies.ensures.capacity, c.from-room.ensures);
      stores = stores_first live c.from-room.result c.in_ok-stores.stores.items commands (omega (arith, room, c.from-room.ensures)) c.in_ok-stores.ensures.each;
      told = tells_none (store []) live.job.commands (order_after live.job live.events) c.in_ok-replies.replies.items c.in_ok-replies.ensures.items;
      kept = followed_none live c.in_ok-replies.replies.items (ap (λ (l : Live). l.events) first);
    }
