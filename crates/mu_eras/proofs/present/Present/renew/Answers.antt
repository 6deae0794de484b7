use Rattle.std.proofs.Common.{◌∙◌, ◌+◌, ◌-◌, ◌∷◌, List, ap, arith, length, refl, subst, sym}
use Rattle.std.specs.Vec.{with_items}
use Rattle.std.proofs.Math.Logic.{∥∥₁_map}
use Rattle.std.proofs.lemmas.List.{length-replicate, with_items_is}
use Rattle.kv_store.specs.Tables.{store, store_from}
use Rattle.mu_engine.specs.Laws.{order_after}
use Rattle.mu_engine.specs.Live.{Live, free}
use Rattle.mu_eras.specs.Eras.{Era, order_of}
use Rattle.mu_eras.specs.Holding.{HaveRoomFor, HoldStores}
use Rattle.mu_eras.specs.Standing.{HoldsPresent, era_of}
use Rattle.mu_eras.specs.declared.applied.Applied.{Applied}
use Rattle.mu_eras.specs.declared.present.Present.{Present}
use Rattle.mu_eras.proofs.Holds.{with_holds}
use Rattle.mu_eras.proofs.Orders.{store_going_on}
use Rattle.mu_eras.proofs.Presents.{kept_if_err, next_inside, next_present, next_stores}
use Rattle.mu_eras.proofs.present.Present.renew.Goals as goal

pub returns-in_err-make_room-clause-inside : goal.returns-in_err-make_room-clause-inside
returns-in_err-make_room-clause-inside c =
    let e = c.args.self.now in
    let inside = c.requires.inside in
    let back = with_items_is e.stores c.make_room.new.stores (c.make_room.auto.stores ∙ c.as_mut_slice.ensures.len) in
    record {
      count = ap length back ∙ c.make_room.ensures.stores ∙ ap length c.as_mut_slice.ensures.value ∙ inside.count;
      places = inside.places;
      space = inside.space;
      stores = ∥∥₁_map inside.stores (λ h. (
        h.0,
        subst (λ (l : List Applied). HoldStores h.0 e.engine l) (sym back)
            (c.make_room.ensures.holds h.0 e.engine (subst (λ (l : List Applied). HoldStores h.0 e.engine l) (sym c.as_mut_slice.ensures.value) h.1)),
      ));
    }

pub returns-in_err-make_room-clause-kept : goal.returns-in_err-make_room-clause-kept
returns-in_err-make_room-clause-kept c =
    let new : Present = record { engine = c.args.self.now.engine; stores = with_items c.args.self.now.stores c.make_room.new.stores; replies = c.args.self.now.replies } in
    kept_if_err c.from_residual-in_err-make_room.result ((past : List Era) → HoldsPresent past c.args.self.now → HoldsPresent past new) (λ past held.
    let e = c.args.self.now in
    let live = e.engine in
    let base = store (order_of past) in
    let back = with_items_is e.stores c.make_room.new.stores (c.make_room.auto.stores ∙ c.as_mut_slice.ensures.len) in
    let roomy = c.make_room.ensures.holds base live (subst (λ (l : List Applied). HoldStores base live l) (sym c.as_mut_slice.ensures.value) held.stores) in
    record {
      eras = held.eras;
      moment = held.moment;
      count = ap length back ∙ c.make_room.ensures.stores ∙ ap length c.as_mut_slice.ensures.value ∙ held.count;
      places = held.places;
      space = held.space;
      stores = subst (λ (l : List Applied). HoldStores base live l) (sym back) roomy;
      told = held.told;
      kept = held.kept;
    })

pub hold_as-requires : goal.hold_as-requires
hold_as-requires c = ap (λ (l : Live). length l.holds) c.in_ok-next.ensures ∙ length-replicate c.args.shape.replicas free ∙ c.requires.replicas

pub hand_over-requires-clause-holds : goal.hand_over-requires-clause-holds
hand_over-requires-clause-holds c = ∥∥₁_map c.requires.inside.stores (λ h.
    let e = c.args.self.now in
    let live = e.engine in
    let base = h.0 in
    let back = with_items_is e.stores c.make_room.new.stores (c.make_room.auto.stores ∙ c.as_mut_slice.ensures.len) in
    let roomy = c.make_room.ensures.holds base live (subst (λ (l : List Applied). HoldStores base live l) (sym c.as_mut_slice.ensures.value) h.1) in
    (base, subst (λ (l : List Applied). HoldStores base live l) (sym (c.as_mut_slice-2.ensures.value ∙ back)) roomy))

pub returns-clause-inside : goal.returns-clause-inside
returns-clause-inside c =
    let e = c.args.self.now in
    let live = e.engine in
    let back = with_items_is e.stores c.make_room.new.stores (c.make_room.auto.stores ∙ c.as_mut_slice.ensures.len) in
    let over = sym (c.as_mut_slice-2.ensures.value ∙ back) in
    let back_two = with_items_is (with_items e.stores c.make_room.new.stores) c.hand_over.new.stores (c.hand_over.auto.stores ∙ c.as_mut_slice-2.ensures.len) in
    let k = 1500 + c.from.result in
    let left = c.hand_over.ensures.room k (subst (λ (l : List Applied). HaveRoomFor k l) over c.in_ok-make_room.ensures.room) in
    let live_is = c.hold_as.ensures ∙ ap (λ v. with_holds v live.holds) c.in_ok-next.ensures in
    let d : Present = record { engine = c.hold_as.new.next; stores = with_items (with_items e.stores c.make_room.new.stores) c.hand_over.new.stores; replies = c.clear.new.self } in
    let many = ap length back_two ∙ c.hand_over.ensures.stores ∙ ap length (c.as_mut_slice-2.ensures.value ∙ back) ∙ c.make_room.ensures.stores ∙ ap length c.as_mut_slice.ensures.value ∙ c.requires.inside.count in
    next_inside d c.args.shape live.holds
    (∥∥₁_map c.requires.inside.stores (λ h.
    let base = h.0 in
    let roomy = c.make_room.ensures.holds base live (subst (λ (l : List Applied). HoldStores base live l) (sym c.as_mut_slice.ensures.value) h.1) in
    let ended = c.hand_over.ensures.holds base (subst (λ (l : List Applied). HoldStores base live l) over roomy) in (
      store_from base (order_after live.job live.events),
      subst (λ (l : List Applied). HoldStores (store_from base (order_after live.job live.events)) d.engine l) (sym back_two)
          (next_stores base (store_from base (order_after live.job live.events)) live c.hand_over.new.stores d.engine c.args.shape live.holds (k - length live.job.commands) ended refl left
          (omega (arith, c.is_within_limits.ensures.few, c.from.ensures)) live_is),
    )))
    live_is c.clear.ensures.items (omega (arith, c.requires.space, c.clear.ensures.capacity)) many

pub returns-clause-next : goal.returns-clause-next
returns-clause-next c past held =
    let e = c.args.self.now in
    let live = e.engine in
    let base = store (order_of past) in
    let back = with_items_is e.stores c.make_room.new.stores (c.make_room.auto.stores ∙ c.as_mut_slice.ensures.len) in
    let roomy = c.make_room.ensures.holds base live (subst (λ (l : List Applied). HoldStores base live l) (sym c.as_mut_slice.ensures.value) held.stores) in
    let over = sym (c.as_mut_slice-2.ensures.value ∙ back) in
    let back_two = with_items_is (with_items e.stores c.make_room.new.stores) c.hand_over.new.stores (c.hand_over.auto.stores ∙ c.as_mut_slice-2.ensures.len) in
    let k = 1500 + c.from.result in
    let ended = c.hand_over.ensures.holds base (subst (λ (l : List Applied). HoldStores base live l) over roomy) in
    let left = c.hand_over.ensures.room k (subst (λ (l : List Applied). HaveRoomFor k l) over c.in_ok-make_room.ensures.room) in
    let live_is = c.hold_as.ensures ∙ ap (λ v. with_holds v live.holds) c.in_ok-next.ensures in
    let d : Present = record { engine = c.hold_as.new.next; stores = with_items (with_items e.stores c.make_room.new.stores) c.hand_over.new.stores; replies = c.clear.new.self } in
    let after = store (order_of (era_of e ∷ past)) in
    next_present past e d held c.events-2.ensures.moment (returns-clause-inside c)
    (subst (λ (l : List Applied). HoldStores after d.engine l) (sym back_two)
    (next_stores base after live c.hand_over.new.stores d.engine c.args.shape live.holds (k - length live.job.commands) ended (store_going_on (order_of past) (order_after live.job live.events)) left
    (omega (arith, c.is_within_limits.ensures.few, c.from.ensures)) live_is))
    c.clear.ensures.items (ap (λ (l : Live). l.events) live_is)
