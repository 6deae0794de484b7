use Rattle.std.proofs.Common.{◌∙◌, ◌+◌, ◌≤◌, List, ap, length, subst, sym}
use Rattle.std.proofs.Math.Logic.{∥∥₁_map}
use Rattle.std.specs.declared.option.Option.{Option}
use Rattle.std.specs.Prelude.{vec_capacity}
use Rattle.std.proofs.lemmas.List.{length-map, with_items_is}
use Rattle.kv_store.specs.Tables.{store}
use Rattle.kv_store.specs.declared.store.Reply.{Reply}
use Rattle.mu_engine.specs.Laws.{order_after}
use Rattle.mu_engine.specs.Live.{after_round}
use Rattle.mu_eras.specs.Applied.{IsKept, TellsOrder}
use Rattle.mu_eras.specs.Eras.{order_of}
use Rattle.mu_eras.specs.Holding.{AreFollowed, HoldStores}
use Rattle.mu_eras.specs.declared.applied.Applied.{Applied}
use Rattle.mu_eras.proofs.present.Present.round.Goals as goal

pub play-requires-clause-holds : goal.play-requires-clause-holds
play-requires-clause-holds c = ∥∥₁_map c.requires.inside.stores (λ h.
    (h.0, subst (λ (l : List Applied). HoldStores h.0 c.args.self.now.engine l) (sym c.as_mut_slice.ensures.value) h.1))

pub returns-clause-keeps : goal.returns-clause-keeps
returns-clause-keeps c row kept =
    let back_told = with_items_is c.args.self.now.replies c.play.new.replies (c.play.auto.replies ∙ c.as_mut_slice-2.ensures.len) in
    subst (λ (l : List (Option Reply)). IsKept l row) (sym back_told)
    (c.play.ensures.keeps row (subst (λ (l : List (Option Reply)). IsKept l row) (sym c.as_mut_slice-2.ensures.value) kept))

pub returns-clause-inside : goal.returns-clause-inside
returns-clause-inside c =
    let live = c.args.self.now.engine in
    let inside = c.requires.inside in
    let back = with_items_is c.args.self.now.stores c.play.new.stores (c.play.auto.stores ∙ c.as_mut_slice.ensures.len) in
    let back_told = with_items_is c.args.self.now.replies c.play.new.replies (c.play.auto.replies ∙ c.as_mut_slice-2.ensures.len) in
    let as_many = c.play.ensures.stores ∙ ap length c.as_mut_slice.ensures.value in
    let held_as = ap length c.play.ensures.held ∙ length-map live.holds after_round in
    let placed = c.play.ensures.places ∙ ap length c.as_mut_slice-2.ensures.value in
    record {
      count = ap length back ∙ as_many ∙ inside.count ∙ sym held_as;
      places = ap length back_told ∙ placed ∙ inside.places ∙ sym (ap (λ j. length j.commands) c.play.ensures.job);
      space =
          subst (λ n. n + c.play.new.engine.room ≤ vec_capacity c.args.self.now.replies) (sym (ap length back_told ∙ placed))
          (subst (λ n. length c.args.self.now.replies.items + n ≤ vec_capacity c.args.self.now.replies) (sym c.play.ensures.room) inside.space);
      stores = ∥∥₁_map inside.stores (λ h. (
        h.0,
        subst (λ (l : List Applied). HoldStores h.0 c.play.new.engine l) (sym back)
            (c.play.ensures.holds h.0 (subst (λ (l : List Applied). HoldStores h.0 live l) (sym c.as_mut_slice.ensures.value) h.1)),
      ));
    }

pub returns-clause-holds : goal.returns-clause-holds
returns-clause-holds c past held =
    let live = c.args.self.now.engine in
    let base = store (order_of past) in
    let stores = subst (λ (l : List Applied). HoldStores base live l) (sym c.as_mut_slice.ensures.value) held.stores in
    let told = subst (λ (l : List (Option Reply)). TellsOrder base live.job.commands (order_after live.job live.events) l) (sym c.as_mut_slice-2.ensures.value) held.told in
    let back = with_items_is c.args.self.now.stores c.play.new.stores (c.play.auto.stores ∙ c.as_mut_slice.ensures.len) in
    let back_told = with_items_is c.args.self.now.replies c.play.new.replies (c.play.auto.replies ∙ c.as_mut_slice-2.ensures.len) in
    let as_many = c.play.ensures.stores ∙ ap length c.as_mut_slice.ensures.value in
    let held_as = ap length c.play.ensures.held ∙ length-map live.holds after_round in
    let placed = c.play.ensures.places ∙ ap length c.as_mut_slice-2.ensures.value in
    record {
      eras = held.eras;
      moment = c.play.ensures.moment;
      count = ap length back ∙ as_many ∙ held.count ∙ sym held_as;
      places = ap length back_told ∙ placed ∙ held.places ∙ sym (ap (λ j. length j.commands) c.play.ensures.job);
      space =
          subst (λ n. n + c.play.new.engine.room ≤ vec_capacity c.args.self.now.replies) (sym (ap length back_told ∙ placed))
          (subst (λ n. length c.args.self.now.replies.items + n ≤ vec_capacity c.args.self.now.replies) (sym c.play.ensures.room) held.space);
      stores = subst (λ (l : List Applied). HoldStores base c.play.new.engine l) (sym back) (c.play.ensures.holds base stores);
      told =
          subst (λ (l : List (Option Reply)). TellsOrder base c.play.new.engine.job.commands (order_after c.play.new.engine.job c.play.new.engine.events) l) (sym back_told)
          (c.play.ensures.tells base stores told);
      kept =
          subst (λ (l : List (Option Reply)). AreFollowed c.play.new.engine l) (sym back_told)
          (c.play.ensures.fresh base stores (subst (λ (l : List (Option Reply)). AreFollowed live l) (sym c.as_mut_slice-2.ensures.value) held.kept));
    }
