use Rattle.std.proofs.Common.{◌≡◌, ◌∙◌, ◌<◌, Some, ap, arith, inl, inr, length, subst, sym, take}
use Rattle.std.proofs.Math.Logic.{∥∥₁_map}
use Rattle.std.specs.Prelude.{slice_index_or}
use Rattle.std.specs.List.{slice_get}
use Rattle.std.proofs.lemmas.Bool.{cases_eq}
use Rattle.std.proofs.lemmas.List.{length-set}
use Rattle.std.proofs.lemmas.Option.{slice_get-get_or}
use Rattle.kv_store.specs.Tables.{Table}
use Rattle.mu_model.specs.Contents.{rows_in}
use Rattle.mu_model.proofs.Lists.{get_set_other}
use Rattle.mu_eras.specs.Applied.{AreKept}
use Rattle.mu_eras.specs.Holding.{HoldStores, HoldsApplied, handed_by}
use Rattle.mu_eras.proofs.Handing.{hold_set}
use Rattle.mu_eras.proofs.Kept.{kept_on}
use Rattle.mu_eras.proofs.following.follow.Goals as goal

pub follow_one-requires-clause-holds : goal.follow_one-requires-clause-holds
follow_one-requires-clause-holds c = ∥∥₁_map c.requires.holds (λ h.
    let live = c.args.engine.now in
    let base = h.0 in
    let stores = c.loop-r.stores in
    let same = ap (λ k. k.replicas) c.config.ensures.config in
    let low : c.from.result < length c.loop-r.stores = omega (arith, c.loop-r-test.true, c.from.ensures, c.loop-r.invariant.stores, c.requires.there, c.config.ensures.replicas, same) in
    let old = slice_index_or stores c.from.result c.index-stores-from.result in
    let at : slice_get stores c.from.result ≡ Some old = slice_get-get_or stores c.from.result c.index-stores-from.result low in
    (base, subst (λ n. HoldsApplied base live n old) c.from.ensures (c.loop-r.invariant.holds base h.1 c.from.result old at)))

pub loop-r-preserved : goal.loop-r-preserved
loop-r-preserved c =
    let live = c.args.engine.now in
    let stores = c.loop-r.stores in
    let same = ap (λ k. k.replicas) c.config.ensures.config in
    let low : c.from.result < length c.loop-r.stores = omega (arith, c.loop-r-test.true, c.from.ensures, c.loop-r.invariant.stores, c.requires.there, c.config.ensures.replicas, same) in
    let old = slice_index_or stores c.from.result c.index-stores-from.result in
    let at : slice_get stores c.from.result ≡ Some old = slice_get-get_or stores c.from.result c.index-stores-from.result low in
    let own : (base : Table) → HoldStores base live c.args.stores.now → HoldsApplied base live c.loop-r.r old = λ base held. subst (λ n. HoldsApplied base live n old) c.from.ensures (c.loop-r.invariant.holds base held c.from.result old at) in
    record {
      stores = length-set stores c.from.result c.follow_one.new.applied ∙ c.loop-r.invariant.stores;
      places = c.follow_one.ensures.places ∙ c.loop-r.invariant.places;
      keeps = λ row is. c.follow_one.ensures.keeps row (c.loop-r.invariant.keeps row is);
      ahead = λ s a above there.
          c.loop-r.invariant.ahead s a (omega (arith, above))
          (sym (get_set_other stores s c.from.result c.follow_one.new.applied (λ same_place. omega (arith, above, same_place, c.from.ensures))) ∙ there);
      fresh = λ taken s below. elim (cases_eq s c.loop-r.r) [
        | inl same_place ↦
            let before = c.loop-r.invariant.ahead c.from.result old (omega (arith, c.from.ensures)) at in
            let log = handed_by live c.from.result in
            let own = kept_on (rows_in live.job.config (take old.entries log)) c.args.replies.now c.loop-r.replies c.loop-r.invariant.keeps (taken c.from.result old before) in
            subst (λ n. AreKept (rows_in live.job.config (handed_by live n)) c.follow_one.new.replies) (sym same_place)
            (c.follow_one.ensures.fresh (subst (λ n. AreKept (rows_in live.job.config (take old.entries (handed_by live n))) c.loop-r.replies) c.from.ensures own))
        | inr other ↦ kept_on (rows_in live.job.config (handed_by live s)) c.loop-r.replies c.follow_one.new.replies c.follow_one.ensures.keeps (c.loop-r.invariant.fresh taken s (omega (arith, below, other)))
      ];
      holds = λ base held.
          hold_set base live stores c.from.result c.follow_one.new.applied low (c.loop-r.invariant.holds base held)
          (subst (λ n. HoldsApplied base live n c.follow_one.new.applied) (sym c.from.ensures) (c.follow_one.ensures.holds base (own base held)));
      tells = λ base held told. c.follow_one.ensures.tells base (own base held) (c.loop-r.invariant.tells base held told);
    }

pub returns-clause-fresh : goal.returns-clause-fresh
returns-clause-fresh c taken s low =
    let same = ap (λ k. k.replicas) c.config.ensures.config in
    c.loop-r.invariant.fresh taken s (let end = c.loop-r.auto.r-end in omega (arith, low, c.loop-r-test.false, end, c.config.ensures.replicas, same))
