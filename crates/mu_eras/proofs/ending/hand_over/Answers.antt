use Rattle.std.proofs.Common.{◌≡◌, ◌∙◌, ◌-◌, ◌<◌, ◌≤◌, Some, ap, arith, length, refl, subst, sym}
use Rattle.std.proofs.Math.Logic.{∥∥₁_map}
use Rattle.std.specs.Prelude.{slice_index_or}
use Rattle.std.specs.List.{slice_get}
use Rattle.std.proofs.lemmas.List.{length-set}
use Rattle.std.proofs.lemmas.Option.{slice_get-get_or, slice_get_within}
use Rattle.kv_store.specs.Tables.{Table}
use Rattle.mu_model.proofs.Lists.{get_set_other}
use Rattle.mu_eras.specs.Holding.{HoldStores, HoldsApplied, HoldsEnded}
use Rattle.mu_eras.proofs.Ends.{all_set, ended_set}
use Rattle.mu_eras.proofs.ending.hand_over.Goals as goal

pub loop-r-init : goal.loop-r-init
loop-r-init c = record { stores = refl; places = refl; ahead = λ base held s a low at. held s a at; done = λ base held s a low at. absurd (omega (arith, low)); fresh = λ least have s a low at. have s a at; left = λ least have s a at. (let enough = have s a at in omega (arith, enough)) }

pub end_one-requires-clause-holds : goal.end_one-requires-clause-holds
end_one-requires-clause-holds c = ∥∥₁_map c.requires.holds (λ h.
    let live = c.args.engine.now in
    let stores = c.loop-r.stores in
    let same = ap (λ k. k.replicas) c.config.ensures.config in
    let low : c.from.result < length c.loop-r.stores = omega (arith, c.loop-r-test.true, c.from.ensures, c.loop-r.invariant.stores, c.requires.there, c.config.ensures.replicas, same) in
    let old = slice_index_or stores c.from.result c.index-stores-from.result in
    let at : slice_get stores c.from.result ≡ Some old = slice_get-get_or stores c.from.result c.index-stores-from.result low in
    let base = h.0 in
    (base, subst (λ n. HoldsApplied base live n old) c.from.ensures (c.loop-r.invariant.ahead base h.1 c.from.result old (omega (arith, c.from.ensures)) at)))

pub loop-r-preserved : goal.loop-r-preserved
loop-r-preserved c =
    let live = c.args.engine.now in
    let stores = c.loop-r.stores in
    let same = ap (λ k. k.replicas) c.config.ensures.config in
    let low : c.from.result < length c.loop-r.stores = omega (arith, c.loop-r-test.true, c.from.ensures, c.loop-r.invariant.stores, c.requires.there, c.config.ensures.replicas, same) in
    let old = slice_index_or stores c.from.result c.index-stores-from.result in
    let at : slice_get stores c.from.result ≡ Some old = slice_get-get_or stores c.from.result c.index-stores-from.result low in
    let own : (base : Table) → HoldStores base live c.args.stores.now → HoldsApplied base live c.loop-r.r old =
    λ base held. subst (λ n. HoldsApplied base live n old) c.from.ensures (c.loop-r.invariant.ahead base held c.from.result old (omega (arith, c.from.ensures)) at) in
    record {
      stores = length-set stores c.from.result c.end_one.new.applied ∙ c.loop-r.invariant.stores;
      places = c.end_one.ensures.places ∙ c.loop-r.invariant.places;
      ahead = λ base held s a above there.
          c.loop-r.invariant.ahead base held s a (omega (arith, above))
          (sym (get_set_other stores s c.from.result c.end_one.new.applied (λ same_place. omega (arith, above, same_place, c.from.ensures))) ∙ there);
      done = λ base held. ended_set (λ x. HoldsEnded base live x) stores c.from.result c.end_one.new.applied c.loop-r.r (sym c.from.ensures) low (c.loop-r.invariant.done base held) (c.end_one.ensures.holds base (own base held));
      fresh = λ least have s a above there.
          c.loop-r.invariant.fresh least have s a (omega (arith, above))
          (sym (get_set_other stores s c.from.result c.end_one.new.applied (λ same_place. omega (arith, above, same_place, c.from.ensures))) ∙ there);
      left = λ least have. all_set (λ x. least - length live.job.commands ≤ x.store.room) stores c.from.result c.end_one.new.applied low (c.loop-r.invariant.left least have)
          (let enough = c.loop-r.invariant.fresh least have c.from.result old (omega (arith, c.from.ensures)) at in omega (arith, enough, c.end_one.ensures.room));
    }

pub returns-clause-holds : goal.returns-clause-holds
returns-clause-holds c base held s a there =
    let within = slice_get_within c.loop-r.stores s a there in
    let same = ap (λ k. k.replicas) c.config.ensures.config in
    c.loop-r.invariant.done base held s a (omega (arith, within, c.loop-r-test.false, c.loop-r.auto.r-end, c.loop-r.invariant.stores, c.requires.there, c.config.ensures.replicas, same)) there
