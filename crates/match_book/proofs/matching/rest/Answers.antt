use Rattle.std.proofs.Common.{◌≡◌, Bool, true, false, not, cond, is_ok, ◌++◌, ◌∷◌, take, drop, refl, sym, ap, subst, ◌∙◌, rules}
use Rattle.std.specs.List.{filter, insert}
use Rattle.std.proofs.lemmas.List.Elements.{filter_agree}
use Rattle.std.proofs.lemmas.List.Sorted.{IsPartitionPoint-from_clause}
use Rattle.match_book.specs.Places.{IsInOrder, goes_first}
use Rattle.match_book.proofs.Arranging.{closed_upto, cut_back, cut_front, partitioned}
use Rattle.match_book.proofs.matching.rest.Goals as goal

not_not : (b : Bool) → not (not b) ≡ b
not_not true = refl
not_not false = refl

pub returns-clause-items : goal.returns-clause-items
returns-clause-items c = λ is.
    let order = c.args.order in
    let xs = c.deref.result.now in
    let at = c.partition_point-at.result in
    let split = partitioned (λ o. not (goes_first order o)) (closed_upto order) xs (subst IsInOrder (sym c.deref.ensures.value) is) in
    let point = IsPartitionPoint-from_clause (λ o. not (goes_first order o)) xs at c.partition_point-at.ensures.partitioned split (λ a r q k. search rules) in
    let front = cut_front (λ o. not (goes_first order o)) xs at c.partition_point-at.ensures.bound point in
    let back = cut_back (λ o. not (goes_first order o)) xs at c.partition_point-at.ensures.bound point ∙ filter_agree (λ o. not (not (goes_first order o))) (goes_first order) (λ o. not_not (goes_first order o)) xs in
    c.insert.ensures.items
    ∙ ap (λ r. cond (is_ok r) (insert c.args.resting.now.items at order) c.args.resting.now.items) c.unwrap.ensures
    ∙ ap (λ ys. take at ys ++ order ∷ drop at ys) (sym c.deref.ensures.value)
    ∙ ap (λ ys. ys ++ order ∷ drop at xs) front
    ∙ ap (λ ys. filter (λ o. not (goes_first order o)) xs ++ order ∷ ys) back
    ∙ ap (λ ys. filter (λ o. not (goes_first order o)) ys ++ order ∷ filter (goes_first order) ys) c.deref.ensures.value
