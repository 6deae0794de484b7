use Rattle.std.proofs.Common.{◌≡◌, ◌+◌, ◌-◌, ◌≤◌, ◌++◌, suc, false, drop, length, take, None, Some, sym, ap, subst, ◌∙◌, arith}
use Rattle.std.specs.List.{AllByRecursion, position, position_or_len, remove}
use Rattle.std.proofs.lemmas.List.{take_rest}
use Rattle.match_book.specs.Ledgers.{is_named}
use Rattle.match_book.specs.Places.{IsInOrder}
use Rattle.match_book.proofs.Naming.{found_behind, found_nowhere, remove_none, unnamed_front}
use Rattle.match_book.proofs.matching.cancel.Goals as goal

pub returns-in-Some-clause-items : goal.returns-in-Some-clause-items
returns-in-Some-clause-items c = λ is.
    let p = is_named c.args.id c.args.symbol.now in
    let orders = c.args.resting.now.items in
    let start = c.first_of-start.result in
    let bound : start ≤ length orders = subst (λ xs. start ≤ length xs) c.deref.ensures.value c.first_of-start.ensures.bound in
    let ahead = unnamed_front c.args.id c.args.symbol.now c.deref.result.now start (c.first_of-start.ensures.front (subst IsInOrder (sym c.deref.ensures.value) is)) in
    let front = subst (λ xs. AllByRecursion (λ o. p o ≡ false) (take start xs)) c.deref.ensures.value ahead in
    let rest : take (length c.deref-2.result.now - start) (drop start c.deref-2.result.now) ≡ drop start orders = take_rest c.deref-2.result.now start ∙ ap (drop start) c.deref-2.ensures.value in
    let found : position p (drop start orders) ≡ Some c.in-Some.at = ap (position p) (sym rest) ∙ sym c.place_of.ensures.place ∙ c.in-Some.is in
    let next : start + c.in-Some.at + 1 ≡ suc (start + c.in-Some.at) = omega arith in
    c.forget.ensures.items
    ∙ ap (λ n. take (start + c.in-Some.at) orders ++ drop n orders) next
    ∙ sym (ap (remove orders) (found_behind p start c.in-Some.at orders bound front found))

pub returns-in_default-clause-items : goal.returns-in_default-clause-items
returns-in_default-clause-items c = λ is.
    let p = is_named c.args.id c.args.symbol.now in
    let orders = c.args.resting.now.items in
    let start = c.first_of-start.result in
    let bound : start ≤ length orders = subst (λ xs. start ≤ length xs) c.deref.ensures.value c.first_of-start.ensures.bound in
    let ahead = unnamed_front c.args.id c.args.symbol.now c.deref.result.now start (c.first_of-start.ensures.front (subst IsInOrder (sym c.deref.ensures.value) is)) in
    let front = subst (λ xs. AllByRecursion (λ o. p o ≡ false) (take start xs)) c.deref.ensures.value ahead in
    let rest : take (length c.deref-2.result.now - start) (drop start c.deref-2.result.now) ≡ drop start orders = take_rest c.deref-2.result.now start ∙ ap (drop start) c.deref-2.ensures.value in
    let found : position p (drop start orders) ≡ None = ap (position p) (sym rest) ∙ sym c.place_of.ensures.place ∙ c.in_default.is in
    sym (remove_none orders (position_or_len p orders) (found_nowhere p start orders bound front found))
