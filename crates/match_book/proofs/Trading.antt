-- Filling from the arrangement is the trade step: its quantities are the ones that the step allows, and no others.
use Rattle.std.proofs.Common.{◌≡◌, ◌⊎◌, inl, inr, ℕ, zero, suc, ◌+◌, ◌-◌, ◌<◌, ◌≤◌, Bool, true, false, not, ◌&&◌, cond, nat_lt, List, [], ◌∷◌, length, map, sum, get_or, refl, sym, ap, subst, ◌∙◌, arith}
use Rattle.std.specs.List.{AllByRecursion, filter}
use Rattle.std.proofs.lemmas.Bool.Decides.{nat_tests}
use Rattle.std.proofs.lemmas.List.Sums.{sum_by-cons}
use Rattle.match_book.specs.declared.order.Resting.{Resting}
use Rattle.match_book.specs.Filling.{filled, is_ahead}
use Rattle.match_book.specs.Ledgers.{AreTraded, trade_with, trades_with}
use Rattle.match_book.specs.Places.{IsInOrder, crosses, goes_first, other}
use Rattle.match_book.proofs.Parting.{all_imply, not_both, by_cases, filter_parted}
use Rattle.match_book.proofs.Placing.{crosses_is, goes_first_weak, mirror}
use Rattle.match_book.proofs.Filling.{filled_split, filled_stop}

-- the quantities, computed: as much as is left on either side, one order after the other
abbrev pub amounts : ℕ → List Resting → List ℕ
amounts left [] = []
amounts left (best ∷ queue) = cond (nat_lt 0 left) (cond (nat_lt left best.left) (left ∷ []) (best.left ∷ amounts (left - best.left) queue)) []

abbrev choose : {A : Type 0} → Bool → Bool → A → A → A → A
choose a c part whole none = cond a (cond c part whole) none

amounts_none : (left : ℕ) (queue : List Resting) → left ≡ 0 → amounts left queue ≡ []
amounts_none left [] e = refl
amounts_none left (best ∷ queue) e = let none : nat_lt 0 left ≡ false = grind (arith, nat_tests) in ap (λ a. choose a (nat_lt left best.left) (left ∷ []) (best.left ∷ amounts (left - best.left) queue) []) none

amounts_part : (left : ℕ) (best : Resting) (queue : List Resting) → 0 < left → left < best.left → amounts left (best ∷ queue) ≡ left ∷ []
amounts_part left best queue some part =
    let a : nat_lt 0 left ≡ true = grind (arith, nat_tests) in
    let c : nat_lt left best.left ≡ true = grind (arith, nat_tests) in
    ap (λ b. choose b (nat_lt left best.left) (left ∷ []) (best.left ∷ amounts (left - best.left) queue) []) a ∙ ap (λ b. cond b (left ∷ []) (best.left ∷ amounts (left - best.left) queue)) c

amounts_whole : (left : ℕ) (best : Resting) (queue : List Resting) → 0 < left → best.left ≤ left → amounts left (best ∷ queue) ≡ best.left ∷ amounts (left - best.left) queue
amounts_whole left best queue some whole =
    let a : nat_lt 0 left ≡ true = grind (arith, nat_tests) in
    let c : nat_lt left best.left ≡ false = grind (arith, nat_tests) in
    ap (λ b. choose b (nat_lt left best.left) (left ∷ []) (best.left ∷ amounts (left - best.left) queue) []) a ∙ ap (λ b. cond b (left ∷ []) (best.left ∷ amounts (left - best.left) queue)) c

-- each of these has something left
abbrev pub HaveSomeLeft : List Resting → Type 0
HaveSomeLeft orders = AllByRecursion (λ (order : Resting). 1 ≤ order.left) orders

none_traded : (queue : List Resting) → AreTraded 0 queue []
none_traded queue = record { few = omega arith; whole = λ k d below. absurd (omega arith); last = λ k d at. absurd (omega arith); enough = inl refl }

part_last : (left : ℕ) (best : Resting) (queue : List Resting) → 1 ≤ left → left < best.left → (k : ℕ) (d : Resting) → k + 1 ≡ 1 → (1 ≤ get_or (left ∷ []) k 0) × (get_or (left ∷ []) k 0 ≤ (get_or (best ∷ queue) k d).left)
part_last left best queue some part zero d e = (some, omega arith)
part_last left best queue some part (suc k) d e = absurd (omega arith)

part_traded : (left : ℕ) (best : Resting) (queue : List Resting) → 1 ≤ left → left < best.left → AreTraded left (best ∷ queue) (left ∷ [])
part_traded left best queue some part = record { few = omega arith; whole = λ k d below. absurd (omega arith); last = part_last left best queue some part; enough = inl (omega arith) }

whole_whole : (best : Resting) (queue : List Resting) (quantities : List ℕ) → ((k : ℕ) (d : Resting) → k + 1 < length quantities → get_or quantities k 0 ≡ (get_or queue k d).left) → (k : ℕ) (d : Resting) → k + 1 < length (best.left ∷ quantities) → get_or (best.left ∷ quantities) k 0 ≡ (get_or (best ∷ queue) k d).left
whole_whole best queue quantities rest zero d below = refl
whole_whole best queue quantities rest (suc k) d below = rest k d (omega arith)

whole_last : (best : Resting) (queue : List Resting) (quantities : List ℕ) → 1 ≤ best.left → ((k : ℕ) (d : Resting) → k + 1 ≡ length quantities → (1 ≤ get_or quantities k 0) × (get_or quantities k 0 ≤ (get_or queue k d).left)) → (k : ℕ) (d : Resting) → k + 1 ≡ length (best.left ∷ quantities) → (1 ≤ get_or (best.left ∷ quantities) k 0) × (get_or (best.left ∷ quantities) k 0 ≤ (get_or (best ∷ queue) k d).left)
whole_last best queue quantities some rest zero d at = (some, omega arith)
whole_last best queue quantities some rest (suc k) d at = rest k d (omega arith)

sum_cons : (a : ℕ) (xs : List ℕ) → sum (a ∷ xs) ≡ a + sum xs
sum_cons a xs = sum_by-cons (λ x. x) a xs

whole_enough : (left : ℕ) (best : Resting) (queue : List Resting) (quantities : List ℕ) → best.left ≤ left → (sum quantities ≡ left - best.left) ⊎ ((quantities ≡ map (λ (resting : Resting). resting.left) queue) × (sum quantities < left - best.left)) → (sum (best.left ∷ quantities) ≡ left) ⊎ ((best.left ∷ quantities ≡ map (λ (resting : Resting). resting.left) (best ∷ queue)) × (sum (best.left ∷ quantities) < left))
whole_enough left best queue quantities whole (inl e) = inl (omega (arith, sum_cons best.left quantities))
whole_enough left best queue quantities whole (inr e) = inr (ap (λ xs. best.left ∷ xs) e.0, omega (arith, sum_cons best.left quantities, e.1))

whole_traded : (left : ℕ) (best : Resting) (queue : List Resting) (quantities : List ℕ) → 1 ≤ best.left → best.left ≤ left → AreTraded (left - best.left) queue quantities → AreTraded left (best ∷ queue) (best.left ∷ quantities)
whole_traded left best queue quantities some whole rest = record {
  few = omega (arith, rest.few);
  whole = whole_whole best queue quantities rest.whole;
  last = whole_last best queue quantities some rest.last;
  enough = whole_enough left best queue quantities whole rest.enough;
}

end_enough : (left : ℕ) → (sum [] ≡ left) ⊎ (([] ≡ map (λ (resting : Resting). resting.left) []) × (sum [] < left))
end_enough zero = inl refl
end_enough (suc left) = inr (refl, omega arith)

-- the computed quantities are allowed
pub amounts_are_traded : (left : ℕ) (queue : List Resting) → HaveSomeLeft queue → AreTraded left queue (amounts left queue)
amounts_are_traded left [] some = record { few = omega arith; whole = λ k d below. absurd (omega arith); last = λ k d at. absurd (omega arith); enough = end_enough left }
amounts_are_traded left (best ∷ queue) some =
    by_cases (nat_lt 0 left)
    (λ a. by_cases (nat_lt left best.left)
    (λ c. let one : 0 < left = grind (arith, nat_tests) in let part : left < best.left = grind (arith, nat_tests) in
    subst (AreTraded left (best ∷ queue)) (sym (amounts_part left best queue one part)) (part_traded left best queue (omega arith) part))
    (λ c. let one : 0 < left = grind (arith, nat_tests) in let whole : best.left ≤ left = grind (arith, nat_tests) in
    subst (AreTraded left (best ∷ queue)) (sym (amounts_whole left best queue one whole)) (whole_traded left best queue (amounts (left - best.left) queue) some.0 whole (amounts_are_traded (left - best.left) queue some.1))))
    (λ a. let none : left ≡ 0 = grind (arith, nat_tests) in
    subst (λ n. AreTraded n (best ∷ queue) (amounts n (best ∷ queue))) (sym none) (none_traded (best ∷ queue)))

sum_some : (quantities : List ℕ) → 0 < length quantities → ((k : ℕ) → k + 1 ≡ length quantities → 1 ≤ get_or quantities k 0) → 1 ≤ sum quantities
sum_some [] some last = absurd (omega arith)
sum_some (a ∷ []) some last = omega (arith, last 0 refl, sum_cons a [])
sum_some (a ∷ b ∷ quantities) some last = let rest : 1 ≤ sum (b ∷ quantities) = sum_some (b ∷ quantities) (omega arith) (λ k e. last (suc k) (omega arith)) in omega (arith, sum_cons a (b ∷ quantities))

rest_enough : (left : ℕ) (best : Resting) (queue : List Resting) (a : ℕ) (quantities : List ℕ) → a ≡ best.left → (sum (a ∷ quantities) ≡ left) ⊎ ((a ∷ quantities ≡ map (λ (resting : Resting). resting.left) (best ∷ queue)) × (sum (a ∷ quantities) < left)) → (sum quantities ≡ left - best.left) ⊎ ((quantities ≡ map (λ (resting : Resting). resting.left) queue) × (sum quantities < left - best.left))
rest_enough left best queue a quantities is (inl e) = inl (omega (arith, sum_cons a quantities, e))
rest_enough left best queue a quantities is (inr e) = inr (cc, omega (arith, sum_cons a quantities, e.1))

sum_within : (left : ℕ) (queue : List Resting) (quantities : List ℕ) → (sum quantities ≡ left) ⊎ ((quantities ≡ map (λ (resting : Resting). resting.left) queue) × (sum quantities < left)) → sum quantities ≤ left
sum_within left queue quantities (inl e) = omega arith
sum_within left queue quantities (inr e) = omega arith

one_is : (left : ℕ) (best : Resting) (queue : List Resting) (a : ℕ) → 1 ≤ a → a ≤ best.left → (sum (a ∷ []) ≡ left) ⊎ ((a ∷ [] ≡ map (λ (resting : Resting). resting.left) (best ∷ queue)) × (sum (a ∷ []) < left)) → a ∷ [] ≡ amounts left (best ∷ queue)
one_is left best queue a some few (inl e) =
    by_cases (nat_lt left best.left)
    (λ c. let part : left < best.left = grind (arith, nat_tests) in let is : a ≡ left = omega (arith, sum_cons a [], e) in ap (λ n. n ∷ []) is ∙ sym (amounts_part left best queue (omega arith) part))
    (λ c. let whole : best.left ≤ left = grind (arith, nat_tests) in let same : a ≡ left = omega (arith, sum_cons a [], e) in let is : a ≡ best.left = omega arith in ap (λ n. n ∷ []) is ∙ sym (ap (λ xs. best.left ∷ xs) (amounts_none (left - best.left) queue (omega arith))) ∙ sym (amounts_whole left best queue (omega arith) whole))
one_is left best [] a some few (inr e) = let is : a ≡ best.left = cc in let below : a < left = omega (arith, sum_cons a [], e.1) in ap (λ n. n ∷ []) is ∙ sym (amounts_whole left best [] (omega arith) (omega arith))
one_is left best (next ∷ queue) a some few (inr e) = cc

nothing_is : (left : ℕ) (best : Resting) (queue : List Resting) → (0 ≡ left) ⊎ (([] ≡ map (λ (resting : Resting). resting.left) (best ∷ queue)) × (0 < left)) → [] ≡ amounts left (best ∷ queue)
nothing_is left best queue (inl e) = sym (amounts_none left (best ∷ queue) (sym e))
nothing_is left best queue (inr e) = cc

-- and no others are
pub amounts_are_all : (left : ℕ) (queue : List Resting) (quantities : List ℕ) → AreTraded left queue quantities → quantities ≡ amounts left queue
amounts_are_all left [] [] are = refl
amounts_are_all left (best ∷ queue) [] are = nothing_is left best queue are.enough
amounts_are_all left [] (a ∷ quantities) are = absurd (omega (arith, are.few))
amounts_are_all left (best ∷ queue) (a ∷ []) are = let last = are.last 0 best refl in one_is left best queue a last.0 last.1 are.enough
amounts_are_all left (best ∷ queue) (a ∷ b ∷ quantities) are =
    let is : a ≡ best.left = are.whole 0 best (omega arith) in
    let rest : AreTraded (left - best.left) queue (b ∷ quantities) = record {
      few = omega (arith, are.few);
      whole = λ k d below. are.whole (suc k) d (omega arith);
      last = λ k d at. are.last (suc k) d (omega arith);
      enough = rest_enough left best queue a (b ∷ quantities) is are.enough;
    } in
    let more : 1 ≤ sum (b ∷ quantities) = sum_some (b ∷ quantities) (omega arith) (λ k e. (rest.last k best e).0) in
    let within : a + sum (b ∷ quantities) ≤ left = omega (arith, sum_within left (best ∷ queue) (a ∷ b ∷ quantities) are.enough, sum_cons a (b ∷ quantities)) in
    ap (λ n. n ∷ b ∷ quantities) is ∙ ap (λ xs. best.left ∷ xs) (amounts_are_all (left - best.left) queue (b ∷ quantities) rest) ∙ sym (amounts_whole left best queue (omega arith) (omega arith))

pub and_false : (b : Bool) → (b && false) ≡ false
and_false true = refl
and_false false = refl

stopped : (left : ℕ) (b : Bool) → (left ≡ 0) ⊎ (b ≡ false) → b ≡ true → left ≡ 0
stopped left b (inl e) f = e
stopped left b (inr e) f = not_both b f e

-- no order of those that don't stand ahead and aren't placed before one that isn't crossed is crossed
pub none_crossed : (order best : Resting) (queue : List Resting) → is_ahead order.symbol (other order.side) best ≡ false → crosses order best ≡ false → AllByRecursion (λ o. goes_first o best ≡ false) queue → AllByRecursion (λ o. crosses order o ≡ false) queue
none_crossed order best queue here free after =
    let m = mirror order in
    let first : not (goes_first m best) ≡ false = sym (ap (λ b. not b && not (goes_first m best)) here) ∙ sym (crosses_is order best) ∙ free in
    all_imply (λ o. goes_first o best ≡ false) (λ o. crosses order o ≡ false) (λ o e.
    by_cases (goes_first m o)
    (λ f. crosses_is order o ∙ ap (λ b. not (is_ahead order.symbol (other order.side) o) && not b) f ∙ and_false (not (is_ahead order.symbol (other order.side) o)))
    (λ f. not_both (not (goes_first m best)) (ap not (goes_first_weak.chain m o best f e)) first)) queue after

trades_none : (index : ℕ) (order : Resting) (queue : List Resting) → trades_with index order queue [] ≡ []
trades_none index order [] = refl
trades_none index order (best ∷ queue) = refl

-- the orders crossed at the front are all that are crossed, and the trades with them are those of the step
pub filled_trades : (index : ℕ) (order : Resting) (left : ℕ) (queue : List Resting) → IsInOrder queue → AllByRecursion (λ o. is_ahead order.symbol (other order.side) o ≡ false) queue →
    (filled index order left queue).trades ≡ trades_with index order (filter (crosses order) queue) (amounts left (filter (crosses order) queue))
filled_trades index order left [] is here = refl
filled_trades index order left (best ∷ queue) is here =
    by_cases (crosses order best)
    (λ e.
    let crossed : filter (crosses order) (best ∷ queue) ≡ best ∷ filter (crosses order) queue = ap (λ b. cond b (best ∷ filter (crosses order) queue) (filter (crosses order) queue)) e in
    filled_split (λ f. f.trades ≡ trades_with index order (filter (crosses order) (best ∷ queue)) (amounts left (filter (crosses order) (best ∷ queue)))) index order best left queue
    (λ some c part. sym (ap (λ xs. trades_with index order xs (amounts left xs)) crossed ∙ ap (λ qs. trades_with index order (best ∷ filter (crosses order) queue) qs) (amounts_part left best (filter (crosses order) queue) some part) ∙ ap (λ ts. trade_with index order best left ∷ ts) (trades_none index order (filter (crosses order) queue))))
    (λ some c whole. ap (λ ts. trade_with index order best best.left ∷ ts) (filled_trades index order (left - best.left) queue is.1 here.1)
    ∙ sym (ap (λ xs. trades_with index order xs (amounts left xs)) crossed ∙ ap (λ qs. trades_with index order (best ∷ filter (crosses order) queue) qs) (amounts_whole left best (filter (crosses order) queue) some whole)))
    (λ stop. sym (ap (λ xs. trades_with index order xs (amounts left xs)) crossed ∙ ap (λ qs. trades_with index order (best ∷ filter (crosses order) queue) qs) (amounts_none left (best ∷ filter (crosses order) queue) (stopped left (crosses order best) stop e)))))
    (λ e.
    let crossed : filter (crosses order) (best ∷ queue) ≡ [] = filter_parted (crosses order) [] (best ∷ queue) tt (e, none_crossed order best queue here.0 e is.0) in
    ap (λ f. f.trades) (filled_stop index order best left queue e) ∙ sym (ap (λ xs. trades_with index order xs (amounts left xs)) crossed))
