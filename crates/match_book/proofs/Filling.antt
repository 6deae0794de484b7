-- Filling an order, step by step.
use Rattle.std.proofs.Common.{◌≡◌, ◌⊎◌, inl, inr, ℕ, suc, subst, drop-cons, ◌-◌, ◌<◌, ◌≤◌, Bool, true, false, ◌&&◌, cond, nat_lt, List, [], ◌∷◌, ◌++◌, length, get_or, drop, refl, sym, ap, ◌∙◌, arith}
use Rattle.std.specs.List.{AllByRecursion}
use Rattle.std.proofs.lemmas.Bool.Decides.{nat_tests}
use Rattle.std.proofs.lemmas.List.{drop_all}
use Rattle.match_book.proofs.Parting.{all_append, all_back, all_front}
use Rattle.match_book.specs.declared.order.Resting.{Resting}
use Rattle.match_book.specs.Filling.{Filled, filled, led_by}
use Rattle.match_book.specs.Ledgers.{leaving, trade_with}
use Rattle.match_book.specs.Places.{IsInOrder, crosses, goes_first}

-- an order that is filled, or that crosses none at the front, trades no more
abbrev pub unfilled : ℕ → List Resting → Filled
unfilled left queue = record { trades = []; left = left; queue = queue }

pub filled_zero : (index : ℕ) (order : Resting) (queue : List Resting) → filled index order 0 queue ≡ unfilled 0 queue
filled_zero index order [] = refl
filled_zero index order (best ∷ queue) = refl

choose_stop : (a b c : Bool) (x y z : Filled) → b ≡ false → cond (a && b) (cond c x y) z ≡ z
choose_stop true true c x y z e = cc
choose_stop true false c x y z e = refl
choose_stop false b c x y z e = refl

pub filled_stop : (index : ℕ) (order best : Resting) (left : ℕ) (queue : List Resting) → crosses order best ≡ false → filled index order left (best ∷ queue) ≡ unfilled left (best ∷ queue)
filled_stop index order best left queue e = choose_stop (nat_lt 0 left) (crosses order best) (nat_lt left best.left) _ _ _ e

-- at a place of a list, in each of the three cases
pub done_zero : (index : ℕ) (order : Resting) (left : ℕ) (queue : List Resting) → left ≡ 0 → filled index order left queue ≡ unfilled left queue
done_zero index order left queue e = subst (λ n. filled index order n queue ≡ unfilled n queue) (sym e) (filled_zero index order queue)

pub done_end : (index : ℕ) (order : Resting) (left at : ℕ) (orders : List Resting) → length orders ≤ at → filled index order left (drop at orders) ≡ unfilled left (drop at orders)
done_end index order left at orders e = subst (λ queue. filled index order left queue ≡ unfilled left queue) (sym (drop_all at orders e)) refl

pub done_stop : (index : ℕ) (order best : Resting) (left at : ℕ) (orders : List Resting) → at < length orders → best ≡ get_or orders at best → crosses order best ≡ false → filled index order left (drop at orders) ≡ unfilled left (drop at orders)
done_stop index order best left at orders below is e =
    let cut : drop at orders ≡ best ∷ drop (suc at) orders = drop-cons orders at best below ∙ ap (λ b. b ∷ drop (suc at) orders) (sym is) in
    subst (λ queue. filled index order left queue ≡ unfilled left queue) (sym cut) (filled_stop index order best left (drop (suc at) orders) e)

by_cases : (T : Filled → Type 0) (a b c : Bool) (x y z : Filled) → T x → T y → T z → T (cond (a && b) (cond c x y) z)
by_cases T true true true x y z one two three = one
by_cases T true true false x y z one two three = two
by_cases T true false c x y z one two three = three
by_cases T false b c x y z one two three = three

-- what holds of a filling that stops, that trades a part, and that goes on, holds of each
pub filled_cases : (T : Filled → Type 0) (index : ℕ) (order best : Resting) (left : ℕ) (queue : List Resting) →
    T (record { trades = trade_with index order best left ∷ []; left = 0; queue = leaving best (best.left - left) ∷ queue }) →
    T (led_by (trade_with index order best best.left) (filled index order (left - best.left) queue)) →
    T (unfilled left (best ∷ queue)) → T (filled index order left (best ∷ queue))
filled_cases T index order best left queue part whole stop = by_cases T (nat_lt 0 left) (crosses order best) (nat_lt left best.left) _ _ _ part whole stop

-- what stays is placed as it was
filled_keeps : (index : ℕ) (order first : Resting) (left : ℕ) (queue : List Resting) → AllByRecursion (λ resting. goes_first resting first ≡ false) queue → AllByRecursion (λ resting. goes_first resting first ≡ false) (filled index order left queue).queue
filled_keeps index order first left [] all = tt
filled_keeps index order first left (best ∷ queue) all =
    filled_cases (λ f. AllByRecursion (λ (resting : Resting). goes_first resting first ≡ false) f.queue) index order best left queue all (filled_keeps index order first (left - best.left) queue all.1) all

filled_stays : (index : ℕ) (order : Resting) (left : ℕ) (queue : List Resting) → IsInOrder queue → IsInOrder (filled index order left queue).queue
filled_stays index order left [] is = tt
filled_stays index order left (best ∷ queue) is =
    filled_cases (λ f. IsInOrder f.queue) index order best left queue is (filled_stays index order (left - best.left) queue is.1) is

-- orders in order stay so if some at the back are filled
pub filled_in_order : (index : ℕ) (order : Resting) (left : ℕ) (front queue : List Resting) → IsInOrder (front ++ queue) → IsInOrder (front ++ (filled index order left queue).queue)
filled_in_order index order left [] queue is = filled_stays index order left queue is
filled_in_order index order left (first ∷ front) queue is =
    let P = λ (resting : Resting). goes_first resting first ≡ false in (
      all_append P front (filled index order left queue).queue (all_front P front queue is.0) (filled_keeps index order first left queue (all_back P front queue is.0)),
      filled_in_order index order left front queue is.1,
    )

split : (T : Filled → Type 0) (a b c : Bool) (x y z : Filled) → (a ≡ true → b ≡ true → c ≡ true → T x) → (a ≡ true → b ≡ true → c ≡ false → T y) → ((a ≡ false) ⊎ (b ≡ false) → T z) → T (cond (a && b) (cond c x y) z)
split T true true true x y z one two three = one refl refl refl
split T true true false x y z one two three = two refl refl refl
split T true false c x y z one two three = three (inr refl)
split T false b c x y z one two three = three (inl refl)

is_zero : {A : Type 0} (left : ℕ) (b : Bool) → ((left ≡ 0) ⊎ (b ≡ false) → A) → (nat_lt 0 left ≡ false) ⊎ (b ≡ false) → A
is_zero left b f (inl e) = f (inl (grind (arith, nat_tests)))
is_zero left b f (inr e) = f (inr e)

-- the same, with what was tested
pub filled_split : (T : Filled → Type 0) (index : ℕ) (order best : Resting) (left : ℕ) (queue : List Resting) →
    (0 < left → crosses order best ≡ true → left < best.left → T (record { trades = trade_with index order best left ∷ []; left = 0; queue = leaving best (best.left - left) ∷ queue })) →
    (0 < left → crosses order best ≡ true → best.left ≤ left → T (led_by (trade_with index order best best.left) (filled index order (left - best.left) queue))) →
    ((left ≡ 0) ⊎ (crosses order best ≡ false) → T (unfilled left (best ∷ queue))) → T (filled index order left (best ∷ queue))
filled_split T index order best left queue part whole stop =
    split T (nat_lt 0 left) (crosses order best) (nat_lt left best.left) _ _ _
    (λ a b c. part (grind (arith, nat_tests)) b (grind (arith, nat_tests)))
    (λ a b c. whole (grind (arith, nat_tests)) b (grind (arith, nat_tests)))
    (is_zero left (crosses order best) stop)
