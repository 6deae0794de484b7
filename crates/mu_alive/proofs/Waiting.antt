-- Counts that were opened and aren't closed yet: how long they may stay open.
use Rattle.std.proofs.Common.{◌≡◌, ◌⊎◌, ℕ, ◌+◌, ◌<◌, ◌≤◌, not, inl, inr, Bool, true, false, Some, List, [], ◌∷◌, ◌++◌, refl, sym, ◌∙◌, ap, arith, subst, true≢false, append_assoc}
use Rattle.std.specs.Prelude.{if◌then◌else◌}
use Rattle.mu_model.specs.declared.event.Event.{Event}
use Rattle.mu_model.specs.Bounds.{stays}
use Rattle.mu_model.specs.Histories.{has}
use Rattle.mu_model.specs.Leaderships.{begins_leadership}
use Rattle.mu_model.specs.Stretches.{each_step, steps}
use Rattle.mu_pace.specs.Counters.{IsInTime, Watch, paid}
use Rattle.mu_agree.specs.Moments.{AtEachMoment}
use Rattle.mu_pace.specs.Watches.{nothing}
use Rattle.mu_pace.proofs.Counting.{shorter}
use Rattle.mu_pace.proofs.Growing.{stays_less}

-- what each step of two stretches passes, each of both does; and what passes in both is added up
pub each_both : (test : List Event → Event → Bool) (xs ys base : List Event) → each_step test xs (ys ++ base) ≡ true → each_step test ys base ≡ true → each_step test (xs ++ ys) base ≡ true
each_both test [] ys base x y = y
each_both test (e ∷ xs) ys base x y = go (test (xs ++ (ys ++ base)) e) (test ((xs ++ ys) ++ base) e) (ap (λ l. test l e) (append_assoc xs ys base)) x (λ rest. each_both test xs ys base rest y)
  where
    go : (t u : Bool) → u ≡ t → (if t then each_step test xs (ys ++ base) else false) ≡ true → (each_step test xs (ys ++ base) ≡ true → each_step test (xs ++ ys) base ≡ true) → (if u then each_step test (xs ++ ys) base else false) ≡ true
    go true true is x ih = ih x
    go false false is x ih = absurd (true≢false (sym x))
    go true false is x ih = absurd (true≢false (sym is))
    go false true is x ih = absurd (true≢false is)

-- the steps of two parts
pub steps_both : (test : List Event → Event → Bool) (newer rest older : List Event) → steps test (newer ++ rest) older ≡ steps test newer (rest ++ older) + steps test rest older
steps_both test [] rest older = omega arith
steps_both test (x ∷ newer) rest older =
    subst (λ past. (if test past x then steps test (newer ++ rest) older + 1 else steps test (newer ++ rest) older) ≡ (if test (newer ++ (rest ++ older)) x then steps test newer (rest ++ older) + 1 else steps test newer (rest ++ older)) + steps test rest older) (sym (append_assoc newer rest older))
    (go (test (newer ++ (rest ++ older)) x) (steps_both test newer rest older))
  where
    go : (t : Bool) → steps test (newer ++ rest) older ≡ steps test newer (rest ++ older) + steps test rest older
        → (if t then steps test (newer ++ rest) older + 1 else steps test (newer ++ rest) older) ≡ (if t then steps test newer (rest ++ older) + 1 else steps test newer (rest ++ older)) + steps test rest older
    go true ih = omega (arith, ih)
    go false ih = ih

pub stays_both : (r : ℕ) (xs ys : List Event) → stays r xs ≡ true → stays r ys ≡ true → stays r (xs ++ ys) ≡ true
stays_both r [] ys x y = y
stays_both r (e ∷ xs) ys x y = let less = stays_less r e xs x in ap (λ t. not (if t then true else has (begins_leadership r) (xs ++ ys))) less.0 ∙ stays_both r xs ys less.1 y

pub stays_newer : (r : ℕ) (xs ys : List Event) → stays r (xs ++ ys) ≡ true → stays r xs ≡ true
stays_newer r [] ys all = refl
stays_newer r (e ∷ xs) ys all = let less = stays_less r e (xs ++ ys) all in ap (λ t. not (if t then true else has (begins_leadership r) xs)) less.0 ∙ stays_newer r xs ys less.1

pub stays_older : (r : ℕ) (xs ys : List Event) → stays r (xs ++ ys) ≡ true → stays r ys ≡ true
stays_older r [] ys all = all
stays_older r (e ∷ xs) ys all = stays_older r xs ys (stays_less r e (xs ++ ys) all).1

-- a count was opened in the leadership, allows at most this many steps, and isn't closed yet
pub record Pending (r : ℕ) (w : Watch) (most : ℕ) (now : List Event) : Type 0 where
  pub window : List Event
  pub opened : List Event
  pub amount : ℕ
  pub is : now ≡ window ++ opened
  pub same : stays r window ≡ true
  pub allows : w.allows opened ≡ Some amount
  pub few : amount ≤ most
  pub unclosed : each_step (λ past e. not (w.closes past e)) window opened ≡ true

pub pending_on : (r : ℕ) (w : Watch) (most : ℕ) (e : Event) (past : List Event) → begins_leadership r e ≡ false → w.closes past e ≡ false → Pending r w most past → Pending r w most (e ∷ past)
pending_on r w most e past same open_yet k = record {
  window = e ∷ k.window;
  opened = k.opened;
  amount = k.amount;
  is = ap (λ l. e ∷ l) k.is;
  same = ap (λ t. not (if t then true else has (begins_leadership r) k.window)) same ∙ k.same;
  allows = k.allows;
  few = k.few;
  unclosed = ap (λ t. if not t then each_step (λ past e. not (w.closes past e)) k.window k.opened else false) (ap (λ l. w.closes l e) (sym k.is) ∙ open_yet) ∙ k.unclosed;
}

-- a stretch closes a count, first by some event, or leaves it open
pub record Closed (w : Watch) (window base : List Event) : Type 0 where
  pub newer : List Event
  pub event : Event
  pub older : List Event
  pub is : window ≡ newer ++ event ∷ older
  pub closes : w.closes (older ++ base) event ≡ true
  pub unclosed : each_step (λ past e. not (w.closes past e)) older base ≡ true

pub closed_or : (w : Watch) (window base : List Event) → Closed w window base ⊎ (each_step (λ past e. not (w.closes past e)) window base ≡ true)
closed_or w [] base = inr refl
closed_or w (e ∷ window) base = elim (closed_or w window base) [
  | inl k ↦ inl (record { newer = e ∷ k.newer; event = k.event; older = k.older; is = ap (λ l. e ∷ l) k.is; closes = k.closes; unclosed = k.unclosed })
  | inr open_yet ↦ go (w.closes (window ++ base) e) refl open_yet
]
  where
    go : (t : Bool) → w.closes (window ++ base) e ≡ t → each_step (λ past e. not (w.closes past e)) window base ≡ true → Closed w (e ∷ window) base ⊎ (each_step (λ past e. not (w.closes past e)) (e ∷ window) base ≡ true)
    go true is rest = inl (record { newer = []; event = e; older = window; is = refl; closes = is; unclosed = rest })
    go false is rest = inr (ap (λ t. if not t then each_step (λ past e. not (w.closes past e)) window base else false) is ∙ rest)

-- if it leaves it open, it is shorter than what was allowed and paid
pub open_short : (r : ℕ) (w : Watch) (most : ℕ) (window base : List Event) → AtEachMoment (IsInTime w) (window ++ base) → (k : Pending r w most base) → each_step (λ past e. not (w.closes past e)) window base ≡ true
    → steps w.counts window base < most + paid w.pays (window ++ k.window) k.opened
open_short r w most window base held k open_yet =
    let rest = subst (λ l. each_step (λ past e. not (w.closes past e)) window l ≡ true) k.is open_yet in
    let all = each_both (λ past e. not (w.closes past e)) window k.window k.opened rest k.unclosed in
    let whole : window ++ base ≡ (window ++ k.window) ++ k.opened = ap (λ l. window ++ l) k.is ∙ sym (append_assoc window k.window k.opened) in
    let less = shorter w k.amount (window ++ base) (window ++ k.window) k.opened held (record { newer = []; is = whole }) k.allows all in
    let more = steps_both w.counts window k.window k.opened in
    let same = ap (steps w.counts window) k.is in
    let few = k.few in
    omega (arith, less, more, same, few)

pub paid_both : (pays : List Event → Event → ℕ) (xs ys base : List Event) → paid pays (xs ++ ys) base ≡ paid pays xs (ys ++ base) + paid pays ys base
paid_both pays [] ys base = omega arith
paid_both pays (e ∷ xs) ys base =
    let ih = paid_both pays xs ys base in
    let same = ap (λ l. pays l e) (append_assoc xs ys base) in
    omega (arith, ih, same)

pub unpaid : (window older : List Event) → paid nothing window older ≡ 0
unpaid [] older = refl
unpaid (e ∷ window) older = let ih = unpaid window older in omega (arith, ih)
