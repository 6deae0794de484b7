-- What a count that is in time at each moment says of a stretch.
use Rattle.std.proofs.Common.{◌≡◌, ℕ, ◌+◌, ◌-◌, ◌<◌, ◌≤◌, Bool, true, false, cond, List, [], ◌∷◌, ◌++◌, refl, sym, ◌∙◌, ap, arith, Some, None, subst, true≢false}
use Rattle.std.specs.declared.option.Option.{Option}
use Rattle.std.specs.Prelude.{if◌then◌else◌, min, not}
use Rattle.mu_model.specs.declared.event.Event.{Event}
use Rattle.mu_model.specs.Stretches.{IsStretch, each_step, steps}
use Rattle.mu_pace.specs.Counters.{IsInTime, Watch, allowed_after, allowed_while, fewer, left_after, paid, steps_left}
use Rattle.std.proofs.lemmas.Bool.{not-true}
use Rattle.mu_agree.specs.Moments.{AtEachMoment, AtEachStep}

-- what follows of two facts of each moment
pub both_moments : (P Q R : List Event → Type 0) → ((now : List Event) → P now → Q now → R now) → (past : List Event) → AtEachMoment P past → AtEachMoment Q past → AtEachMoment R past
both_moments P Q R more [] p q = more [] p q
both_moments P Q R more (e ∷ past) p q = (both_moments P Q R more past p.0 q.0, more (e ∷ past) p.1 q.1)

-- what holds at each moment held at each earlier moment
pub moments_before : (P : List Event → Type 0) (newer older : List Event) → AtEachMoment P (newer ++ older) → AtEachMoment P older
moments_before P [] older h = h
moments_before P (e ∷ newer) older h = moments_before P newer older h.0

-- and at the last
pub last_moment : (P : List Event → Type 0) (past : List Event) → AtEachMoment P past → P past
last_moment P [] h = h
last_moment P (e ∷ past) h = h.1

-- what holds of each step held of each earlier one
pub steps_before : (P : List Event → Event → Type 0) (newer older : List Event) → AtEachStep P (newer ++ older) → AtEachStep P older
steps_before P [] older h = h
steps_before P (e ∷ newer) older h = steps_before P newer older h.0

-- a count is open, and leaves at most this many steps
pub record Leaves (w : Watch) (past : List Event) (most : ℕ) : Type 0 where
  pub left : ℕ
  pub is : steps_left w past ≡ Some left
  pub few : left ≤ most

-- the moment that opens a count leaves no more than it allows
fewer_leaves : (a : ℕ) (o : Option ℕ) → (left : ℕ) × (fewer (Some a) o ≡ Some left) × (left ≤ a)
fewer_leaves a None = (a, refl, omega arith)
fewer_leaves a (Some x) = (min a x, refl, omega arith)

pub opened : (w : Watch) (a : ℕ) (past : List Event) → w.allows past ≡ Some a → Leaves w past a
opened w a [] h = record { left = a; is = h; few = omega arith }
opened w a (e ∷ past) h =
    let f = fewer_leaves a (left_after (w.closes past e) (w.counts past e) (w.pays past e) (steps_left w past)) in
    record { left = f.0; is = ap (λ o. fewer o (left_after (w.closes past e) (w.counts past e) (w.pays past e) (steps_left w past))) h ∙ f.1; few = f.2 }

-- what a moment leaves of a count that is open
fewer_open : (o : Option ℕ) (x : ℕ) → (left : ℕ) × (fewer o (Some x) ≡ Some left) × (left ≤ x)
fewer_open None x = (x, refl, omega arith)
fewer_open (Some a) x = (min a x, refl, omega arith)

taken : (t : Bool) (x p : ℕ) → 1 ≤ x → (y : ℕ) × (left_after false t p (Some x) ≡ Some y) × (y + cond t 1 0 ≡ x + p)
taken true x p l = (x + p - 1, refl, omega arith)
taken false x p l = (x + p, refl, omega arith)

-- one step that doesn't close an open count
pub goes_on : (w : Watch) (past : List Event) (e : Event) (most : ℕ) → w.closes past e ≡ false → IsInTime w past → (before : Leaves w past most)
    → (left : ℕ) × (steps_left w (e ∷ past) ≡ Some left) × (left + cond (w.counts past e) 1 0 ≤ most + w.pays past e)
goes_on w past e most n h b =
    let t = taken (w.counts past e) b.left (w.pays past e) (h b.left b.is) in
    let f = fewer_open (w.allows (e ∷ past)) t.0 in
    let few = b.few in let last = f.2 in let sum = t.2 in
    let shut : left_after (w.closes past e) (w.counts past e) (w.pays past e) (steps_left w past) ≡ Some t.0 =
    ap (λ o. left_after (w.closes past e) (w.counts past e) (w.pays past e) o) b.is ∙ ap (λ s. left_after s (w.counts past e) (w.pays past e) (Some b.left)) n ∙ t.1 in
    (f.0, ap (fewer (w.allows (e ∷ past))) shut ∙ f.1, omega arith)

-- along a stretch that nothing closes
pub record Remains (w : Watch) (window older : List Event) (a : ℕ) : Type 0 where
  pub left : ℕ
  pub is : steps_left w (window ++ older) ≡ Some left
  pub within : left + steps w.counts window older ≤ a + paid w.pays window older

step_sum : (t : Bool) (s : ℕ) → (if t then s + 1 else s) ≡ s + cond t 1 0
step_sum true s = refl
step_sum false s = omega arith

both_of : (t u : Bool) → (if t then u else false) ≡ true → (t ≡ true) × (u ≡ true)
both_of true u h = (refl, h)
both_of false u h = absurd (true≢false (sym h))

pub remains : (w : Watch) (a : ℕ) (window older : List Event) → AtEachMoment (IsInTime w) (window ++ older) → w.allows older ≡ Some a
    → each_step (λ past e. not (w.closes past e)) window older ≡ true → Remains w window older a
remains w a [] older h s n = let o = opened w a older s in let few = o.few in record { left = o.left; is = o.is; within = omega arith }
remains w a (e ∷ window) older h s n =
    let parts = both_of (not (w.closes (window ++ older) e)) (each_step (λ past e. not (w.closes past e)) window older) n in
    let ih = remains w a window older h.0 s parts.1 in
    let b : Leaves w (window ++ older) ih.left = record { left = ih.left; is = ih.is; few = omega arith } in
    let g = goes_on w (window ++ older) e ih.left (not-true (w.closes (window ++ older) e) parts.0) (last_moment (IsInTime w) (window ++ older) h.0) b in
    let sum = step_sum (w.counts (window ++ older) e) (steps w.counts window older) in
    let l = ih.within in let m = g.2 in
    record { left = g.0; is = g.1; within = omega arith }

-- a stretch that nothing closes is shorter than what its first moment allows, with what it earns
pub shorter : (w : Watch) (a : ℕ) (past window older : List Event) → AtEachMoment (IsInTime w) past → IsStretch past window older → w.allows older ≡ Some a
    → each_step (λ past e. not (w.closes past e)) window older ≡ true → steps w.counts window older < a + paid w.pays window older
shorter w a past window older h s o n =
    let here : AtEachMoment (IsInTime w) (window ++ older) = moments_before (IsInTime w) s.newer (window ++ older) (subst (AtEachMoment (IsInTime w)) s.is h) in
    let r = remains w a window older here o n in
    let l = r.within in
    let m : 1 ≤ r.left = last_moment (IsInTime w) (window ++ older) here r.left r.is in omega arith

-- what an event that passes allows
pub allowed_here : (test : List Event → Event → Bool) (amount : List Event → ℕ) (past : List Event) (e : Event) → test past e ≡ true → allowed_after test amount (e ∷ past) ≡ Some (amount (e ∷ past))
allowed_here test amount past e h = rw h refl

-- what a moment that passes allows
pub allowed_now : (test : List Event → Bool) (amount : List Event → ℕ) (past : List Event) → test past ≡ true → allowed_while test amount past ≡ Some (amount past)
allowed_now test amount past h = rw h refl
