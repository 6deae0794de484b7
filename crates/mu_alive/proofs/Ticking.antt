-- The clock of a leadership: its steps without what they are paid. By it a count closes twice its bound
-- after the moment at which it was open.
use Rattle.std.proofs.Common.{◌≡◌, ℕ, ◌+◌, ◌*◌, ◌<◌, ◌≤◌, ◌==◌, ◌⊎◌, not, inl, inr, Bool, true, false, cond, List, [], ◌∷◌, ◌++◌, length, refl, sym, ◌∙◌, ap, arith, subst, append_assoc}
use Rattle.std.proofs.lemmas.Bool.{cases_lt}
use Rattle.std.proofs.lemmas.List.{length-append}
use Rattle.mu_model.specs.declared.config.Config.{Config}
use Rattle.mu_model.specs.declared.event.Event.{Event}
use Rattle.mu_model.specs.Histories.{part}
use Rattle.mu_model.specs.Stretches.{each_step, replications, steps}
use Rattle.mu_pace.specs.Counters.{IsInTime, Watch, paid}
use Rattle.mu_agree.specs.Moments.{AtEachMoment}
use Rattle.mu_pace.specs.Watches.{earns, limit}
use Rattle.mu_pace.proofs.Counting.{shorter}
use Rattle.mu_alive.proofs.Moments.{at_least_halves}
use Rattle.mu_alive.proofs.Since.{Since, flat, paid_on}
use Rattle.mu_alive.proofs.Waiting.{Closed, closed_or, each_both, paid_both}

-- since the base the clock has never been above that
abbrev pub IsBelow : Config → ℕ → ℕ → List Event → List Event → Type 0
IsBelow c a at n base = (xs ys : List Event) → n ≡ xs ++ ys → length ys ≤ at + 4 * paid (earns c a) ys base

pub below_more : (c : Config) (a at more : ℕ) (n base : List Event) → at ≤ more → IsBelow c a at n base → IsBelow c a more n base
below_more c a at more n base less below xs ys is = let l = below xs ys is in omega (arith, l, less)

-- one event more
below_next : (c : Config) (a at : ℕ) (e : Event) (n base : List Event) → IsBelow c a at n base → length n < at + 4 * paid (earns c a) n base → IsBelow c a at (e ∷ n) base
below_next c a at e n base below short [] ys is =
    let more = paid_on c a (e ∷ []) n base in
    let long = ap length (sym is) in
    let same = ap (λ l. paid (earns c a) l base) is in
    omega (arith, short, more, long, same)
below_next c a at e n base below short (x ∷ xs) ys is = below xs ys cc

-- the first moment at which it is there
pub record IsReached (c : Config) (a at : ℕ) (n base newer : List Event) : Type 0 where
  pub upper : List Event
  pub lower : List Event
  pub is : newer ≡ upper ++ lower
  pub enough : at + 4 * paid (earns c a) (part a lower ++ n) base ≤ length (part a lower ++ n)
  pub below : IsBelow c a at (part a lower ++ n) base

reached_or : (c : Config) (a at : ℕ) (n base newer : List Event) → IsBelow c a at n base → IsReached c a at n base newer ⊎ (IsBelow c a at (part a newer ++ n) base × (length (part a newer ++ n) < at + 4 * paid (earns c a) (part a newer ++ n) base))
reached_or c a at n base [] below = elim (cases_lt (length n) (at + 4 * paid (earns c a) n base)) [
  | inl short ↦ inr (below, short)
  | inr there ↦ inl (record { upper = []; lower = []; is = refl; enough = there; below = below })
]
reached_or c a at n base (e ∷ newer) below = elim (reached_or c a at n base newer below) [
  | inl k ↦ inl (record { upper = e ∷ k.upper; lower = k.lower; is = ap (λ l. e ∷ l) k.is; enough = k.enough; below = k.below })
  | inr open_yet ↦ go (e.by == a) refl open_yet.0 open_yet.1
]
  where
    go : (t : Bool) → (e.by == a) ≡ t → IsBelow c a at (part a newer ++ n) base → length (part a newer ++ n) < at + 4 * paid (earns c a) (part a newer ++ n) base
        → IsReached c a at n base (e ∷ newer) ⊎ (IsBelow c a at (part a (e ∷ newer) ++ n) base × (length (part a (e ∷ newer) ++ n) < at + 4 * paid (earns c a) (part a (e ∷ newer) ++ n) base))
    go false other low short = inr (subst (λ l. IsBelow c a at (l ++ n) base × (length (l ++ n) < at + 4 * paid (earns c a) (l ++ n) base)) (sym mine) (low, short))
      where
        mine : part a (e ∷ newer) ≡ part a newer
        mine = ap (λ t. cond t (e ∷ part a newer) (part a newer)) other
    go true own low short = elim (cases_lt (length (e ∷ (part a newer ++ n))) (at + 4 * paid (earns c a) (e ∷ (part a newer ++ n)) base)) [
      | inl less ↦ inr (subst (λ l. IsBelow c a at (l ++ n) base × (length (l ++ n) < at + 4 * paid (earns c a) (l ++ n) base)) (sym mine) (next, less))
      | inr there ↦ inl (record {
        upper = [];
        lower = e ∷ newer;
        is = refl;
        enough = subst (λ l. at + 4 * paid (earns c a) (l ++ n) base ≤ length (l ++ n)) (sym mine) there;
        below = subst (λ l. IsBelow c a at (l ++ n) base) (sym mine) next;
      })
    ]
      where
        mine : part a (e ∷ newer) ≡ e ∷ part a newer
        mine = ap (λ t. cond t (e ∷ part a newer) (part a newer)) own

        next : IsBelow c a at (e ∷ (part a newer ++ n)) base
        next = below_next c a at e (part a newer ++ n) base low short

pub reached : (c : Config) (a at : ℕ) (n base newer : List Event) → IsBelow c a at n base → at + 4 * paid (earns c a) (part a newer ++ n) base ≤ length (part a newer ++ n) → IsReached c a at n base newer
reached c a at n base newer below long = elim (reached_or c a at n base newer below) [
  | inl k ↦ k
  | inr open_yet ↦ absurd (let short = open_yet.1 in omega (arith, short, long))
]

-- a count that was open at a moment of the base or later closes within twice its bound by the clock
pub closes_by : (c : Config) (a : ℕ) (w : Watch) (at : ℕ) (v n base : List Event) → ((u o : List Event) → paid w.pays u o ≤ paid (earns c a) u o) → ((u o : List Event) → replications u o ≤ steps w.counts u o) → AtEachMoment (IsInTime w) (v ++ (n ++ base)) → Since c a w n base → IsBelow c a at n base
    → at + 2 * limit c c.replicas + 4 * paid (earns c a) (v ++ n) base ≤ length (v ++ n) → Closed w v (n ++ base)
closes_by c a w at v n base pays counts held k below long = elim (closed_or w v (n ++ base)) [
  | inl closed ↦ closed
  | inr open_yet ↦
      let there = flat c a w n base k in
      let rest = subst (λ l. each_step (λ past e. not (w.closes past e)) v l ≡ true) there open_yet in
      let all = each_both (λ past e. not (w.closes past e)) v k.window (k.mid ++ base) rest k.unclosed in
      let whole : v ++ (n ++ base) ≡ (v ++ k.window) ++ (k.mid ++ base) = ap (λ l. v ++ l) there ∙ sym (append_assoc v k.window (k.mid ++ base)) in
      let less = shorter w k.amount (v ++ (n ++ base)) (v ++ k.window) (k.mid ++ base) held (record { newer = []; is = whole }) k.allows all in
      let half = at_least_halves (v ++ k.window) (k.mid ++ base) in
      let most = pays (v ++ k.window) (k.mid ++ base) in
      let many = counts (v ++ k.window) (k.mid ++ base) in
      let both = paid_both (earns c a) (v ++ k.window) k.mid base in
      let parts : v ++ n ≡ (v ++ k.window) ++ k.mid = ap (λ l. v ++ l) k.is ∙ sym (append_assoc v k.window k.mid) in
      let sum = ap (λ l. paid (earns c a) l base) parts in
      let count = ap length parts ∙ length-append (v ++ k.window) k.mid in
      let low = below k.window k.mid k.is in
      let few = k.few in
      absurd (total at (limit c c.replicas) k.amount (replications (v ++ k.window) (k.mid ++ base)) (steps w.counts (v ++ k.window) (k.mid ++ base)) (length (v ++ n)) (length (v ++ k.window)) (length k.mid) (paid w.pays (v ++ k.window) (k.mid ++ base)) (paid (earns c a) (v ++ k.window) (k.mid ++ base)) (paid (earns c a) k.mid base) (paid (earns c a) (v ++ n) base) (paid (earns c a) ((v ++ k.window) ++ k.mid) base) less half most many both sum count low few long)
]
  where
    total : (at l amount r s t u m p q z y y' : ℕ) → s < amount + p → u ≤ 2 * r + 1 → p ≤ q → r ≤ s → y' ≡ q + z → y ≡ y' → t ≡ u + m → m ≤ at + 4 * z → amount ≤ l → at + 2 * l + 4 * y ≤ t → ⊥
    total at l amount r s t u m p q z y y' h1 h2 h3 h4 h5 h6 h7 h8 h9 h10 = omega (arith, h1, h2, h3, h4, h5, h6, h7, h8, h9, h10)
