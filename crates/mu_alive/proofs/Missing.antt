-- A leader that nothing interrupts commits what is missing in time, whatever it knew before.
use Rattle.std.proofs.Common.{◌≡◌, ℕ, suc, zero, ◌+◌, ◌*◌, ◌<◌, ◌≤◌, Bool, true, false, cond, ◌&&◌, ◌==◌, List, [], ◌∷◌, ◌++◌, length, refl, sym, ◌∙◌, ap, append_assoc, arith, Some, subst}
use Rattle.std.specs.Prelude.{if◌then◌else◌}
use Rattle.std.proofs.Math.Nat.{mul-le-mul_left, mul-le-mul_right}
use Rattle.std.proofs.lemmas.Bool.{and_from}
use Rattle.std.proofs.lemmas.List.{length-append}
use Rattle.mu_model.specs.declared.config.Config.{Config}
use Rattle.mu_model.specs.declared.event.Event.{Event}
use Rattle.mu_model.specs.Bounds.{copied, is_copying, is_learning, members}
use Rattle.mu_model.specs.Diligence.{is_milestone}
use Rattle.mu_model.specs.Histories.{part}
use Rattle.mu_model.specs.Knowledge.{known}
use Rattle.mu_model.specs.Leaderships.{is_member}
use Rattle.mu_model.specs.Steps.{commits_more}
use Rattle.mu_model.specs.Stretches.{is_replication, replications, steps}
use Rattle.mu_model.proofs.Parts.{filter-append}
use Rattle.mu_agree.proofs.Knowing.{known_stays}
use Rattle.mu_pace.specs.Counters.{IsInTime, paid, steps_left}
use Rattle.mu_agree.specs.Moments.{AtEachMoment}
use Rattle.mu_pace.specs.Watches.{earns, limit, limit_now, progressing}
use Rattle.mu_pace.proofs.Counting.{goes_on, last_moment, moments_before, opened}
use Rattle.mu_pace.proofs.Growing.{earned}
use Rattle.mu_alive.specs.Missing.{CalmLeadersCommitMissing, Knew, missing_steps}
use Rattle.mu_alive.proofs.Calm.{AreCalmTurns, IsCalmTurn, calm_puts, calm_stays, calm_turns, closes_at, copied_pairs, copies_few, count_few, learnt, limit_fits, reopens}
use Rattle.mu_alive.proofs.Waiting.{paid_both, steps_both}

-- what is left of the progress bound after a stretch, and what was spent in it
record Spends (c : Config) (r first most : ℕ) (window base : List Event) : Type 0 where
  left : ℕ
  is : steps_left (progressing c r) (window ++ base) ≡ Some left
  within : replications window base + left ≤ first + limit c c.replicas * steps (commits_more c r) window base + paid (earns c r) window base
  few : left ≤ most + paid (earns c r) window base

pub on_commit : (k left l b m p q d : ℕ) → k + left ≤ l + b * m + p → 1 ≤ left → d ≤ b → k + 1 + d ≤ l + b * (m + 1) + (p + q)
on_commit k left l b m p q d within some few = let next : b * (m + 1) ≡ b * m + b = omega arith in omega (arith, within, some, few, next)

pub on_rest : (t u : Bool) (k left after l b m p q : ℕ) → k + left ≤ l + b * m + p → after + cond t 1 0 ≤ left + q → (if t then k + 1 else k) + after ≤ l + b * (if u then m + 1 else m) + (p + q)
on_rest true true k left after l b m p q within on = let next : b * (m + 1) ≡ b * m + b = omega arith in omega (arith, within, on, next)
on_rest true false k left after l b m p q within on = omega (arith, within, on)
on_rest false true k left after l b m p q within on = let next : b * (m + 1) ≡ b * m + b = omega arith in omega (arith, within, on, next)
on_rest false false k left after l b m p q within on = omega (arith, within, on)

few_rest : (t : Bool) (left after most p q : ℕ) → left ≤ most + p → after + cond t 1 0 ≤ left + q → after ≤ most + (p + q)
few_rest true left after most p q few on = omega (arith, few, on)
few_rest false left after most p q few on = omega (arith, few, on)

spends : (c : Config) (r first most : ℕ) (window base : List Event) → AtEachMoment (IsInTime (progressing c r)) (window ++ base) → steps_left (progressing c r) base ≡ Some first → first ≤ most → limit c c.replicas ≤ most → AreCalmTurns c r window base → Spends c r first most window base
spends c r first most [] base held is low wide calm = record { left = first; is = is; within = (let none : limit c c.replicas * 0 ≡ 0 = omega arith in omega (arith, none)); few = omega (arith, low) }
spends c r first most (e ∷ window) base held is low wide calm =
    let was = spends c r first most window base held.0 is low wide calm.0 in
    go (is_replication past e) refl (commits_more c r past e) refl was
  where
    past : List Event
    past = window ++ base

    both : (t : Bool) → is_replication past e ≡ t → (u : Bool) → commits_more c r past e ≡ u → (is_replication past e && commits_more c r past e) ≡ (t && u)
    both t ht u hu = ap (λ x. x && commits_more c r past e) ht ∙ ap (λ x. t && x) hu

    rests : (t : Bool) → is_replication past e ≡ t → (u : Bool) → commits_more c r past e ≡ u → (t && u) ≡ false → Spends c r first most window base → Spends c r first most (e ∷ window) base
    rests t ht u hu idle was =
        let shut : (progressing c r).closes past e ≡ false = closes_at c r past e calm.1 ∙ both t ht u hu ∙ idle in
        let on = goes_on (progressing c r) past e was.left shut (last_moment (IsInTime (progressing c r)) past held.0) (record { left = was.left; is = was.is; few = omega arith }) in
        let more = on.2 in
        record {
          left = on.0;
          is = on.1;
          within = on_rest (is_replication past e) (commits_more c r past e) (replications window base) was.left on.0 first (limit c c.replicas) (steps (commits_more c r) window base) (paid (earns c r) window base) (earns c r past e) was.within more;
          few = few_rest (is_replication past e) was.left on.0 most (paid (earns c r) window base) (earns c r past e) was.few more;
        }

    go : (t : Bool) → is_replication past e ≡ t → (u : Bool) → commits_more c r past e ≡ u → Spends c r first most window base → Spends c r first most (e ∷ window) base
    go true ht true hu was =
        let some = last_moment (IsInTime (progressing c r)) past held.0 was.left was.is in
        let fits = limit_fits c r (e ∷ past) in
        record {
          left = limit_now c r (e ∷ past);
          is = reopens c r past e was.left hu (closes_at c r past e calm.1 ∙ and_from (is_replication past e) (commits_more c r past e) ht hu) was.is;
          within = rw (ht, hu) (on_commit (replications window base) was.left first (limit c c.replicas) (steps (commits_more c r) window base) (paid (earns c r) window base) (earns c r past e) (limit_now c r (e ∷ past)) was.within some fits);
          few = omega (arith, fits, wide);
        }
    go true ht false hu was = rests true ht false hu refl was
    go false ht u hu was = rests false ht u hu refl was

-- a calm stretch in two parts
calm_both : (c : Config) (r : ℕ) (window middle base : List Event) → AreCalmTurns c r (window ++ middle) base → AreCalmTurns c r window (middle ++ base) × AreCalmTurns c r middle base
calm_both c r [] middle base calm = (tt, calm)
calm_both c r (e ∷ window) middle base calm =
    let k = calm_both c r window middle base calm.0 in
    ((k.0, subst (λ l. IsCalmTurn c r l e) (append_assoc window middle base) calm.1), k.1)

-- what is above a number
pub above_it : (x y : ℕ) → x ≤ y → (d : ℕ) × (y ≡ x + d)
above_it zero y low = (y, omega arith)
above_it (suc x) zero low = absurd (omega (arith, low))
above_it (suc x) (suc y) low = let k = above_it x y (omega (arith, low)) in (k.0, let is = k.1 in omega (arith, is))

-- all that may be spent
all_spent : (k left l b m pw pm pall lw lm d y x n missing already there now before members copied_all : ℕ) → 8 ≤ b → k + left ≤ l + b * m + pw → 1 ≤ left → l ≤ b + pm → pall ≡ pw + pm
    → 6 * before + pall ≤ 6 * members + 8 * copied_all → copied_all ≡ lw + lm + y → members ≤ n → y ≤ x → m + lw + there ≤ now → now ≤ already + missing → there ≡ already + d → lm ≤ there
    → k < b * (missing + 1) + 6 * n + 8 * (already + x)
all_spent k left l b m pw pm pall lw lm d y x n missing already there now before members copied_all wide within some first sum earns copied few pairs gains lacks is looks =
    let a : 8 * lw ≤ b * lw = mul-le-mul_right lw wide in
    let e : 8 * d ≤ b * d = mul-le-mul_right d wide in
    let f : b * (m + lw + d) ≤ b * missing = mul-le-mul_left b (omega (arith, gains, lacks, is)) in
    let g : b * (m + lw + d) ≡ b * m + b * lw + b * d = omega arith in
    let h : b * (missing + 1) ≡ b * missing + b = omega arith in
    omega (arith, within, some, first, sum, earns, copied, few, pairs, is, looks, a, e, f, g, h)

pub quiet_missing : (c : Config) (r most already missing : ℕ) (first : Event) (window middle older : List Event) → AtEachMoment (IsInTime (progressing c r)) (window ++ (middle ++ first ∷ older)) → is_milestone c r older first ≡ true → AreCalmTurns c r (window ++ middle) (first ∷ older)
    → length (known c r (window ++ (middle ++ first ∷ older))) ≤ most → already ≤ length (known c r (middle ++ first ∷ older)) → length (known c r (window ++ (middle ++ first ∷ older))) ≤ already + missing → replications window (middle ++ first ∷ older) < missing_steps c already missing most
quiet_missing c r most already missing first window middle older held milestone calm fits knew lacks =
    let d = above_it already (length (known c r base)) knew in
    let stays_all = calm_stays c r (window ++ middle) (first ∷ older) calm in
    let same = append_assoc window middle (first ∷ older) in
    let fits_all : length (known c r ((window ++ middle) ++ first ∷ older)) ≤ most = subst (λ x. length (known c r x) ≤ most) (sym same) fits in
    let puts = calm_puts c r (window ++ middle) (first ∷ older) calm in
    let y = copied_pairs c r most (window ++ middle) (first ∷ older) stays_all puts fits_all in
    let l = learnt c r middle (first ∷ older) in
    all_spent (replications window base) below.left above.1.left (limit c c.replicas) (steps (commits_more c r) window base) (paid (earns c r) window base) (paid (earns c r) middle (first ∷ older)) (paid (earns c r) (window ++ middle) (first ∷ older))
    (steps (is_learning c r) window base) (steps (is_learning c r) middle (first ∷ older)) d.0 (steps (is_copying c r) (window ++ middle) (first ∷ older)) (c.replicas * most) c.replicas missing already (length (known c r base)) (length (known c r (window ++ base)))
    (members c r (first ∷ older)) (members c r ((window ++ middle) ++ first ∷ older)) (copied c r (window ++ middle) (first ∷ older))
    (omega arith) below.within (last_moment (IsInTime (progressing c r)) (window ++ base) held below.left below.is) above.1.few (paid_both (earns c r) window middle (first ∷ older))
    (earned c r (window ++ middle) (first ∷ older) stays_all) (ap (λ t. t + steps (is_copying c r) (window ++ middle) (first ∷ older)) (steps_both (is_learning c r) window middle (first ∷ older)))
    (count_few c.replicas (λ p. is_member r p ((window ++ middle) ++ first ∷ older))) (let few = copies_few c r most c.replicas ((window ++ middle) ++ first ∷ older) in omega (arith, y, few))
    (learnt c r window base) lacks d.1 (omega (arith, l))
  where
    base : List Event
    base = middle ++ first ∷ older

    halves : AreCalmTurns c r window base × AreCalmTurns c r middle (first ∷ older)
    halves = calm_both c r window middle (first ∷ older) calm

    before : AtEachMoment (IsInTime (progressing c r)) base
    before = moments_before (IsInTime (progressing c r)) window base held

    above : (o : ℕ) × Spends c r o (limit c c.replicas) middle (first ∷ older)
    above =
        let o = opened (progressing c r) (limit_now c r (first ∷ older)) (first ∷ older) (rw milestone refl) in
        let few = o.few in
        let fit = limit_fits c r (first ∷ older) in
        (o.left, spends c r o.left (limit c c.replicas) middle (first ∷ older) before o.is (omega (arith, few, fit)) (omega arith) halves.1)

    below : Spends c r above.1.left (above.1.left + limit c c.replicas) window base
    below = spends c r above.1.left (above.1.left + limit c c.replicas) window base held above.1.is (omega arith) (omega arith) halves.0

pub calm_missing : CalmLeadersCommitMissing
calm_missing c r most already missing first window middle older held milestone calm fits knew lacks = quiet_missing c r most already missing first window middle older held milestone (calm_turns c r (window ++ middle) (first ∷ older) calm) fits knew (omega (arith, fits, lacks))

-- more events, more that is known
pub known_more : (c : Config) (a : ℕ) (newer older : List Event) → length (known c a older) ≤ length (known c a (newer ++ older))
known_more c a newer older =
    let more = known_stays c a newer older in
    let sum = ap length more.1 ∙ length-append (known c a older) more.0 in
    omega (arith, sum)

pub known_up : (c : Config) (a : ℕ) (low older : List Event) → length (known c a (part a older)) ≤ length (known c a (part a (low ++ older)))
known_up c a low older =
    let more = known_more c a (part a low) (part a older) in
    let same = ap (λ l. length (known c a l)) (filter-append (λ e. e.by == a) low older) in
    omega (arith, more, same)

pub knew_later : (c : Config) (already missing a : ℕ) (low older : List Event) → Knew c already missing a older → already ≤ length (known c a (part a (low ++ older)))
knew_later c already missing a low older k =
    let n = k.knew in
    let more = known_more c a (part a low) (part a older) in
    let same = ap (λ l. length (known c a l)) (filter-append (λ e. e.by == a) low older) in
    omega (arith, n, more, same)
