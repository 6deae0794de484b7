-- From a submission on a leader that nothing interrupts commits what is missing in time.
use Rattle.std.proofs.Common.{◌≡◌, ℕ, ◌+◌, ◌-◌, ◌*◌, ◌<◌, ◌≤◌, Bool, true, false, cond, ◌&&◌, ◌||◌, not, List, [], ◌∷◌, ◌++◌, length, refl, ◌∙◌, ap, arith, None, Some, min}
use Rattle.std.specs.declared.option.Option.{Option}
use Rattle.std.specs.Prelude.{if◌then◌else◌}
use Rattle.std.proofs.Math.Nat.{mul-le-mul_left, mul-le-mul_right}
use Rattle.std.proofs.lemmas.Bool.{and_from}
use Rattle.mu_model.specs.declared.config.Config.{Config}
use Rattle.mu_model.specs.declared.event.Event.{Event}
use Rattle.mu_model.specs.Bounds.{copied, is_copying, is_learning, members}
use Rattle.mu_model.specs.Diligence.{is_milestone, is_progress}
use Rattle.mu_model.specs.Histories.{has}
use Rattle.mu_model.specs.Knowledge.{known}
use Rattle.mu_model.specs.Leaderships.{is_member, leadership}
use Rattle.mu_model.specs.Steps.{commits_more, is_lagging, is_min}
use Rattle.mu_model.specs.Stretches.{is_replication, replications, steps}
use Rattle.mu_pace.specs.Counters.{Watch, fewer, left_after, paid}
use Rattle.mu_pace.specs.Watches.{earns, leaves, limit, limit_now, progressing}
use Rattle.mu_pace.proofs.Growing.{earned}
use Rattle.mu_alive.specs.Missing.{missing_steps}
use Rattle.mu_alive.specs.Newer.{CalmLeadersCommitNewer, LastsFrom, left_from}
use Rattle.mu_alive.proofs.Calm.{AreCalmTurns, calm_puts, calm_stays, calm_turns, closes_at, copied_pairs, copies_few, count_few, learnt, limit_fits}
use Rattle.mu_alive.proofs.Missing.{on_commit, on_rest}

-- what a moment leaves of a count that is open
fewer_open : (o : Option ℕ) (x : ℕ) → (left : ℕ) × (fewer o (Some x) ≡ Some left) × (left ≤ x)
fewer_open None x = (x, refl, omega arith)
fewer_open (Some a) x = (min a x, refl, omega arith)

taken : (t : Bool) (x p : ℕ) → 1 ≤ x → (y : ℕ) × (left_after false t p (Some x) ≡ Some y) × (y + cond t 1 0 ≡ x + p)
taken true x p l = (x + p - 1, refl, omega arith)
taken false x p l = (x + p, refl, omega arith)

-- one step that doesn't close it
goes_from : (w : Watch) (amount : ℕ) (e : Event) (window base : List Event) (left : ℕ) → w.closes (window ++ base) e ≡ false → 1 ≤ left → left_from w amount window base ≡ Some left
    → (after : ℕ) × (left_from w amount (e ∷ window) base ≡ Some after) × (after + cond (w.counts (window ++ base) e) 1 0 ≤ left + w.pays (window ++ base) e)
goes_from w amount e window base left n some is =
    let past = window ++ base in
    let t = taken (w.counts past e) left (w.pays past e) some in
    let f = fewer_open (w.allows (e ∷ past)) t.0 in
    let last = f.2 in let sum = t.2 in
    let shut : left_after (w.closes past e) (w.counts past e) (w.pays past e) (left_from w amount window base) ≡ Some t.0 =
    ap (λ o. left_after (w.closes past e) (w.counts past e) (w.pays past e) o) is ∙ ap (λ s. left_after s (w.counts past e) (w.pays past e) (Some left)) n ∙ t.1 in
    (f.0, ap (fewer (w.allows (e ∷ past))) shut ∙ f.1, omega (arith, last, sum))

-- a commit opens it anew
reopens_from : (c : Config) (r amount : ℕ) (e : Event) (window base : List Event) (left : ℕ) → commits_more c r (window ++ base) e ≡ true → (progressing c r).closes (window ++ base) e ≡ true → left_from (progressing c r) amount window base ≡ Some left → left_from (progressing c r) amount (e ∷ window) base ≡ Some (limit_now c r (e ∷ (window ++ base)))
reopens_from c r amount e window base left commits closes is = shut (is_milestone c r past e) (milestone (is_min e && not (has is_min (leadership r past))) (is_replication past e && is_lagging c r past e)) (leaves c r (is_progress c r) past e) closes (left_from (progressing c r) amount window base) is
  where
    past : List Event
    past = window ++ base

    milestone : (t u : Bool) → (t || (commits_more c r past e || u)) ≡ true
    milestone true u = refl
    milestone false u = rw commits refl

    shut : (t : Bool) → t ≡ true → (u : Bool) → u ≡ true → (o : Option ℕ) → o ≡ Some left → fewer (if t then Some (limit_now c r (e ∷ past)) else None) (left_after u (is_replication past e) (earns c r past e) o) ≡ Some (limit_now c r (e ∷ past))
    shut t ht u hu o ho = rw (ht, hu, ho) refl

-- what is left after a stretch, and what was spent in it
record SpendsFrom (c : Config) (r amount : ℕ) (window base : List Event) : Type 0 where
  left : ℕ
  is : left_from (progressing c r) amount window base ≡ Some left
  some : 1 ≤ left
  within : replications window base + left ≤ amount + limit c c.replicas * steps (commits_more c r) window base + paid (earns c r) window base

spends_from : (c : Config) (r amount : ℕ) (window base : List Event) → LastsFrom (progressing c r) amount window base → AreCalmTurns c r window base → SpendsFrom c r amount window base
spends_from c r amount [] base held calm = record { left = amount; is = refl; some = held amount refl; within = (let none : limit c c.replicas * 0 ≡ 0 = omega arith in omega (arith, none)) }
spends_from c r amount (e ∷ window) base held calm =
    let was = spends_from c r amount window base held.0 calm.0 in
    go (is_replication past e) refl (commits_more c r past e) refl was
  where
    past : List Event
    past = window ++ base

    both : (t : Bool) → is_replication past e ≡ t → (u : Bool) → commits_more c r past e ≡ u → (is_replication past e && commits_more c r past e) ≡ (t && u)
    both t ht u hu = ap (λ x. x && commits_more c r past e) ht ∙ ap (λ x. t && x) hu

    rests : (t : Bool) → is_replication past e ≡ t → (u : Bool) → commits_more c r past e ≡ u → (t && u) ≡ false → SpendsFrom c r amount window base → SpendsFrom c r amount (e ∷ window) base
    rests t ht u hu idle was =
        let shut : (progressing c r).closes past e ≡ false = closes_at c r past e calm.1 ∙ both t ht u hu ∙ idle in
        let on = goes_from (progressing c r) amount e window base was.left shut was.some was.is in
        let more = on.2 in
        record {
          left = on.0;
          is = on.1;
          some = held.1 on.0 on.1;
          within = on_rest (is_replication past e) (commits_more c r past e) (replications window base) was.left on.0 amount (limit c c.replicas) (steps (commits_more c r) window base) (paid (earns c r) window base) (earns c r past e) was.within more;
        }

    go : (t : Bool) → is_replication past e ≡ t → (u : Bool) → commits_more c r past e ≡ u → SpendsFrom c r amount window base → SpendsFrom c r amount (e ∷ window) base
    go true ht true hu was =
        let fits = limit_fits c r (e ∷ past) in
        let is = reopens_from c r amount e window base was.left hu (closes_at c r past e calm.1 ∙ and_from (is_replication past e) (commits_more c r past e) ht hu) was.is in
        record {
          left = limit_now c r (e ∷ past);
          is = is;
          some = held.1 (limit_now c r (e ∷ past)) is;
          within = rw (ht, hu) (on_commit (replications window base) was.left amount (limit c c.replicas) (steps (commits_more c r) window base) (paid (earns c r) window base) (earns c r past e) (limit_now c r (e ∷ past)) was.within was.some fits);
        }
    go true ht false hu was = rests true ht false hu refl was
    go false ht u hu was = rests false ht u hu refl was

all_spent : (k left l b m p lw y x n missing there now most members_then members_now copied_all : ℕ) → 8 ≤ b → k + left ≤ l + b * m + p → 1 ≤ left → l ≤ b
    → 6 * members_then + p ≤ 6 * members_now + 8 * copied_all → copied_all ≡ lw + y → members_now ≤ n → y ≤ x → m + lw + there ≤ now → now ≤ most → most ≤ there + missing
    → k < b * (missing + 1) + 6 * n + 8 * (0 + x)
all_spent k left l b m p lw y x n missing there now most members_then members_now copied_all wide within some first earns copied few pairs gains fits lacks =
    let a : 8 * lw ≤ b * lw = mul-le-mul_right lw wide in
    let f : b * (m + lw) ≤ b * missing = mul-le-mul_left b (omega (arith, gains, fits, lacks)) in
    let g : b * (m + lw) ≡ b * m + b * lw = omega arith in
    let h : b * (missing + 1) ≡ b * missing + b = omega arith in
    omega (arith, within, some, first, earns, copied, few, pairs, a, f, g, h)

pub quiet_newer : (c : Config) (r most missing : ℕ) (window base : List Event) → LastsFrom (progressing c r) (limit_now c r base) window base → AreCalmTurns c r window base → length (known c r (window ++ base)) ≤ most → most ≤ length (known c r base) + missing → replications window base < missing_steps c 0 missing most
quiet_newer c r most missing window base held calm fits lacks =
    let t = spends_from c r (limit_now c r base) window base held calm in
    let stays_all = calm_stays c r window base calm in
    let y = copied_pairs c r most window base stays_all (calm_puts c r window base calm) fits in
    let few = copies_few c r most c.replicas (window ++ base) in
    all_spent (replications window base) t.left (limit_now c r base) (limit c c.replicas) (steps (commits_more c r) window base) (paid (earns c r) window base) (steps (is_learning c r) window base) (steps (is_copying c r) window base) (c.replicas * most) c.replicas missing
    (length (known c r base)) (length (known c r (window ++ base))) most (members c r base) (members c r (window ++ base)) (copied c r window base)
    (omega arith) t.within t.some (limit_fits c r base) (earned c r window base stays_all) refl (count_few c.replicas (λ p. is_member r p (window ++ base))) (omega (arith, y, few)) (learnt c r window base) fits lacks

pub calm_newer : CalmLeadersCommitNewer
calm_newer c r most missing window base held calm fits lacks = quiet_newer c r most missing window base held (calm_turns c r window base calm) fits lacks
