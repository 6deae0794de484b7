-- A leader that knows every command fetches the rows that it lacks, as many as it hasn't gained yet.
use Rattle.std.proofs.Common.{◌≡◌, ℕ, ◌+◌, ◌-◌, ◌*◌, ◌<◌, ◌≤◌, ◌==◌, inl, inr, Bool, true, false, List, [], ◌++◌, length, refl, sym, ◌∙◌, ap, arith, subst, true≢false, append_assoc}
use Rattle.std.proofs.Math.Nat.{mul-le-mul_left}
use Rattle.std.proofs.lemmas.Bool.{cases_lt}
use Rattle.std.proofs.lemmas.List.{length-append}
use Rattle.mu_model.specs.declared.config.Config.{Config}
use Rattle.mu_model.specs.declared.event.Event.{Event}
use Rattle.mu_model.specs.Bounds.{cycle}
use Rattle.mu_model.specs.Contents.{holds_all, row_count}
use Rattle.mu_model.specs.Histories.{IsPrefixOf, part}
use Rattle.mu_model.specs.Knowledge.{applied, front, has_entry, known}
use Rattle.mu_model.specs.Parts.{IsPossible}
use Rattle.mu_model.specs.Room.{reserve}
use Rattle.mu_model.specs.Steps.{knows_all}
use Rattle.mu_model.specs.Stretches.{IsStretch}
use Rattle.mu_model.proofs.Parts.{filter-append, part_is_possible}
use Rattle.mu_agree.proofs.Knowing.{known_stays}
use Rattle.mu_pace.proofs.Growing.{known_grows}
use Rattle.mu_alive.specs.Bringing.{most_paid}
use Rattle.mu_alive.specs.Lagging.{gain_steps}
use Rattle.mu_alive.proofs.Enough.{holds_more, lacks_older}
use Rattle.mu_alive.proofs.Fetching.{applied_grows, front_begins, some_completed}
use Rattle.mu_alive.proofs.Gaining.{gain, gain_few, gain_stays}
use Rattle.mu_alive.proofs.GainingUpTo.{gain_up_to, up_to_gain}
use Rattle.mu_alive.proofs.Moments.{adds_up}
use Rattle.mu_alive.proofs.Stands.{Ticked}
use Rattle.mu_alive.proofs.Stopped.{Waits}

-- a knows every command, and has applied it
abbrev pub HasEach : Config → ℕ → List Event → Type 0
HasEach c a past = (knows_all c a (part a past) ≡ true) × (holds_all c (applied c a (part a past)) ≡ true)

-- what was known is applied after as many times two rounds as are left to be gained
fetched_rest : (c : Config) (live : ℕ → Bool) (a start gains : ℕ) (newer older : List Event) → Waits c live a start (newer ++ older) → (c.width + 1) * (row_count c + reserve c) + 1 ≤ gain c a (part a older) + gains → gains * gain_steps c ≤ length (part a newer)
    → length (known c a (part a older)) ≤ length (applied c a (part a newer ++ part a older))
fetched_rest c live a start gains newer older w rows long = elim (cases_lt (length (applied c a (part a newer ++ part a older))) (length (known c a (part a older)))) [
  | inr all ↦ all
  | inl less ↦
      let more = adds_up (2 * cycle c) gains (λ past. gain c a past - gain c a (part a older)) (part a newer ++ part a older) [] (part a newer) (part a older) stays (rises less) refl (omega (arith, few_steps, long)) in
      let most = gain_few c a (part a newer ++ part a older) w.good (subst (λ l. IsPossible c a l) split (part_is_possible c a (newer ++ older) w.last.legal)) in
      let first = gain_stays c a (part a newer) (part a older) in
      absurd (omega (arith, more, most, rows, first))
]
  where
    split : part a (newer ++ older) ≡ part a newer ++ part a older
    split = filter-append (λ e. e.by == a) newer older

    few_steps : gains * (2 * cycle c) ≤ gains * gain_steps c
    few_steps = mul-le-mul_left gains (omega arith)

    stays : (xs ys : List Event) → gain c a ys - gain c a (part a older) ≤ gain c a (xs ++ ys) - gain c a (part a older)
    stays xs ys = let more = gain_stays c a xs ys in omega (arith, more)

    rises : length (applied c a (part a newer ++ part a older)) < length (known c a (part a older)) → (u rest : List Event) → IsStretch (part a newer ++ part a older) u (rest ++ part a older) → length u ≡ 2 * cycle c → gain c a (rest ++ part a older) - gain c a (part a older) + 1 ≤ gain c a (u ++ (rest ++ part a older)) - gain c a (part a older)
    rises less u rest s two =
        let up : part a newer ++ part a older ≡ (s.newer ++ u) ++ (rest ++ part a older) = s.is ∙ sym (append_assoc s.newer u (rest ++ part a older)) in
        let few = applied_grows c a (s.newer ++ u) (rest ++ part a older) in
        let same = ap (λ l. length (applied c a l)) up in
        let knows = known_grows c a rest (part a older) in
        let one = some_completed c a u (rest ++ part a older) (w.free.fetches a w.last.inside w.last.lives u (rest ++ part a older) (record { newer = s.newer; is = split ∙ s.is }) two (omega (arith, few, same, knows, less))) in
        let grows = known_grows c a u (rest ++ part a older) in
        let first = gain_stays c a rest (part a older) in
        omega (arith, one, grows, first)

-- so then it has each
pub finished : (c : Config) (live : ℕ → Bool) (a start gains : ℕ) (newer older : List Event) → Waits c live a start (newer ++ older) → knows_all c a (part a older) ≡ true → (c.width + 1) * (row_count c + reserve c) + 1 ≤ gain c a (part a older) + gains → gains * gain_steps c ≤ length (part a newer) → HasEach c a (newer ++ older)
finished c live a start gains newer older w knows rows long = (knows_yet (knows_all c a (part a (newer ++ older))) refl, subst (λ l. holds_all c (applied c a l) ≡ true) (sym split) (subst (λ l. holds_all c l ≡ true) (sym begins.1) (holds_more c (known c a (part a older)) begins.0 knows)))
  where
    split : part a (newer ++ older) ≡ part a newer ++ part a older
    split = filter-append (λ e. e.by == a) newer older

    knows_yet : (t : Bool) → knows_all c a (part a (newer ++ older)) ≡ t → t ≡ true
    knows_yet true is = refl
    knows_yet false lacks = absurd (true≢false (sym knows ∙ lacks_older c a newer older lacks))

    begins : IsPrefixOf (known c a (part a older)) (applied c a (part a newer ++ part a older))
    begins =
        let more = known_stays c a (part a newer) (part a older) in
        subst (λ l. IsPrefixOf (known c a (part a older)) (front (λ v. has_entry c a v (part a newer ++ part a older)) l)) (sym more.1)
        (front_begins (λ v. has_entry c a v (part a newer ++ part a older)) (known c a (part a older)) more.0
        (subst (λ l. length (known c a (part a older)) ≤ length (front (λ v. has_entry c a v (part a newer ++ part a older)) l)) more.1 (fetched_rest c live a start gains newer older w rows long)))

-- if it knows every command once the clock has gone on, and time is left for what isn't gained
pub ends : (c : Config) (live : ℕ → Bool) (a start k m gains at d rest : ℕ) (n base newer older : List Event) → Waits c live a start (newer ++ older) → (t : Ticked c live a start at d n base newer older) → at + (d + rest) + 4 * most_paid c ≤ length (part a newer ++ n) → gains * gain_steps c ≤ rest → m ≤ gain_up_to c k a (part a older)
    → (c.width + 1) * (row_count c + reserve c) + 1 ≤ m + gains → knows_all c a (part a (t.lower ++ older)) ≡ true → HasEach c a (newer ++ older)
ends c live a start k m gains at d rest n base newer older w t room less gained rows knows =
    subst (HasEach c a) (sym t.then.whole)
    (finished c live a start gains t.upper (t.lower ++ older) t.then.waits knows
    (let up = up_to_gain c k a (part a older) in let stays = gain_stays c a (part a t.lower) (part a older) in let same = ap (gain c a) (filter-append (λ e. e.by == a) t.lower older) in omega (arith, up, stays, same, gained, rows))
    (let total = t.then.total in let sum = length-append (part a t.upper) (part a t.lower ++ n) in let low = t.below [] (part a t.lower ++ n) refl in let few = t.then.few in omega (arith, total, sum, low, few, room, less)))
