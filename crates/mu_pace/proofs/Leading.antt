-- The paces of a leader: progress, raised FUOs, and late followers.
use Rattle.std.proofs.Common.{◌==◌, length-append, ◌≡◌, ℕ, ◌+◌, ◌*◌, ◌<◌, ◌≤◌, ◌⊎◌, inl, inr, Bool, true, false, List, [], ◌∷◌, ◌++◌, length, refl, sym, ◌∙◌, arith, true≢false, Some, None}
use Rattle.std.specs.Prelude.{if◌then◌else◌, not, nat_le, nat_lt, ◌||◌, ◌&&◌}
use Rattle.std.proofs.lemmas.Bool.{and_from, and_parts, cases_lt, leb-true, lt-leb, lt-ltb, ltb-true}
use Rattle.mu_model.specs.declared.config.Config.{Config}
use Rattle.mu_model.specs.declared.event.Answer.{Answer}
use Rattle.mu_model.specs.declared.event.Event.{Event}
use Rattle.mu_model.specs.declared.event.Verb.{Verb}
use Rattle.mu_model.specs.Bounds.{Follows, bound, copied, members, stays}
use Rattle.mu_model.specs.Diligence.{is_milestone}
use Rattle.mu_model.specs.Histories.{greatest, event_by}
use Rattle.mu_model.specs.Knowledge.{commits, grown, is_accepted_by_all, known}
use Rattle.mu_model.specs.Leaderships.{is_member, leadership}
use Rattle.mu_model.specs.Placing.{fuo_read_or_raised}
use Rattle.mu_model.specs.Steps.{commits_more, is_fencing, is_lagging, is_over_after, is_raise_above, is_raise_above_verb, leads, replicates}
use Rattle.mu_model.specs.Stretches.{each_step, is_replication, replications}
use Rattle.mu_pace.specs.Blocking.{is_blocking, is_progress_by}
use Rattle.mu_pace.specs.Counters.{IsInTime, paid}
use Rattle.mu_agree.specs.Moments.{AtEachMoment}
use Rattle.mu_pace.specs.Paces.{AdvancesComeInTime, FuosAreRaisedInTime, MembersAreBroughtUp, OthersAreAskedAfter, ProgressComesInTime, WelcomedJoinInTime}
use Rattle.mu_pace.specs.Watches.{asking_after, bringing_up, earns, falls_behind, is_answer_to_welcome, is_brought_up, is_full_raise, is_raise_to_verb, is_welcoming, joining, leaves, limit_now, progressing_by, raising}
use Rattle.mu_pace.proofs.Counting.{allowed_here, allowed_now, shorter}
use Rattle.mu_pace.proofs.Growing.{earned, greatest_grows, greatest_on, known_grows, member_stays, stays_less, twice_paid}
use Rattle.mu_agree.proofs.Members.{member_on}
use Rattle.mu_pace.proofs.Hosts.{by_failing}
use Rattle.mu_pace.proofs.Stretched.{neither, none_leaves, unpaid}

-- a stretch as long as the bound is too long
past_bound : (m m' n w z x k : ℕ) → k < 6 * m + 7 * n + 8 + 12 * w + x → 6 * m + x ≤ 6 * m' + 8 * z → k ≡ 6 * m' + 7 * n + 8 + 12 * w + 8 * z → ⊥
past_bound m m' n w z x k a b d = omega (arith, a, b, d)

-- a count of what a milestone waits for, in a stretch
progress_by_comes : (stops : List Event → Event → Bool) (c : Config) (r : ℕ) (past : List Event) → AtEachMoment (IsInTime (progressing_by stops c r)) past → (e : Event) (window older : List Event) → is_milestone c r older e ≡ true
    → Follows c r past window (e ∷ older) (bound c r window (e ∷ older)) → replicates (is_progress_by stops c r) window (e ∷ older) ≡ true
progress_by_comes stops c r past h e window older m f =
    by_failing (replicates (is_progress_by stops c r) window (e ∷ older)) (λ none.
    let k = shorter (progressing_by stops c r) (limit_now c r (e ∷ older)) past window (e ∷ older) h f.stretch
    (allowed_here (is_milestone c r) (limit_now c r) older e m)
    (none_leaves c r (is_progress_by stops c r) window (e ∷ older) f.same f.named none) in
    let x = earned c r window (e ∷ older) f.same in
    past_bound (members c r (e ∷ older)) (members c r (window ++ e ∷ older)) c.replicas c.width (copied c r window (e ∷ older)) (paid (earns c r) window (e ∷ older)) (replications window (e ∷ older)) k x f.count_is)

pub progress_comes : ProgressComesInTime
progress_comes c r past h e window older m f = progress_by_comes (is_lagging c r) c r past h e window older m f

pub advances_come : AdvancesComeInTime
advances_come c r past h e window older m f = progress_by_comes (is_blocking c r) c r past h e window older m f

-- a raise to all that is known is one above each known position
full_is_above : (r p i n : ℕ) (v : Verb) → i < n → is_raise_to_verb p n v ≡ true → is_raise_above_verb p i v ≡ true
full_is_above r p i n (Verb.RaiseFuo q u) l h =
    let k = and_parts (q == p) (nat_le n u) h in
    and_from (q == p) (nat_lt i u) k.0 (let a = leb-true n u k.1 in lt-ltb i u (omega arith))
full_is_above r p i n v l h = absurd (true≢false (sym h))

-- a commit makes its position known
both_grow : (t : Bool) (xs : List (ℕ × ℕ)) (ys : List ℕ) (x : ℕ × ℕ) (y : ℕ) → nat_lt (length xs) (length (grown xs (if t then Some x else None))) ≡ true → length ys < length (grown ys (if t then Some y else None))
both_grow true xs ys x y h = omega (arith, length-append ys (y ∷ []))
both_grow false xs ys x y h = absurd (let l = ltb-true (length xs) (length xs) h in omega arith)

pub commit_known : (c : Config) (r : ℕ) (past : List Event) (by : ℕ) (v : Verb) (a : Answer) → commits_more c r past (event_by by v a) ≡ true → length (known c r past) < length (known c r (event_by by v a ∷ past))
commit_known c r past by (Verb.PutSlot p i b v) Answer.Done h =
    both_grow ((by == r) && ((i == length (known c r past)) && is_accepted_by_all c r (event_by by (Verb.PutSlot p i b v) Answer.Done ∷ past) i b v)) (commits c r past) (known c r past) (i, v) v h
commit_known c r past by v a h = absurd (let l = ltb-true (length (commits c r past)) (length (commits c r past)) h in omega arith)

-- if no step raises above i, none raises to all that is known
no_full_raise : (c : Config) (r p i : ℕ) (window older : List Event) → i < length (known c r older) → replicates (λ before f. is_raise_above p i f) window older ≡ false → replicates (is_full_raise c r p) window older ≡ false
no_full_raise c r p i [] older l h = refl
no_full_raise c r p i (e ∷ window) older l h =
    go (is_replication (window ++ older) e) (is_full_raise c r p (window ++ older) e) (is_raise_above p i e)
    (full_is_above r p i (length (known c r (window ++ older))) e.verb (let g = known_grows c r window older in omega arith)) h (no_full_raise c r p i window older l)
  where
    go : (t u v : Bool) → (u ≡ true → v ≡ true) → (if t && v then true else replicates (λ before f. is_raise_above p i f) window older) ≡ false
        → (replicates (λ before f. is_raise_above p i f) window older ≡ false → replicates (is_full_raise c r p) window older ≡ false) → (if t && u then true else replicates (is_full_raise c r p) window older) ≡ false
    go true true true w h ih = absurd (true≢false h)
    go true true false w h ih = absurd (true≢false (sym (w refl)))
    go true false true w h ih = absurd (true≢false h)
    go true false false w h ih = ih h
    go false u v w h ih = ih h

pub raised_in_time : FuosAreRaisedInTime
raised_in_time c r past h p e window older m f l member =
    let i = length (known c r older) in
    by_failing (replicates (λ before g. is_raise_above p i g) window (e ∷ older)) (λ none.
    let k = shorter (raising c r p) (members c r (e ∷ older)) past window (e ∷ older) (h p l) f.stretch
    (allowed_here (λ past e. commits_more c r past e && is_member r p (e ∷ past)) (members c r) older e (and_from (commits_more c r older e) (is_member r p (e ∷ older)) m member))
    (none_leaves c r (is_full_raise c r p) window (e ∷ older) f.same f.named (no_full_raise c r p i window (e ∷ older) (commit_known c r older e.by e.verb e.answer m) none)) in
    let u = unpaid window (e ∷ older) in let n = f.count_is in absurd (omega arith))

pub welcomed_join : WelcomedJoinInTime
welcomed_join c r past h p e window older l fence some going out noted f =
    by_failing (replicates (is_answer_to_welcome c r p) window (e ∷ older)) (λ none.
    let k = shorter (joining c r p) 4 past window (e ∷ older) (h p l) f.stretch
    (allowed_here (is_welcoming c r p) (λ now. 4) older e (rw (fence, some, going, out, noted) refl))
    (none_leaves c r (is_answer_to_welcome c r p) window (e ∷ older) f.same f.named none) in
    let u = unpaid window (e ∷ older) in let n = f.count_is in absurd (omega arith))

-- if p is no member after a stretch, it is none at any moment of it
no_member : (r p : ℕ) (window older : List Event) → stays r window ≡ true → is_member r p (window ++ older) ≡ false → each_step (λ past e. not (is_member r p (e ∷ past))) window older ≡ true
no_member r p [] older s out = refl
no_member r p (e ∷ window) older s out =
    let l = stays_less r e window s in
    rw out (no_member r p window older l.1 (earlier (is_member r p (window ++ older)) refl (member_on r p e (window ++ older) l.0)))
  where
    earlier : (t : Bool) → is_member r p (window ++ older) ≡ t → (is_member r p (window ++ older) ≡ true → is_member r p (e ∷ (window ++ older)) ≡ true) → is_member r p (window ++ older) ≡ false
    earlier true m on = absurd (true≢false (sym (on m) ∙ out))
    earlier false m on = m

-- if r leads throughout and doesn't read the fence
no_away : (r p : ℕ) (window older : List Event) → each_step (λ before f. not (is_replication before f) || leads r before) window older ≡ true → replicates (λ before f. is_fencing p f) window older ≡ false
    → replicates (λ before f. not (leads r before) || is_fencing p f) window older ≡ false
no_away r p [] older s n = refl
no_away r p (e ∷ window) older s n = go (is_replication (window ++ older) e) (leads r (window ++ older)) (is_fencing p e) s n (no_away r p window older)
  where
    go : (t u v : Bool) → (if not t || u then each_step (λ before f. not (is_replication before f) || leads r before) window older else false) ≡ true → (if t && v then true else replicates (λ before f. is_fencing p f) window older) ≡ false
        → (each_step (λ before f. not (is_replication before f) || leads r before) window older ≡ true → replicates (λ before f. is_fencing p f) window older ≡ false → replicates (λ before f. not (leads r before) || is_fencing p f) window older ≡ false)
        → (if t && (not u || v) then true else replicates (λ before f. not (leads r before) || is_fencing p f) window older) ≡ false
    go true true true s n ih = absurd (true≢false n)
    go true true false s n ih = ih s n
    go true false v s n ih = absurd (true≢false (sym s))
    go false u v s n ih = ih s n

pub others_asked : OthersAreAskedAfter
others_asked c r past h p window older f leading l out =
    by_failing (replicates (λ before g. is_fencing p g) window older) (λ none.
    let k = shorter (asking_after c r p) (2 * limit_now c r older) past window older (h p l) f.stretch
    (allowed_now (λ now. not (is_member r p now)) (λ now. 2 * limit_now c r now) older (rw (no_member_before r p window older f.same out) refl))
    (neither (λ past e. is_member r p (e ∷ past)) (leaves c r (λ before g. not (leads r before) || is_fencing p g)) window older (no_member r p window older f.same out)
    (none_leaves c r (λ before g. not (leads r before) || is_fencing p g) window older f.same f.named (no_away r p window older leading none))) in
    let x = earned c r window older f.same in
    let y = twice_paid (earns c r) window older in
    past_twice (members c r older) (members c r (window ++ older)) c.replicas c.width (copied c r window older) (paid (earns c r) window older) (paid (λ past e. 2 * earns c r past e) window older) (replications window older) k x y f.count_is)
  where
    past_twice : (m m' n w z x y k : ℕ) → k < 2 * (6 * m + 7 * n + 8 + 12 * w) + y → 6 * m + x ≤ 6 * m' + 8 * z → y ≡ 2 * x → k ≡ 2 * (6 * m' + 7 * n + 8 + 12 * w + 8 * z) → ⊥
    past_twice m m' n w z x y k a b d e = omega (arith, a, b, d, e)

    no_member_before : (r p : ℕ) (window older : List Event) → stays r window ≡ true → is_member r p (window ++ older) ≡ false → is_member r p older ≡ false
    no_member_before r p window older s out = go (is_member r p older) refl
      where
        go : (t : Bool) → is_member r p older ≡ t → t ≡ false
        go true m = absurd (true≢false (sym (member_stays r p window older s m) ∙ out))
        go false m = refl

-- what isn't brought up after a stretch isn't at any moment of it
not_brought_up : (c : Config) (r p n : ℕ) (window older : List Event) → stays r window ≡ true → n ≤ length (known c r older) → greatest (λ e. fuo_read_or_raised r p e.by e.verb e.answer) (leadership r (window ++ older)) < n
    → each_step (λ past e. not (is_brought_up c r p (e ∷ past))) window older ≡ true
not_brought_up c r p n [] older s l g = refl
not_brought_up c r p n (e ∷ window) older s l g =
    let k = stays_less r e window s in
    let grows = known_grows c r (e ∷ window) older in
    let on = greatest_on (λ e. fuo_read_or_raised r p e.by e.verb e.answer) r e (window ++ older) k.0 in
    let here : is_brought_up c r p (e ∷ (window ++ older)) ≡ false = lt-leb (length (known c r (e ∷ (window ++ older)))) (greatest (λ e. fuo_read_or_raised r p e.by e.verb e.answer) (leadership r (e ∷ (window ++ older)))) (omega arith) in
    rw here (not_brought_up c r p n window older k.1 l (omega arith))

pub members_brought_up : MembersAreBroughtUp
members_brought_up c r past h e window older starts some f = go (replicates (is_over_after r) window (e ∷ older)) refl
  where
    brought : (p : ℕ) → p < c.replicas → is_member r p (e ∷ older) ≡ true → replicates (is_over_after r) window (e ∷ older) ≡ false
        → (greatest (λ f. fuo_read_or_raised r p f.by f.verb f.answer) (leadership r (window ++ e ∷ older)) < length (known c r (e ∷ older)))
        ⊎ (length (known c r (e ∷ older)) ≤ greatest (λ f. fuo_read_or_raised r p f.by f.verb f.answer) (leadership r (window ++ e ∷ older)))
        → length (known c r (e ∷ older)) ≤ greatest (λ f. fuo_read_or_raised r p f.by f.verb f.answer) (leadership r (window ++ e ∷ older))
    brought p l m none (inr done) = done
    brought p l m none (inl g) =
        let n = length (known c r (e ∷ older)) in
        let low = greatest_grows (λ f. fuo_read_or_raised r p f.by f.verb f.answer) r window (e ∷ older) f.same in
        let behind : is_brought_up c r p (e ∷ older) ≡ false = lt-leb n (greatest (λ e. fuo_read_or_raised r p e.by e.verb e.answer) (leadership r (e ∷ older))) (omega arith) in
        let k = shorter (bringing_up c r p) (limit_now c r (e ∷ older)) past window (e ∷ older) (h p l) f.stretch
        (allowed_here (falls_behind c r p) (limit_now c r) older e (rw (starts, some, m, behind) refl))
        (neither (λ past e. is_brought_up c r p (e ∷ past)) (leaves c r (is_over_after r)) window (e ∷ older) (not_brought_up c r p n window (e ∷ older) f.same (omega arith) g)
        (none_leaves c r (is_over_after r) window (e ∷ older) f.same f.named none)) in
        let x = earned c r window (e ∷ older) f.same in
        absurd (past_bound (members c r (e ∷ older)) (members c r (window ++ e ∷ older)) c.replicas c.width (copied c r window (e ∷ older)) (paid (earns c r) window (e ∷ older)) (replications window (e ∷ older)) k x f.count_is)

    go : (t : Bool) → replicates (is_over_after r) window (e ∷ older) ≡ t
        → (replicates (is_over_after r) window (e ∷ older) ≡ true) ⊎ ((p : ℕ) → p < c.replicas → is_member r p (e ∷ older) ≡ true → length (known c r (e ∷ older)) ≤ greatest (λ f. fuo_read_or_raised r p f.by f.verb f.answer) (leadership r (window ++ e ∷ older)))
    go true k = inl k
    go false k = inr (λ p l m. brought p l m k (cases_lt (greatest (λ f. fuo_read_or_raised r p f.by f.verb f.answer) (leadership r (window ++ e ∷ older))) (length (known c r (e ∷ older)))))
