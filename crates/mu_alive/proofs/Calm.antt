-- A leader that nothing interrupts commits in time.
use Rattle.std.proofs.Common.{◌≡◌, ℕ, zero, suc, ◌+◌, ◌*◌, ◌<◌, ◌≤◌, inl, inr, Bool, true, false, cond, ◌&&◌, ◌||◌, not, ◌==◌, List, [], ◌∷◌, ◌++◌, length, refl, sym, ◌∙◌, ap, arith, Some, None, subst, true≢false}
use Rattle.std.specs.declared.option.Option.{Option}
use Rattle.std.specs.Prelude.{if◌then◌else◌, is_some}
use Rattle.std.specs.List.{slice_get}
use Rattle.std.proofs.Math.Nat.{mul-le-mul_right, mul-le-mul_left}
use Rattle.std.proofs.lemmas.Bool.{and_parts, and_from, cases_eq, cases_lt, ltb-true}
use Rattle.std.proofs.lemmas.Option.{slice_get_within}
use Rattle.mu_model.specs.declared.config.Config.{Config}
use Rattle.mu_model.specs.declared.event.Answer.{Answer}
use Rattle.mu_model.specs.declared.event.Event.{Event}
use Rattle.mu_model.specs.declared.event.Verb.{Verb}
use Rattle.mu_model.specs.Bounds.{copied, first_fuo, is_at_most, is_copy_of, is_copying, is_copying_verb, is_learning, members, stays, was_copied}
use Rattle.mu_model.specs.Diligence.{is_milestone, is_progress}
use Rattle.mu_model.specs.Ends.{outrun}
use Rattle.mu_model.specs.Histories.{count_below, has, event_by}
use Rattle.mu_model.specs.Knowledge.{commits, is_value, known}
use Rattle.mu_model.specs.Leaderships.{begins_leadership, is_member, leadership}
use Rattle.mu_model.specs.Steps.{commits_more, is_lagging, is_min, is_named, is_over_after, knows_all, knows_more}
use Rattle.mu_model.specs.Stretches.{is_replication, replications, steps}
use Rattle.mu_model.proofs.Basics.{same_number}
use Rattle.mu_agree.proofs.Counting.{count_more}
use Rattle.mu_agree.proofs.Tame.{known_longer}
use Rattle.mu_pace.specs.Counters.{IsInTime, fewer, left_after, paid, steps_left}
use Rattle.mu_agree.specs.Moments.{AtEachMoment}
use Rattle.mu_pace.specs.Watches.{earns, leaves, limit, limit_now, progressing}
use Rattle.mu_pace.proofs.Counting.{goes_on, last_moment, opened}
use Rattle.mu_pace.proofs.Growing.{earned, stays_less}
use Rattle.mu_pace.proofs.Leading.{commit_known}
use Rattle.mu_alive.specs.Calm.{CalmLeadersCommit, IsCalm, calm_steps}

-- no more numbers below n pass than there are
pub count_few : (n : ℕ) (f : ℕ → Bool) → count_below n f ≤ n
count_few zero f = omega arith
count_few (suc n) f = go (f n) (count_few n f)
  where
    go : (t : Bool) → count_below n f ≤ n → cond t (count_below n f + 1) (count_below n f) ≤ suc n
    go true l = omega (arith, l)
    go false l = omega (arith, l)

-- a test that passes the same numbers and p counts at least one more
pub count_adds : (n p : ℕ) (f g : ℕ → Bool) → p < n → f p ≡ false → g p ≡ true → ((k : ℕ) → k < n → f k ≡ true → g k ≡ true) → count_below n f + 1 ≤ count_below n g
count_adds zero p f g low none some more = absurd (omega (arith, low))
count_adds (suc n) p f g low none some more = elim (cases_eq n p) [
  | inl same ↦ here (f n) (g n) (subst (λ k. f k ≡ false) (sym same) none) (subst (λ k. g k ≡ true) (sym same) some) (count_more n f g (λ k l. more k (omega (arith, l))))
  | inr other ↦ there (f n) (g n) (more n (omega arith)) (count_adds n p f g (elim (cases_lt p n) [ inl l ↦ l | inr m ↦ absurd (other (omega (arith, m, low))) ]) none some (λ k l. more k (omega (arith, l))))
]
  where
    here : (t u : Bool) → t ≡ false → u ≡ true → count_below n f ≤ count_below n g → cond t (count_below n f + 1) (count_below n f) + 1 ≤ cond u (count_below n g + 1) (count_below n g)
    here t u ht hu l = rw (ht, hu) (omega (arith, l))

    there : (t u : Bool) → (t ≡ true → u ≡ true) → count_below n f + 1 ≤ count_below n g → cond t (count_below n f + 1) (count_below n f) + 1 ≤ cond u (count_below n g + 1) (count_below n g)
    there true true w l = omega (arith, l)
    there true false w l = absurd (true≢false (sym (w refl)))
    there false true w l = omega (arith, l)
    there false false w l = l

-- how many places of the first regions were copied to in the leadership
abbrev copies : Config → ℕ → ℕ → ℕ → List Event → ℕ
copies c r most zero now = 0
copies c r most (suc n) now = copies c r most n now + count_below most (λ j. was_copied c r n j now)

pub copies_few : (c : Config) (r most n : ℕ) (now : List Event) → copies c r most n now ≤ n * most
copies_few c r most zero now = omega arith
copies_few c r most (suc n) now = let a = copies_few c r most n now in let b = count_few most (λ j. was_copied c r n j now) in omega (arith, a, b)

copied_on : (c : Config) (r p j : ℕ) (e : Event) (past : List Event) → begins_leadership r e ≡ false → was_copied c r p j past ≡ true → was_copied c r p j (e ∷ past) ≡ true
copied_on c r p j e past b was = go (begins_leadership r e) (is_copy_of c r p j past e) b
  where
    go : (t u : Bool) → t ≡ false → cond t false (cond u true (was_copied c r p j past)) ≡ true
    go true u b = absurd (true≢false b)
    go false true b = refl
    go false false b = was

copies_on : (c : Config) (r most n : ℕ) (e : Event) (past : List Event) → begins_leadership r e ≡ false → copies c r most n past ≤ copies c r most n (e ∷ past)
copies_on c r most zero e past b = omega arith
copies_on c r most (suc n) e past b =
    let a = copies_on c r most n e past b in
    let k = count_more most (λ j. was_copied c r n j past) (λ j. was_copied c r n j (e ∷ past)) (λ j l m. copied_on c r n j e past b m) in
    omega (arith, a, k)

copies_more : (c : Config) (r most n p j : ℕ) (e : Event) (past : List Event) → begins_leadership r e ≡ false → p < n → j < most → was_copied c r p j past ≡ false → was_copied c r p j (e ∷ past) ≡ true → copies c r most n past + 1 ≤ copies c r most n (e ∷ past)
copies_more c r most zero p j e past b low within none some = absurd (omega (arith, low))
copies_more c r most (suc n) p j e past b low within none some = elim (cases_eq p n) [
  | inl same ↦
      let a = copies_on c r most n e past b in
      let k = count_adds most j (λ i. was_copied c r n i past) (λ i. was_copied c r n i (e ∷ past)) within (subst (λ q. was_copied c r q j past ≡ false) same none) (subst (λ q. was_copied c r q j (e ∷ past) ≡ true) same some) (λ i l m. copied_on c r n i e past b m) in
      omega (arith, a, k)
  | inr other ↦
      let a = copies_more c r most n p j e past b (elim (cases_lt p n) [ inl l ↦ l | inr m ↦ absurd (other (omega (arith, m, low))) ]) within none some in
      let k = count_more most (λ i. was_copied c r n i past) (λ i. was_copied c r n i (e ∷ past)) (λ i l m. copied_on c r n i e past b m) in
      omega (arith, a, k)
]

copying : (c : Config) (r most by : ℕ) (verb : Verb) (answer : Answer) (past : List Event) → begins_leadership r (event_by by verb answer) ≡ false → ((p i b v : ℕ) → verb ≡ Verb.PutSlot p i b v → p < c.replicas) → length (known c r past) ≤ most
    → is_copying_verb c r past verb ≡ true → copies c r most c.replicas past + 1 ≤ copies c r most c.replicas (event_by by verb answer ∷ past)
copying c r most by (Verb.PutSlot p j b v) answer past same inside few is =
    let parts = and_parts (is_value (slice_get (known c r past) j) v) (not (was_copied c r p j past) && is_at_most j (first_fuo r p past)) is in
    let fresh = (and_parts (not (was_copied c r p j past)) (is_at_most j (first_fuo r p past)) parts.1).0 in
    copies_more c r most c.replicas p j (event_by by (Verb.PutSlot p j b v) answer) past same (inside p j b v refl) (within (slice_get (known c r past) j) refl parts.0) (not_true (was_copied c r p j past) fresh)
    (now_copied (was_copied c r p j past) (and_from (p == p) ((j == j) && is_value (slice_get (known c r past) j) v) (same_number p) (and_from (j == j) (is_value (slice_get (known c r past) j) v) (same_number j) parts.0)))
  where
    not_true : (t : Bool) → not t ≡ true → t ≡ false
    not_true true h = absurd (true≢false (sym h))
    not_true false h = refl

    within : (o : Option ℕ) → slice_get (known c r past) j ≡ o → is_value o v ≡ true → j < most
    within None at is = absurd (true≢false (sym is))
    within (Some w) at is = let l = slice_get_within (known c r past) j w at in omega (arith, l, few)

    now_copied : (t : Bool) → ((p == p) && ((j == j) && is_value (slice_get (known c r past) j) v)) ≡ true → cond ((p == p) && ((j == j) && is_value (slice_get (known c r past) j) v)) true t ≡ true
    now_copied t h = rw h refl
copying c r most by verb answer past same inside few is = absurd (true≢false (sym is))

-- what is known grows by each commit and by each look that teaches
learns : (c : Config) (r by : ℕ) (verb : Verb) (answer : Answer) (past : List Event)
    → cond (commits_more c r past (event_by by verb answer)) 1 0 + cond (is_learning c r past (event_by by verb answer)) 1 0 + length (known c r past) ≤ length (known c r (event_by by verb answer ∷ past))
learns c r by (Verb.Look p i) answer past = go (commits_more c r past (event_by by (Verb.Look p i) answer)) refl (knows_more c r past (event_by by (Verb.Look p i) answer)) refl
  where
    go : (t : Bool) → commits_more c r past (event_by by (Verb.Look p i) answer) ≡ t → (u : Bool) → knows_more c r past (event_by by (Verb.Look p i) answer) ≡ u → cond t 1 0 + cond u 1 0 + length (known c r past) ≤ length (known c r (event_by by (Verb.Look p i) answer ∷ past))
    go true ht u hu = absurd (let l = ltb-true (length (commits c r past)) (length (commits c r past)) ht in omega (arith, l))
    go false ht true hu = let l = ltb-true (length (known c r past)) (length (known c r (event_by by (Verb.Look p i) answer ∷ past))) hu in omega (arith, l)
    go false ht false hu = let l = known_longer c r (event_by by (Verb.Look p i) answer) past in omega (arith, l)
learns c r by verb answer past = go (commits_more c r past (event_by by verb answer)) refl
  where
    go : (t : Bool) → commits_more c r past (event_by by verb answer) ≡ t → cond t 1 0 + 0 + length (known c r past) ≤ length (known c r (event_by by verb answer ∷ past))
    go true ht = let l = commit_known c r past by verb answer ht in omega (arith, l)
    go false ht = let l = known_longer c r (event_by by verb answer) past in omega (arith, l)

step_more : (t : Bool) (s : ℕ) → (if t then s + 1 else s) ≡ s + cond t 1 0
step_more true s = refl
step_more false s = omega arith

-- along a calm stretch
pub learnt : (c : Config) (r : ℕ) (window older : List Event) → steps (commits_more c r) window older + steps (is_learning c r) window older + length (known c r older) ≤ length (known c r (window ++ older))
learnt c r [] older = omega arith
learnt c r (e ∷ window) older =
    let ih = learnt c r window older in
    let a = step_more (commits_more c r (window ++ older) e) (steps (commits_more c r) window older) in
    let b = step_more (is_learning c r (window ++ older) e) (steps (is_learning c r) window older) in
    let l = learns c r e.by e.verb e.answer (window ++ older) in
    omega (arith, ih, a, b, l)

-- a calm step, or one that is a calm step but that another is named before it in the background
pub record IsCalmTurn (c : Config) (r : ℕ) (past : List Event) (e : Event) : Type 0 where
  pub same : begins_leadership r e ≡ false
  pub named : is_replication past e ≡ true → is_named c r past ≡ true
  pub leads_on : is_over_after r past e ≡ false
  pub has_room : is_lagging c r past e ≡ false
  pub lacks : knows_all c r past ≡ false
  pub going : is_some (outrun c r (e ∷ past)) ≡ false
  pub inside : (p i b v : ℕ) → e.verb ≡ Verb.PutSlot p i b v → p < c.replicas

abbrev pub AreCalmTurns : Config → ℕ → List Event → List Event → Type 0
AreCalmTurns c r [] older = Unit {0}
AreCalmTurns c r (e ∷ window) older = AreCalmTurns c r window older × IsCalmTurn c r (window ++ older) e

pub calm_stays : (c : Config) (r : ℕ) (window older : List Event) → AreCalmTurns c r window older → stays r window ≡ true
calm_stays c r [] older calm = refl
calm_stays c r (e ∷ window) older calm = go (begins_leadership r e) calm.1.same (calm_stays c r window older calm.0)
  where
    go : (t : Bool) → t ≡ false → not (has (begins_leadership r) window) ≡ true → not (if t then true else has (begins_leadership r) window) ≡ true
    go true h ih = absurd (true≢false h)
    go false h ih = ih

-- each put of the stretch is into the log of a region that there is
abbrev pub PutsInside : Config → List Event → Type 0
PutsInside c [] = Unit {0}
PutsInside c (e ∷ window) = PutsInside c window × ((p i b v : ℕ) → e.verb ≡ Verb.PutSlot p i b v → p < c.replicas)

pub calm_puts : (c : Config) (r : ℕ) (window older : List Event) → AreCalmTurns c r window older → PutsInside c window
calm_puts c r [] older calm = tt
calm_puts c r (e ∷ window) older calm = (calm_puts c r window older calm.0, calm.1.inside)

pub copied_pairs : (c : Config) (r most : ℕ) (window older : List Event) → stays r window ≡ true → PutsInside c window → length (known c r (window ++ older)) ≤ most → steps (is_copying c r) window older + copies c r most c.replicas older ≤ copies c r most c.replicas (window ++ older)
copied_pairs c r most [] older same inside few = omega arith
copied_pairs c r most (e ∷ window) older same inside few =
    let longer = known_longer c r e (window ++ older) in
    let less = stays_less r e window same in
    let ih = copied_pairs c r most window older less.1 inside.0 (omega (arith, few, longer)) in
    go (is_copying c r (window ++ older) e) refl ih (copying c r most e.by e.verb e.answer (window ++ older) less.0 inside.1 (omega (arith, few, longer))) (copies_on c r most c.replicas e (window ++ older) less.0)
  where
    go : (t : Bool) → is_copying c r (window ++ older) e ≡ t → steps (is_copying c r) window older + copies c r most c.replicas older ≤ copies c r most c.replicas (window ++ older)
        → (is_copying c r (window ++ older) e ≡ true → copies c r most c.replicas (window ++ older) + 1 ≤ copies c r most c.replicas (e ∷ (window ++ older)))
        → copies c r most c.replicas (window ++ older) ≤ copies c r most c.replicas (e ∷ (window ++ older))
        → (if t then steps (is_copying c r) window older + 1 else steps (is_copying c r) window older) + copies c r most c.replicas older ≤ copies c r most c.replicas (e ∷ (window ++ older))
    go true is ih more on = let m = more is in omega (arith, ih, m)
    go false is ih more on = omega (arith, ih, on)

-- so a stretch of one leadership is paid at most for all members, entries and copies
pub paid_few : (c : Config) (r most : ℕ) (window older : List Event) → stays r window ≡ true → PutsInside c window → length (known c r (window ++ older)) ≤ most → paid (earns c r) window older ≤ 6 * c.replicas + 8 * (most + c.replicas * most)
paid_few c r most window older same inside fits =
    let e = earned c r window older same in
    let l = learnt c r window older in
    let y = copied_pairs c r most window older same inside fits in
    let few = copies_few c r most c.replicas (window ++ older) in
    let members_few = count_few c.replicas (λ p. is_member r p (window ++ older)) in
    sums (members c r older) (members c r (window ++ older)) (paid (earns c r) window older) (copied c r window older) (steps (is_learning c r) window older) (steps (is_copying c r) window older) (copies c r most c.replicas (window ++ older)) (c.replicas * most) c.replicas most e refl (omega (arith, l, fits)) (omega (arith, y)) few members_few
  where
    sums : (m k x z l y all nm n most : ℕ) → 6 * m + x ≤ 6 * k + 8 * z → z ≡ l + y → l ≤ most → y ≤ all → all ≤ nm → k ≤ n → x ≤ 6 * n + 8 * (most + nm)
    sums m k x z l y all nm n most a b d e f g = omega (arith, a, b, d, e, f, g)

-- a calm step closes the progress bound exactly if it commits in a turn of replication
closing : (b n o l k x t m : Bool) → b ≡ false → (t ≡ true → n ≡ true) → o ≡ false → l ≡ false → k ≡ false → x ≡ false → (b || (t && (not n || (m || (o || (l || (k || x))))))) ≡ (t && m)
closing b n o l k x true m hb hn ho hl hk hx = rw (hb, hn refl, ho, hl, hk, hx) (go m)
  where
    go : (m : Bool) → (m || false) ≡ m
    go true = refl
    go false = refl
closing b n o l k x false m hb hn ho hl hk hx = rw hb refl

pub closes_at : (c : Config) (r : ℕ) (past : List Event) (e : Event) → IsCalmTurn c r past e → leaves c r (is_progress c r) past e ≡ (is_replication past e && commits_more c r past e)
closes_at c r past e calm = closing (begins_leadership r e) (is_named c r past) (is_over_after r past e) (is_lagging c r past e) (knows_all c r past) (is_some (outrun c r (e ∷ past))) (is_replication past e) (commits_more c r past e) calm.same calm.named calm.leads_on calm.has_room calm.lacks calm.going

pub limit_fits : (c : Config) (r : ℕ) (now : List Event) → limit_now c r now ≤ limit c c.replicas
limit_fits c r now = let l = count_few c.replicas (λ p. is_member r p now) in omega (arith, l)

-- what is left of the progress bound, and what is spent
record Tally (c : Config) (r : ℕ) (window older : List Event) : Type 0 where
  left : ℕ
  is : steps_left (progressing c r) (window ++ older) ≡ Some left
  within : replications window older + left ≤ limit c c.replicas * (steps (commits_more c r) window older + 1) + paid (earns c r) window older

pub reopens : (c : Config) (r : ℕ) (past : List Event) (e : Event) (left : ℕ) → commits_more c r past e ≡ true → (progressing c r).closes past e ≡ true → steps_left (progressing c r) past ≡ Some left → steps_left (progressing c r) (e ∷ past) ≡ Some (limit_now c r (e ∷ past))
reopens c r past e left commits closes is = shut (is_milestone c r past e) (milestone (is_min e && not (has is_min (leadership r past))) (is_replication past e && is_lagging c r past e)) (leaves c r (is_progress c r) past e) closes (steps_left (progressing c r) past) is
  where
    milestone : (t u : Bool) → (t || (commits_more c r past e || u)) ≡ true
    milestone true u = refl
    milestone false u = rw commits refl

    shut : (t : Bool) → t ≡ true → (u : Bool) → u ≡ true → (o : Option ℕ) → o ≡ Some left → fewer (if t then Some (limit_now c r (e ∷ past)) else None) (left_after u (is_replication past e) (earns c r past e) o) ≡ Some (limit_now c r (e ∷ past))
    shut t ht u hu o ho = rw (ht, hu, ho) refl

more_spent : (k left b m p q d : ℕ) → k + left ≤ b * (m + 1) + p → 1 ≤ left → d ≤ b → k + 1 + d ≤ b * (m + 1 + 1) + (p + q)
more_spent k left b m p q d within some few = let next : b * (m + 1 + 1) ≡ b * (m + 1) + b = omega arith in omega (arith, within, some, few, next)

less : (t u : Bool) (k left left' b m p q : ℕ) → k + left ≤ b * (m + 1) + p → left' + cond t 1 0 ≤ left + q → (if t then k + 1 else k) + left' ≤ b * ((if u then m + 1 else m) + 1) + (p + q)
less true true k left left' b m p q within on = let next : b * (m + 1 + 1) ≡ b * (m + 1) + b = omega arith in omega (arith, within, on, next)
less true false k left left' b m p q within on = omega (arith, within, on)
less false true k left left' b m p q within on = let next : b * (m + 1 + 1) ≡ b * (m + 1) + b = omega arith in omega (arith, within, on, next)
less false false k left left' b m p q within on = omega (arith, within, on)

tally : (c : Config) (r : ℕ) (first : Event) (window older : List Event) → AtEachMoment (IsInTime (progressing c r)) (window ++ first ∷ older) → is_milestone c r older first ≡ true → AreCalmTurns c r window (first ∷ older) → Tally c r window (first ∷ older)
tally c r first [] older held milestone calm =
    let o = opened (progressing c r) (limit_now c r (first ∷ older)) (first ∷ older) (rw milestone refl) in
    let few = o.few in let fits = limit_fits c r (first ∷ older) in
    record { left = o.left; is = o.is; within = (let one : limit c c.replicas * (0 + 1) ≡ limit c c.replicas = omega arith in omega (arith, few, fits, one)) }
tally c r first (e ∷ window) older held milestone calm =
    let was = tally c r first window older held.0 milestone calm.0 in
    go (is_replication (window ++ first ∷ older) e) refl (commits_more c r (window ++ first ∷ older) e) refl was
  where
    past : List Event
    past = window ++ first ∷ older

    both : (t : Bool) → is_replication past e ≡ t → (u : Bool) → commits_more c r past e ≡ u → (is_replication past e && commits_more c r past e) ≡ (t && u)
    both t ht u hu = ap (λ x. x && commits_more c r past e) ht ∙ ap (λ x. t && x) hu

    rests : (t : Bool) → is_replication past e ≡ t → (u : Bool) → commits_more c r past e ≡ u → (t && u) ≡ false → Tally c r window (first ∷ older) → Tally c r (e ∷ window) (first ∷ older)
    rests t ht u hu idle was =
        let shut : (progressing c r).closes past e ≡ false = closes_at c r past e calm.1 ∙ both t ht u hu ∙ idle in
        let on = goes_on (progressing c r) past e was.left shut (last_moment (IsInTime (progressing c r)) past held.0) (record { left = was.left; is = was.is; few = omega arith }) in
        let more = on.2 in
        record {
          left = on.0;
          is = on.1;
          within = less (is_replication past e) (commits_more c r past e) (replications window (first ∷ older)) was.left on.0 (limit c c.replicas) (steps (commits_more c r) window (first ∷ older)) (paid (earns c r) window (first ∷ older)) (earns c r past e) was.within more;
        }

    go : (t : Bool) → is_replication past e ≡ t → (u : Bool) → commits_more c r past e ≡ u → Tally c r window (first ∷ older) → Tally c r (e ∷ window) (first ∷ older)
    go true ht true hu was =
        let some = last_moment (IsInTime (progressing c r)) past held.0 was.left was.is in
        let fits = limit_fits c r (e ∷ past) in
        record {
          left = limit_now c r (e ∷ past);
          is = reopens c r past e was.left hu (closes_at c r past e calm.1 ∙ and_from (is_replication past e) (commits_more c r past e) ht hu) was.is;
          within = rw (ht, hu) (more_spent (replications window (first ∷ older)) was.left (limit c c.replicas) (steps (commits_more c r) window (first ∷ older)) (paid (earns c r) window (first ∷ older)) (earns c r past e) (limit_now c r (e ∷ past)) was.within some fits);
        }
    go true ht false hu was = rests true ht false hu refl was
    go false ht u hu was = rests false ht u hu refl was

-- all that may be spent
all_spent : (k left b m l y p x n most known_then known_now copies_now members_then members_now copied_all : ℕ) → 8 ≤ b → k + left ≤ b * (m + 1) + p → 1 ≤ left
    → 6 * members_then + p ≤ 6 * members_now + 8 * copied_all → copied_all ≡ l + y → members_now ≤ n → m + l + known_then ≤ known_now → known_now ≤ most → y ≤ copies_now → copies_now ≤ x
    → k < b * (most + 1) + 6 * n + 8 * x
all_spent k left b m l y p x n most known_then known_now copies_now members_then members_now copied_all wide within some earns copied few gains fits pairs all =
    let a : 8 * l ≤ b * l = mul-le-mul_right l wide in
    let d : b * (m + 1 + l) ≤ b * (most + 1) = mul-le-mul_left b (omega (arith, gains, fits)) in
    let e : b * (m + 1 + l) ≡ b * (m + 1) + b * l = omega arith in
    omega (arith, within, some, earns, copied, few, pairs, all, a, d, e)

pub quiet_commits : (c : Config) (r most : ℕ) (first : Event) (window older : List Event) → AtEachMoment (IsInTime (progressing c r)) (window ++ first ∷ older) → is_milestone c r older first ≡ true → AreCalmTurns c r window (first ∷ older) → length (known c r (window ++ first ∷ older)) ≤ most → replications window (first ∷ older) < calm_steps c most
quiet_commits c r most first window older held milestone calm fits =
    let t = tally c r first window older held milestone calm in
    let some = last_moment (IsInTime (progressing c r)) (window ++ first ∷ older) held t.left t.is in
    let e = earned c r window (first ∷ older) (calm_stays c r window (first ∷ older) calm) in
    let l = learnt c r window (first ∷ older) in
    let y = copied_pairs c r most window (first ∷ older) (calm_stays c r window (first ∷ older) calm) (calm_puts c r window (first ∷ older) calm) fits in
    let few = copies_few c r most c.replicas (window ++ first ∷ older) in
    all_spent (replications window (first ∷ older)) t.left (limit c c.replicas) (steps (commits_more c r) window (first ∷ older)) (steps (is_learning c r) window (first ∷ older)) (steps (is_copying c r) window (first ∷ older))
    (paid (earns c r) window (first ∷ older)) (c.replicas * most) c.replicas most (length (known c r (first ∷ older))) (length (known c r (window ++ first ∷ older))) (copies c r most c.replicas (window ++ first ∷ older))
    (members c r (first ∷ older)) (members c r (window ++ first ∷ older)) (copied c r window (first ∷ older))
    (omega arith) t.within some e refl (count_few c.replicas (λ p. is_member r p (window ++ first ∷ older))) l fits (omega (arith, y)) few

pub calm_turns : (c : Config) (r : ℕ) (window older : List Event) → IsCalm c r window older → AreCalmTurns c r window older
calm_turns c r [] older calm = tt
calm_turns c r (e ∷ window) older calm = (calm_turns c r window older calm.0, (let k = calm.1 in record { same = k.same; named = λ _. k.named; leads_on = k.leads_on; has_room = k.has_room; lacks = k.lacks; going = k.going; inside = k.inside }))

pub calm_commits : CalmLeadersCommit
calm_commits c r most first window older held milestone calm fits = quiet_commits c r most first window older held milestone (calm_turns c r window (first ∷ older) calm) fits
