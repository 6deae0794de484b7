-- A leader that nothing hinders commits in time.
use Rattle.std.proofs.Common.{◌≡◌, ◌∙◌, ◌⊎◌, ℕ, ◌+◌, ◌≤◌, ◌==◌, inl, inr, Bool, true, false, cond, ◌&&◌, ◌||◌, not, List, [], ◌∷◌, ◌++◌, ap, append_assoc, arith, refl, subst, sym, true≢false}
use Rattle.std.specs.Prelude.{if◌then◌else◌, is_some}
use Rattle.std.proofs.lemmas.Bool.{cases_lt}
use Rattle.mu_model.specs.declared.config.Config.{Config}
use Rattle.mu_model.specs.declared.event.Event.{Event}
use Rattle.mu_model.specs.declared.event.Verb.{Verb}
use Rattle.mu_model.specs.Bounds.{Follows, bound, is_copying, is_learning, members, stays}
use Rattle.mu_model.specs.Diligence.{CommitsInTime, IsDiligent, is_confirmed, is_milestone, is_progress}
use Rattle.mu_model.specs.Ends.{outrun}
use Rattle.mu_model.specs.Histories.{has}
use Rattle.mu_model.specs.Leaderships.{begins_leadership, has_begun, is_first_ask, leadership, leaderships}
use Rattle.mu_model.specs.Steps.{commits_more, has_min, is_any_fencing, is_any_fencing_verb, is_lagging, is_min, is_min_verb, is_named, is_over_after, knows_all, named_throughout, replicates}
use Rattle.mu_model.specs.Stretches.{IsStretch, each_step, is_replication, replications, some_step, steps}
use Rattle.mu_pace.proofs.Growing.{members_on, stays_less}
use Rattle.mu_alive.proofs.Enough.{first_is_milestone}
use Rattle.mu_alive.specs.Unhindered.{CommitsWithin, IsConfirming, UnhinderedCommit, is_hindrance}
use Rattle.mu_pace.proofs.Pasts.{begun_on, begun_still, min_on, min_now}
use Rattle.mu_alive.proofs.Waiting.{stays_newer, stays_older, steps_both}

-- what passes in a part of a stretch passes in the whole
some_newer : (test : List Event → Event → Bool) (newer rest older : List Event) → some_step test newer (rest ++ older) ≡ true → some_step test (newer ++ rest) older ≡ true
some_newer test [] rest older some = absurd (true≢false (sym some))
some_newer test (x ∷ newer) rest older some =
    subst (λ past. (if test past x then true else some_step test (newer ++ rest) older) ≡ true) (sym (append_assoc newer rest older)) (go (test (newer ++ (rest ++ older)) x) some (some_newer test newer rest older))
  where
    go : (t : Bool) → (if t then true else some_step test newer (rest ++ older)) ≡ true → (some_step test newer (rest ++ older) ≡ true → some_step test (newer ++ rest) older ≡ true) → (if t then true else some_step test (newer ++ rest) older) ≡ true
    go true some ih = refl
    go false some ih = ih some

some_older : (test : List Event → Event → Bool) (newer rest older : List Event) → some_step test rest older ≡ true → some_step test (newer ++ rest) older ≡ true
some_older test [] rest older some = some
some_older test (x ∷ newer) rest older some = go (test ((newer ++ rest) ++ older) x) (some_older test newer rest older some)
  where
    go : (t : Bool) → some_step test (newer ++ rest) older ≡ true → (if t then true else some_step test (newer ++ rest) older) ≡ true
    go true ih = refl
    go false ih = ih

-- and each step of the whole is one of each part
each_newer : (test : List Event → Event → Bool) (newer rest older : List Event) → each_step test (newer ++ rest) older ≡ true → each_step test newer (rest ++ older) ≡ true
each_newer test [] rest older each = refl
each_newer test (x ∷ newer) rest older each =
    go (test (newer ++ (rest ++ older)) x) (subst (λ past. (if test past x then each_step test (newer ++ rest) older else false) ≡ true) (append_assoc newer rest older) each) (each_newer test newer rest older)
  where
    go : (t : Bool) → (if t then each_step test (newer ++ rest) older else false) ≡ true → (each_step test (newer ++ rest) older ≡ true → each_step test newer (rest ++ older) ≡ true) → (if t then each_step test newer (rest ++ older) else false) ≡ true
    go true each ih = ih each
    go false each ih = absurd (true≢false (sym each))

each_older : (test : List Event → Event → Bool) (newer rest older : List Event) → each_step test (newer ++ rest) older ≡ true → each_step test rest older ≡ true
each_older test [] rest older each = each
each_older test (x ∷ newer) rest older each = go (test ((newer ++ rest) ++ older) x) each (each_older test newer rest older)
  where
    go : (t : Bool) → (if t then each_step test (newer ++ rest) older else false) ≡ true → (each_step test (newer ++ rest) older ≡ true → each_step test rest older ≡ true) → each_step test rest older ≡ true
    go true each ih = ih each
    go false each ih = absurd (true≢false (sym each))

step_adds : (test : List Event → Event → Bool) (x : Event) (window older : List Event) → (steps test window older ≤ steps test (x ∷ window) older) × (steps test (x ∷ window) older ≤ steps test window older + 1)
step_adds test x window older = go (test (window ++ older) x)
  where
    go : (t : Bool) → (steps test window older ≤ (if t then steps test window older + 1 else steps test window older)) × ((if t then steps test window older + 1 else steps test window older) ≤ steps test window older + 1)
    go true = (omega arith, omega arith)
    go false = (omega arith, omega arith)

-- a stretch cut in two: its older part has this many replication events
record CutAt (k : ℕ) (window older : List Event) : Type 0 where
  newer : List Event
  rest : List Event
  is : window ≡ newer ++ rest
  count : replications rest older ≡ k

cut_at : (k : ℕ) (window older : List Event) → k ≤ replications window older → CutAt k window older
cut_at k [] older few = record { newer = []; rest = []; is = refl; count = omega (arith, few) }
cut_at k (x ∷ window) older few = elim (cases_lt (replications window older) k) [
  | inl more ↦ (let adds = step_adds is_replication x window older in record { newer = []; rest = x ∷ window; is = refl; count = omega (arith, few, more, adds.1) })
  | inr less ↦ (let at = cut_at k window older less in record { newer = x ∷ at.newer; rest = at.rest; is = ap (λ l. x ∷ l) at.is; count = at.count })
]

-- in a leadership the bound only grows
bound_on : (c : Config) (r : ℕ) (x : Event) (window older : List Event) → begins_leadership r x ≡ false → bound c r window older ≤ bound c r (x ∷ window) older
bound_on c r x window older same =
    let more = members_on c r x (window ++ older) same in
    let a = (step_adds (is_learning c r) x window older).0 in
    let b = (step_adds (is_copying c r) x window older).0 in
    omega (arith, more, a, b)

bound_newer : (c : Config) (r : ℕ) (newer rest older : List Event) → bound c r newer (rest ++ older) ≤ bound c r (newer ++ rest) older
bound_newer c r newer rest older =
    let same = ap (members c r) (append_assoc newer rest older) in
    let a = steps_both (is_learning c r) newer rest older in
    let b = steps_both (is_copying c r) newer rest older in
    omega (arith, same, a, b)

-- so a stretch with at least as many replication events as the bound begins with one of exactly as many
record CutAtBound (c : Config) (r : ℕ) (window older : List Event) : Type 0 where
  newer : List Event
  rest : List Event
  is : window ≡ newer ++ rest
  count : replications rest older ≡ bound c r rest older

cut_at_bound : (c : Config) (r : ℕ) (window older : List Event) → stays r window ≡ true → bound c r window older ≤ replications window older → CutAtBound c r window older
cut_at_bound c r [] older stay over = absurd (omega (arith, over))
cut_at_bound c r (x ∷ window) older stay over =
    let less = stays_less r x window stay in
    elim (cases_lt (replications window older) (bound c r window older)) [
      | inl more ↦ (let grows = bound_on c r x window older less.0 in let adds = step_adds is_replication x window older in record { newer = []; rest = x ∷ window; is = refl; count = omega (arith, over, more, grows, adds.1) })
      | inr reached ↦ (let at = cut_at_bound c r window older less.1 reached in record { newer = x ∷ at.newer; rest = at.rest; is = ap (λ l. x ∷ l) at.is; count = at.count })
    ]

stretch_newer : (past newer rest older : List Event) → IsStretch past (newer ++ rest) older → IsStretch past newer (rest ++ older)
stretch_newer past newer rest older at = record { newer = at.newer; is = at.is ∙ ap (λ l. at.newer ++ l) (append_assoc newer rest older) }

stretch_older : (past newer rest older : List Event) → IsStretch past (newer ++ rest) older → IsStretch past rest older
stretch_older past newer rest older at = record { newer = at.newer ++ newer; is = at.is ∙ (ap (λ l. at.newer ++ l) (append_assoc newer rest older) ∙ sym (append_assoc at.newer newer (rest ++ older))) }

-- progress is a commit or a hindrance
commit_or_hindrance : (t c o l k u n : Bool) → (t && (c || (o || (l || (k || u))))) ≡ true → ((t && c) ≡ true) ⊎ ((t && (o || (l || (k || (u || n))))) ≡ true)
commit_or_hindrance false c o l k u n is = absurd (true≢false (sym is))
commit_or_hindrance true true o l k u n is = inl refl
commit_or_hindrance true false true l k u n is = inr refl
commit_or_hindrance true false false true k u n is = inr refl
commit_or_hindrance true false false false true u n is = inr refl
commit_or_hindrance true false false false false true n is = inr refl
commit_or_hindrance true false false false false false n is = absurd (true≢false (sym is))

some_passes : (t : Bool) → t ≡ true → (rest : Bool) → (if t then true else rest) ≡ true
some_passes true is rest = refl
some_passes false is rest = absurd (true≢false (sym is))

some_still : (t rest : Bool) → rest ≡ true → (if t then true else rest) ≡ true
some_still true rest is = refl
some_still false rest is = is

commits_or_hindered : (c : Config) (r : ℕ) (window older : List Event) → replicates (is_progress c r) window older ≡ true → (replicates (commits_more c r) window older ≡ true) ⊎ (replicates (is_hindrance c r) window older ≡ true)
commits_or_hindered c r [] older some = absurd (true≢false (sym some))
commits_or_hindered c r (x ∷ window) older some =
    go (is_replication (window ++ older) x && is_progress c r (window ++ older) x)
    (commit_or_hindrance (is_replication (window ++ older) x) (commits_more c r (window ++ older) x) (is_over_after r (window ++ older) x) (is_lagging c r (window ++ older) x) (knows_all c r (window ++ older)) (is_some (outrun c r (x ∷ (window ++ older)))) (not (has_min r (x ∷ (window ++ older)) || is_confirmed c r (x ∷ (window ++ older)))))
    some (commits_or_hindered c r window older)
  where
    commits : Bool
    commits = is_replication (window ++ older) x && commits_more c r (window ++ older) x

    hindered : Bool
    hindered = is_replication (window ++ older) x && is_hindrance c r (window ++ older) x

    go : (t : Bool) → (t ≡ true → (commits ≡ true) ⊎ (hindered ≡ true)) → (if t then true else replicates (is_progress c r) window older) ≡ true
        → (replicates (is_progress c r) window older ≡ true → (replicates (commits_more c r) window older ≡ true) ⊎ (replicates (is_hindrance c r) window older ≡ true))
        → (replicates (commits_more c r) (x ∷ window) older ≡ true) ⊎ (replicates (is_hindrance c r) (x ∷ window) older ≡ true)
    go true here some ih = elim (here refl) [
      | inl is ↦ inl (some_passes commits is (replicates (commits_more c r) window older))
      | inr is ↦ inr (some_passes hindered is (replicates (is_hindrance c r) window older))
    ]
    go false here some ih = elim (ih some) [
      | inl is ↦ inl (some_still commits (replicates (commits_more c r) window older) is)
      | inr is ↦ inr (some_still hindered (replicates (is_hindrance c r) window older) is)
    ]

-- within the bound
leading_commits : (c : Config) (r : ℕ) (past window older : List Event) (e : Event) → CommitsInTime c r past → is_milestone c r older e ≡ true → CommitsWithin c r past window (e ∷ older) (bound c r window (e ∷ older))
leading_commits c r past window older e in_time stone follows free = elim (commits_or_hindered c r window (e ∷ older) (in_time e window older stone follows)) [
  | inl commits ↦ commits
  | inr hindered ↦ absurd (true≢false (sym hindered ∙ free))
]

-- what is to come after a confirmation: a minimum is read, or a fence shows it confirmed no more
abbrev is_beginning : Config → ℕ → ℕ → List Event → Event → Bool
is_beginning c r k before f = (is_min f && (leaderships r before == k)) || (is_any_fencing f && not (is_confirmed c r (f ∷ before)))

-- so a minimum is read, or something hinders
min_or_hindered : (c : Config) (r k : ℕ) (window older : List Event) → stays r window ≡ true → has_begun r older ≡ true → replicates (is_beginning c r k) window older ≡ true
    → (has_min r (window ++ older) ≡ true) ⊎ (replicates (is_hindrance c r) window older ≡ true)
min_or_hindered c r k [] older stay begun some = absurd (true≢false (sym some))
min_or_hindered c r k (x ∷ window) older stay begun some =
    go (is_replication (window ++ older) x) (is_min x) (leaderships r (window ++ older) == k) (is_any_fencing x) (is_confirmed c r (x ∷ (window ++ older))) (has_min r (x ∷ (window ++ older))) refl refl refl refl some
    (min_or_hindered c r k window older less.1 begun)
  where
    less : (begins_leadership r x ≡ false) × (stays r window ≡ true)
    less = stays_less r x window stay

    hindered : Bool
    hindered = is_replication (window ++ older) x && is_hindrance c r (window ++ older) x

    unconfirmed : (t o l k u m d : Bool) → t ≡ true → m ≡ false → d ≡ false → (t && (o || (l || (k || (u || not (m || d)))))) ≡ true
    unconfirmed t true l k u m d ht hm hd = rw (ht) refl
    unconfirmed t false true k u m d ht hm hd = rw (ht) refl
    unconfirmed t false false true u m d ht hm hd = rw (ht) refl
    unconfirmed t false false false true m d ht hm hd = rw (ht) refl
    unconfirmed t false false false false m d ht hm hd = rw (ht, hm, hd) refl

    go : (t m s f d h : Bool) → is_replication (window ++ older) x ≡ t → is_min x ≡ m → is_confirmed c r (x ∷ (window ++ older)) ≡ d → has_min r (x ∷ (window ++ older)) ≡ h
        → (if t && ((m && s) || (f && not d)) then true else replicates (is_beginning c r k) window older) ≡ true
        → (replicates (is_beginning c r k) window older ≡ true → (has_min r (window ++ older) ≡ true) ⊎ (replicates (is_hindrance c r) window older ≡ true))
        → (has_min r (x ∷ (window ++ older)) ≡ true) ⊎ (replicates (is_hindrance c r) (x ∷ window) older ≡ true)
    go t m s f d true ht hm hd hh some ih = inl hh
    go true true s f d false ht hm hd hh some ih = inl (min_now r x (window ++ older) hm (begun_still r window older begun))
    go true false s true false false ht hm hd hh some ih =
        inr (some_passes hindered (unconfirmed (is_replication (window ++ older) x) (is_over_after r (window ++ older) x) (is_lagging c r (window ++ older) x) (knows_all c r (window ++ older)) (is_some (outrun c r (x ∷ (window ++ older)))) (has_min r (x ∷ (window ++ older))) (is_confirmed c r (x ∷ (window ++ older))) ht hh hd) (replicates (is_hindrance c r) window older))
    go true false s true true false ht hm hd hh some ih = later (ih some)
      where
        later : (has_min r (window ++ older) ≡ true) ⊎ (replicates (is_hindrance c r) window older ≡ true) → (has_min r (x ∷ (window ++ older)) ≡ true) ⊎ (replicates (is_hindrance c r) (x ∷ window) older ≡ true)
        later (inl had) = inl (min_on r x (window ++ older) less.0 had)
        later (inr met) = inr (some_still hindered (replicates (is_hindrance c r) window older) met)
    go true false s false d false ht hm hd hh some ih = later (ih some)
      where
        later : (has_min r (window ++ older) ≡ true) ⊎ (replicates (is_hindrance c r) window older ≡ true) → (has_min r (x ∷ (window ++ older)) ≡ true) ⊎ (replicates (is_hindrance c r) (x ∷ window) older ≡ true)
        later (inl had) = inl (min_on r x (window ++ older) less.0 had)
        later (inr met) = inr (some_still hindered (replicates (is_hindrance c r) window older) met)
    go false m s f d false ht hm hd hh some ih = later (ih some)
      where
        later : (has_min r (window ++ older) ≡ true) ⊎ (replicates (is_hindrance c r) window older ≡ true) → (has_min r (x ∷ (window ++ older)) ≡ true) ⊎ (replicates (is_hindrance c r) (x ∷ window) older ≡ true)
        later (inl had) = inl (min_on r x (window ++ older) less.0 had)
        later (inr met) = inr (some_still hindered (replicates (is_hindrance c r) window older) met)

-- the first minimum of a stretch
record FirstMin (r : ℕ) (window older : List Event) : Type 0 where
  newer : List Event
  first : Event
  rest : List Event
  is : window ≡ newer ++ first ∷ rest
  min : is_min first ≡ true
  none : has_min r (rest ++ older) ≡ false

first_min : (r : ℕ) (window older : List Event) → stays r window ≡ true → has_begun r older ≡ true → has_min r older ≡ false → has_min r (window ++ older) ≡ true → FirstMin r window older
first_min r [] older stay begun none some = absurd (true≢false (sym some ∙ none))
first_min r (x ∷ window) older stay begun none some =
    go (has_min r (window ++ older)) refl (first_min r window older less.1 begun none)
  where
    less : (begins_leadership r x ≡ false) × (stays r window ≡ true)
    less = stays_less r x window stay

    -- the newest event is a minimum if the rest has none
    newest_is : (b : Bool) → begins_leadership r x ≡ b → b ≡ false → (g : Bool) → has_begun r (window ++ older) ≡ g → g ≡ true → (m : Bool) → (cond b true g && has is_min (cond b [] (x ∷ leadership r (window ++ older)))) ≡ true → (g && has is_min (leadership r (window ++ older))) ≡ false → is_min x ≡ true
    newest_is true hb other g hg begun m some none = absurd (true≢false other)
    newest_is false hb other false hg begun m some none = absurd (true≢false (sym begun))
    newest_is false hb other true hg begun m some none = pick (is_min x) some
      where
        pick : (t : Bool) → cond t true (has is_min (leadership r (window ++ older))) ≡ true → t ≡ true
        pick true h = refl
        pick false h = absurd (true≢false (sym h ∙ none))

    go : (t : Bool) → has_min r (window ++ older) ≡ t → (has_min r (window ++ older) ≡ true → FirstMin r window older) → FirstMin r (x ∷ window) older
    go true had ih = (let at = ih had in record { newer = x ∷ at.newer; first = at.first; rest = at.rest; is = ap (λ l. x ∷ l) at.is; min = at.min; none = at.none })
    go false had ih = record {
      newer = [];
      first = x;
      rest = window;
      is = refl;
      min = newest_is (begins_leadership r x) refl less.0 (has_begun r (window ++ older)) refl (begun_still r window older begun) true some had;
      none = had;
    }

-- from the first minimum of a stretch on the bound is left
min_commits : (c : Config) (r k : ℕ) (past window rest older : List Event) (first : Event) → CommitsInTime c r past → is_milestone c r (rest ++ older) first ≡ true → Follows c r past (window ++ first ∷ rest) older k → replicates (is_hindrance c r) (window ++ first ∷ rest) older ≡ false
    → bound c r (window ++ first ∷ rest) older + replications (first ∷ rest) older ≤ k → replicates (commits_more c r) (window ++ first ∷ rest) older ≡ true
min_commits c r k past window rest older first in_time stone follows free enough =
    let base = first ∷ rest in
    let split = steps_both is_replication window base older in
    let count = follows.count_is in
    let smaller = bound_newer c r window base older in
    let stay = stays_newer r window base follows.same in
    let at = cut_at_bound c r window (base ++ older) stay (omega (arith, split, count, smaller, enough)) in
    let here = subst (λ w. IsStretch past w (base ++ older)) at.is (stretch_newer past window base older follows.stretch) in
    let named = each_newer (λ before e. not (is_replication before e) || is_named c r before) window base older follows.named in
    let done : replicates (commits_more c r) at.rest (base ++ older) ≡ true = leading_commits c r past at.rest (rest ++ older) first in_time stone
    (record {
      stretch = stretch_older past at.newer at.rest (base ++ older) here;
      count_is = at.count;
      same = stays_older r at.newer at.rest (subst (λ w. stays r w ≡ true) at.is stay);
      named = each_older (λ before e. not (is_replication before e) || is_named c r before) at.newer at.rest (base ++ older) (subst (λ w. named_throughout c r w (base ++ older) ≡ true) at.is named);
    })
    (nowhere at free) in
    some_newer (λ before e. is_replication before e && commits_more c r before e) window base older
    (subst (λ w. replicates (commits_more c r) w (base ++ older) ≡ true) (sym at.is) (some_older (λ before e. is_replication before e && commits_more c r before e) at.newer at.rest (base ++ older) done))
  where
    nowhere : (at : CutAtBound c r window (first ∷ rest ++ older)) → replicates (is_hindrance c r) (window ++ first ∷ rest) older ≡ false → replicates (is_hindrance c r) at.rest (first ∷ rest ++ older) ≡ false
    nowhere at free = go (replicates (is_hindrance c r) at.rest (first ∷ rest ++ older)) refl
      where
        go : (t : Bool) → replicates (is_hindrance c r) at.rest (first ∷ rest ++ older) ≡ t → t ≡ false
        go true met = absurd (true≢false (sym (some_newer (λ before e. is_replication before e && is_hindrance c r before e) window (first ∷ rest) older
            (subst (λ w. replicates (is_hindrance c r) w (first ∷ rest ++ older) ≡ true) (sym at.is) (some_older (λ before e. is_replication before e && is_hindrance c r before e) at.newer at.rest (first ∷ rest ++ older) met))) ∙ free))
        go false none = refl

-- a fence is no minimum and begins no leadership
fence_verb : (r by : ℕ) (verb : Verb) → is_any_fencing_verb verb ≡ true → (is_first_ask r by verb ≡ false) × (is_min_verb verb ≡ false)
fence_verb r by (Verb.Fence q) is = (refl, refl)
fence_verb r by verb is = absurd (true≢false (sym is))

fence_keeps : (r : ℕ) (e : Event) (older : List Event) → is_any_fencing e ≡ true → has_min r older ≡ false → has_min r (e ∷ older) ≡ false
fence_keeps r e older is none =
    let other = fence_verb r e.by e.verb is in
    let begun : has_begun r (e ∷ older) ≡ has_begun r older = ap (λ t. cond t true (has_begun r older)) other.0 in
    let minima : has is_min (leadership r (e ∷ older)) ≡ has is_min (leadership r older) = ap (λ t. has is_min (cond t [] (e ∷ leadership r older))) other.0 ∙ ap (λ t. cond t true (has is_min (leadership r older))) other.1 in
    ap (λ t. t && has is_min (leadership r (e ∷ older))) begun ∙ (ap (λ t. has_begun r older && t) minima ∙ none)

-- a confirmed leader reads its first minimum in time, and commits within the bound from there on
confirmed_commits : (c : Config) (r : ℕ) (past window older : List Event) (e : Event) → IsDiligent c r past → IsConfirming c r older e → CommitsWithin c r past window (e ∷ older) (c.replicas + bound c r window (e ∷ older))
confirmed_commits c r past window older e diligent confirms follows free =
    let count = follows.count_is in
    let at = cut_at c.replicas window (e ∷ older) (omega (arith, count)) in
    from at.newer at.rest at.is at.count
  where
    begun : has_begun r (e ∷ older) ≡ true
    begun = begun_on r e older confirms.begun

    no_min : has_min r (e ∷ older) ≡ false
    no_min = fence_keeps r e older confirms.fence confirms.no_min

    from : (newer rest : List Event) → window ≡ newer ++ rest → replications rest (e ∷ older) ≡ c.replicas → replicates (commits_more c r) window (e ∷ older) ≡ true
    from newer rest is few =
        let whole = subst (λ w. Follows c r past w (e ∷ older) (c.replicas + bound c r window (e ∷ older))) is follows in
        let stay = stays_older r newer rest whole.same in
        let there = diligent.confirmation e rest older (stretch_older past newer rest (e ∷ older) whole.stretch) confirms.begun confirms.fence confirms.no_min confirms.confirmed few
        (each_older (λ before f. not (is_replication before f) || is_named c r before) newer rest (e ∷ older) whole.named) in
        elim (min_or_hindered c r (leaderships r older) rest (e ∷ older) stay begun there) [
          | inl had ↦ (let first = first_min r rest (e ∷ older) stay begun no_min had in reach newer rest is few first)
          | inr met ↦ absurd (true≢false (sym (subst (λ w. replicates (is_hindrance c r) w (e ∷ older) ≡ true) (sym is) (some_older (λ before f. is_replication before f && is_hindrance c r before f) newer rest (e ∷ older) met)) ∙ free))
        ]
      where
        reach : (newer rest : List Event) → window ≡ newer ++ rest → replications rest (e ∷ older) ≡ c.replicas → FirstMin r rest (e ∷ older) → replicates (commits_more c r) window (e ∷ older) ≡ true
        reach newer rest is few first =
            let cut : window ≡ (newer ++ first.newer) ++ first.first ∷ first.rest = is ∙ (ap (λ l. newer ++ l) first.is ∙ sym (append_assoc newer first.newer (first.first ∷ first.rest))) in
            let split = ap (λ w. replications w (e ∷ older)) first.is ∙ steps_both is_replication first.newer (first.first ∷ first.rest) (e ∷ older) in
            let same = ap (λ w. bound c r w (e ∷ older)) cut in
            subst (λ w. replicates (commits_more c r) w (e ∷ older) ≡ true) (sym cut)
            (min_commits c r (c.replicas + bound c r window (e ∷ older)) past (newer ++ first.newer) first.rest (e ∷ older) first.first diligent.progress_bound
            (first_is_milestone c r first.first (first.rest ++ e ∷ older) first.min (begun_still r first.rest (e ∷ older) begun) first.none)
            (subst (λ w. Follows c r past w (e ∷ older) (c.replicas + bound c r window (e ∷ older))) cut follows)
            (subst (λ w. replicates (is_hindrance c r) w (e ∷ older) ≡ false) cut free)
            (omega (arith, split, few, same)))

pub unhindered_commit : UnhinderedCommit
unhindered_commit = record {
  leading = λ c r past window older e diligent stone. leading_commits c r past window older e diligent.progress_bound stone;
  confirmed = confirmed_commits;
}
