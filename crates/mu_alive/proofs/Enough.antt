-- A replica that leads on, in a large ring, knows every command soon after its first minimum.
use Rattle.std.proofs.Common.{◌≡◌, ◌⊎◌, ℕ, ◌+◌, ◌*◌, ◌<◌, ◌==◌, ◌&&◌, ◌||◌, not, inl, inr, Bool, true, false, cond, Some, None, List, [], ◌∷◌, ◌++◌, length, refl, sym, ◌∙◌, ap, arith, subst, true≢false, eqb-true}
use Rattle.std.specs.declared.option.Option.{Option}
use Rattle.std.specs.Prelude.{is_some}
use Rattle.std.proofs.lemmas.Bool.{and_parts, lt-leb}
use Rattle.mu_model.specs.declared.config.Config.{Config}
use Rattle.mu_model.specs.declared.event.Answer.{Answer}
use Rattle.mu_model.specs.declared.event.Event.{Event}
use Rattle.mu_model.specs.declared.event.Verb.{Verb}
use Rattle.mu_model.specs.Allowed.{Needs}
use Rattle.mu_model.specs.Contents.{IsConfig, holds_all, includes, marked, row_count, rows_in}
use Rattle.mu_model.specs.Diligence.{AsksInTime, is_milestone}
use Rattle.mu_model.specs.Ends.{outrun, outrun_by}
use Rattle.mu_model.specs.Histories.{all_below, earlier_or, has, part}
use Rattle.mu_model.specs.Knowledge.{known}
use Rattle.mu_model.specs.Leaderships.{begins_leadership, has_begun, is_over, leadership}
use Rattle.mu_model.specs.Legal.{IsLegalHistory}
use Rattle.mu_model.specs.Parts.{IsPossible}
use Rattle.mu_model.specs.Room.{head_read, lacks_room, reserve}
use Rattle.mu_model.specs.Steps.{commits_more, has_min, is_asking_verb, is_lagging, is_min, is_min_verb, is_named, knows_all}
use Rattle.mu_model.specs.Stretches.{is_replication}
use Rattle.mu_model.proofs.Basics.{none_some}
use Rattle.mu_model.proofs.Parts.{part_is_possible, filter-append}
use Rattle.mu_model.proofs.Scans.{all_at, each_all, rows_in-append}
use Rattle.mu_agree.proofs.Fitting.{part_positions_suffice_law}
use Rattle.mu_agree.proofs.Knowing.{known_stays}
use Rattle.mu_agree.proofs.Possible.{parts_shorten_law}
use Rattle.mu_pace.specs.Collecting.{LeaderKeeps, LeaderKeepsBy}
use Rattle.mu_pace.specs.Counters.{IsInTime}
use Rattle.mu_agree.specs.Moments.{AtEachMoment, AtEachStep}
use Rattle.mu_pace.specs.Watches.{progressing}
use Rattle.mu_pace.proofs.Counting.{last_moment, both_moments, moments_before}
use Rattle.mu_pace.proofs.Positions.{known_fits}
use Rattle.mu_alive.specs.Calm.{IsCalm, calm_steps}
use Rattle.mu_alive.specs.Enough.{HasLargeRing}
use Rattle.mu_alive.proofs.Calm.{calm_commits}
use Rattle.mu_alive.proofs.Moments.{at_least_halves}
use Rattle.mu_pace.proofs.Pasts.{min_on, min_now}
use Rattle.mu_alive.proofs.Cutting.{longer, moments_of}
use Rattle.mu_agree.proofs.Legal.{legal_older}

-- a first minimum of a leadership, before which the journal has none under way
pub record FirstMin (a : ℕ) (mine : List Event) : Type 0 where
  pub newer : List Event
  pub first : Event
  pub older : List Event
  pub is : mine ≡ newer ++ first ∷ older
  pub min : is_min first ≡ true
  pub begun : has_begun a older ≡ true
  pub none : AtEachMoment (λ now. has_min a now ≡ false) older

pub first_verb : (a by : ℕ) (verb : Verb) (answer : Answer) → is_min_verb verb ≡ true → begins_leadership a (record { by = by; verb = verb; answer = answer }) ≡ false
first_verb a by (Verb.Min p) answer is = refl
first_verb a by verb answer is = absurd (true≢false (sym is))

pub min_or_none : (a : ℕ) (mine : List Event) → AtEachMoment (λ now. has_min a now ≡ false) mine ⊎ FirstMin a mine
min_or_none a [] = inl refl
min_or_none a (e ∷ mine) = elim (min_or_none a mine) [
  | inl none ↦ go (has_min a (e ∷ mine)) refl none
  | inr min ↦ inr (record { newer = e ∷ min.newer; first = min.first; older = min.older; is = ap (λ l. e ∷ l) min.is; min = min.min; begun = min.begun; none = min.none })
]
  where
    read : (b h m l : Bool) → (cond b true h && cond b false (cond m true l)) ≡ true → (h && l) ≡ false → (m ≡ true) × (h ≡ true)
    read true h m l some none = absurd (true≢false (sym some))
    read false true true l some none = (refl, refl)
    read false true false l some none = absurd (true≢false (sym some ∙ none))
    read false false m l some none = absurd (true≢false (sym some))

    least : (t : Bool) → has is_min (cond t [] (e ∷ leadership a mine)) ≡ cond t false (cond (is_min e) true (has is_min (leadership a mine)))
    least true = refl
    least false = refl

    go : (t : Bool) → has_min a (e ∷ mine) ≡ t → AtEachMoment (λ now. has_min a now ≡ false) mine → AtEachMoment (λ now. has_min a now ≡ false) (e ∷ mine) ⊎ FirstMin a (e ∷ mine)
    go false is none = inl (none, is)
    go true is none =
        let k = read (begins_leadership a e) (has_begun a mine) (is_min e) (has is_min (leadership a mine)) (sym (ap (λ t. has_begun a (e ∷ mine) && t) (least (begins_leadership a e))) ∙ is) (last_moment (λ now. has_min a now ≡ false) mine none) in
        inr (record { newer = []; first = e; older = mine; is = refl; min = k.0; begun = k.1; none = none })

-- what holds of the whole history held of each beginning
pub outrun_before : (c : Config) (r : ℕ) (newer older : List Event) → outrun c r (newer ++ older) ≡ None → outrun c r older ≡ None
outrun_before c r [] older none = none
outrun_before c r (e ∷ newer) older none = outrun_before c r newer older (go (outrun_by r (length (known c r (newer ++ older))) e.by e.verb e.answer) (outrun c r (newer ++ older)) none)
  where
    go : (o p : Option (ℕ × ℕ)) → earlier_or o p ≡ None → p ≡ None
    go None p is = is
    go (Some x) None is = refl
    go (Some x) (Some y) is = absurd (let k = is in cc)

pub asks_before : (c : Config) (r : ℕ) (newer older : List Event) → AsksInTime c r (newer ++ older) → AsksInTime c r older
asks_before c r newer older held = record {
  asks = λ p window o low s n held'. held.asks p window o low (longer newer older window o s) n held';
  fences = λ p window o low s n held'. held.fences p window o low (longer newer older window o s) n held';
}

-- at each moment of a's part its leadership isn't over, the part is possible, and a command is missing
pub record IsFine (c : Config) (a : ℕ) (now : List Event) : Type 0 where
  pub on : is_over a now ≡ false
  pub possible : IsPossible c a now
  pub going : outrun c a now ≡ None
  pub lacks : knows_all c a now ≡ false

pub possible_moments : (c : Config) (a : ℕ) (past : List Event) → IsLegalHistory c past → AtEachMoment (IsPossible c a) (part a past)
possible_moments c a past legal = moments_of a (IsPossible c a) past (λ newer older is. part_is_possible c a older (legal_older c newer older (subst (IsLegalHistory c) is legal)))

pub going_moments : (c : Config) (a : ℕ) (mine : List Event) → outrun c a mine ≡ None → AtEachMoment (λ now. outrun c a now ≡ None) mine
going_moments c a [] none = none
going_moments c a (e ∷ mine) none = (going_moments c a mine (outrun_before c a (e ∷ []) mine none), none)

-- a row that some entries hold, more entries hold
includes_more : (j : ℕ) (xs ys : List ℕ) → includes j xs ≡ true → includes j (xs ++ ys) ≡ true
includes_more j [] ys some = absurd (true≢false (sym some))
includes_more j (x ∷ xs) ys some = go (x == j) some (includes_more j xs ys)
  where
    go : (t : Bool) → cond t true (includes j xs) ≡ true → (includes j xs ≡ true → includes j (xs ++ ys) ≡ true) → cond t true (includes j (xs ++ ys)) ≡ true
    go true some ih = refl
    go false some ih = ih some

pub holds_more : (c : Config) (xs ys : List ℕ) → holds_all c xs ≡ true → holds_all c (xs ++ ys) ≡ true
holds_more c xs ys all =
    each_all (row_count c) (λ j. includes j (rows_in c (xs ++ ys)))
    (λ j low. subst (λ l. includes j l ≡ true) (sym (rows_in-append c xs ys)) (includes_more j (rows_in c xs) (rows_in c ys) (all_at (row_count c) (λ j. includes j (rows_in c xs)) all j low)))

-- who knows all goes on knowing it
pub knows_on : (c : Config) (r : ℕ) (newer older : List Event) → knows_all c r older ≡ true → knows_all c r (newer ++ older) ≡ true
knows_on c r newer older all = let more = known_stays c r newer older in subst (λ l. holds_all c l ≡ true) (sym more.1) (holds_more c (known c r older) more.0 all)

pub lacks_moments : (c : Config) (r : ℕ) (mine : List Event) → knows_all c r mine ≡ false → AtEachMoment (λ now. knows_all c r now ≡ false) mine
lacks_moments c r [] lacks = lacks
lacks_moments c r (e ∷ mine) lacks = (lacks_moments c r mine (go (knows_all c r mine) refl), lacks)
  where
    go : (t : Bool) → knows_all c r mine ≡ t → knows_all c r mine ≡ false
    go true is = absurd (true≢false (sym (knows_on c r (e ∷ []) mine is) ∙ lacks))
    go false is = is

-- who lacks a command lacked it before
pub lacks_older : (c : Config) (a : ℕ) (newer older : List Event) → knows_all c a (part a (newer ++ older)) ≡ false → knows_all c a (part a older) ≡ false
lacks_older c a newer older lacks = last_moment (λ now. knows_all c a now ≡ false) (part a older) (moments_before (λ now. knows_all c a now ≡ false) (part a newer) (part a older) (subst (AtEachMoment (λ now. knows_all c a now ≡ false)) (filter-append (λ e. e.by == a) newer older) (lacks_moments c a (part a (newer ++ older)) lacks)))

pub fine_moments : (c : Config) (a : ℕ) (past : List Event) → IsLegalHistory c past → AtEachMoment (λ now. is_over a now ≡ false) (part a past) → outrun c a (part a past) ≡ None → knows_all c a (part a past) ≡ false → AtEachMoment (IsFine c a) (part a past)
fine_moments c a past legal on going lacks =
    both_moments (λ now. (is_over a now ≡ false) × IsPossible c a now) (λ now. (outrun c a now ≡ None) × (knows_all c a now ≡ false)) (IsFine c a) (λ now x y. record { on = x.0; possible = x.1; going = y.0; lacks = y.1 }) (part a past)
    (both_moments (λ now. is_over a now ≡ false) (IsPossible c a) (λ now. (is_over a now ≡ false) × IsPossible c a now) (λ now x y. (x, y)) (part a past) on (possible_moments c a past legal))
    (both_moments (λ now. outrun c a now ≡ None) (λ now. knows_all c a now ≡ false) (λ now. (outrun c a now ≡ None) × (knows_all c a now ≡ false)) (λ now x y. (x, y)) (part a past) (going_moments c a (part a past) going) (lacks_moments c a (part a past) lacks))

-- no head lacks room in a large ring
pub roomy : (n : ℕ) (f : ℕ → Bool) → ((q : ℕ) → f q ≡ false) → not (all_below n (λ q. not (f q))) ≡ false
roomy n f none = ap not (each_all n (λ q. not (f q)) (λ q low. ap not (none q)))

never_lacks : (c : Config) (limit : ℕ) (o : Option ℕ) → limit < c.ring → lacks_room c limit o ≡ false
never_lacks c limit None low = refl
never_lacks c limit (Some h) low = lt-leb (h + c.ring) limit (omega (arith, low))

pub not_lagging : (c : Config) (a : ℕ) (past : List Event) (e : Event) → length (known c a past) + reserve c < c.ring → is_lagging c a past e ≡ false
not_lagging c a past e low =
    roomy c.replicas (λ q. not (marked c q (known c a past)) && lacks_room c (length (known c a past) + reserve c) (head_read a q e.by e.verb e.answer))
    (λ q. go (not (marked c q (known c a past))) (lacks_room c (length (known c a past) + reserve c) (head_read a q e.by e.verb e.answer)) (never_lacks c (length (known c a past) + reserve c) (head_read a q e.by e.verb e.answer) low))
  where
    go : (t u : Bool) → u ≡ false → (t && u) ≡ false
    go true u h = h
    go false u h = refl

pub asks_verb : (p : ℕ) (verb : Verb) → is_asking_verb p verb ≡ true → verb ≡ Verb.Ask p
asks_verb p (Verb.Ask q) h = ap (λ x. Verb.Ask x) (eqb-true q p h)
asks_verb p verb h = absurd (true≢false (sym h))

-- a leadership that has a minimum begins no other
pub begins_verb : (a by : ℕ) (verb : Verb) (answer : Answer) → begins_leadership a (record { by = by; verb = verb; answer = answer }) ≡ true → is_asking_verb 0 verb ≡ true
begins_verb a by (Verb.Ask q) answer is = (and_parts (by == a) (q == 0) is).1
begins_verb a by verb answer is = absurd (true≢false (sym is))

pub min_parts : (a : ℕ) (now : List Event) → has_min a now ≡ true → (has_begun a now ≡ true) × (has is_min (leadership a now) ≡ true)
min_parts a now is = and_parts (has_begun a now) (has is_min (leadership a now)) is

-- once a read a minimum it names itself and begins no other leadership
pub record Leads (c : Config) (a : ℕ) (past : List Event) (e : Event) : Type 0 where
  pub same : has_min a past ≡ true → begins_leadership a e ≡ false
  pub named : has_min a past ≡ true → is_named c a past ≡ true

-- so what comes after the first minimum is calm
pub puts_inside : (c : Config) (a : ℕ) (past : List Event) (e : Event) → IsPossible c a (e ∷ past) → (p i b v : ℕ) → e.verb ≡ Verb.PutSlot p i b v → p < c.replicas
puts_inside c a past e possible p i b v is = go e.verb (parts_shorten_law c a past e possible).allowed.may is
  where
    go : (verb : Verb) → Needs c a past verb → verb ≡ Verb.PutSlot p i b v → p < c.replicas
    go (Verb.PutSlot q j n w) needs is = let same : q ≡ p = cc in subst (λ x. x < c.replicas) same needs.0
    go verb needs is = cc

calm_on : (c : Config) (a : ℕ) (newer base : List Event) → IsConfig c → HasLargeRing c → AtEachMoment (IsFine c a) (newer ++ base) → AtEachStep (Leads c a) (newer ++ base) → has_min a base ≡ true → IsCalm c a newer base × (has_min a (newer ++ base) ≡ true)
calm_on c a [] base good large fine kept is = (tt, is)
calm_on c a (e ∷ newer) base good large fine kept is =
    let ih = calm_on c a newer base good large fine.0 kept.0 is in
    let past = newer ++ base in
    let here = last_moment (IsFine c a) past fine.0 in
    let same = kept.1.same ih.1 in
    let fits = part_positions_suffice_law c a past good here.possible here.lacks in (
      (
        ih.0,
        record {
          same = same;
          named = kept.1.named ih.1;
          leads_on = fine.1.on;
          has_room = not_lagging c a past e (omega (arith, fits, large));
          lacks = here.lacks;
          going = ap is_some fine.1.going;
          inside = puts_inside c a past e fine.1.possible;
        },
      ),
      min_on a e past same ih.1,
    )

pub progress_moments : (again : Bool) (c : Config) (a : ℕ) (mine : List Event) → AtEachStep (LeaderKeepsBy again c a) mine → AtEachMoment (IsInTime (progressing c a)) mine
progress_moments again c a [] kept = λ left is. absurd (none_some left is)
progress_moments again c a (e ∷ mine) kept = (progress_moments again c a mine kept.0, kept.1.places.progressing)

pub first_is_milestone : (c : Config) (a : ℕ) (first : Event) (older : List Event) → is_min first ≡ true → has_begun a older ≡ true → has_min a older ≡ false → is_milestone c a older first ≡ true
first_is_milestone c a first older is begun none =
    go (is_min first) (has is_min (leadership a older)) (commits_more c a older first || (is_replication older first && is_lagging c a older first)) is (no_min (has_begun a older) (has is_min (leadership a older)) begun none)
  where
    no_min : (b h : Bool) → b ≡ true → (b && h) ≡ false → h ≡ false
    no_min true h hb is = is
    no_min false h hb is = absurd (true≢false (sym hb))

    go : (m h x : Bool) → m ≡ true → h ≡ false → ((m && not h) || x) ≡ true
    go m h x hm hh = rw (hm, hh) refl

-- from the first minimum on few steps come
pub few_after : (c : Config) (a : ℕ) (mine : List Event) → IsConfig c → HasLargeRing c → AtEachMoment (IsFine c a) mine → AtEachStep (LeaderKeeps c a) mine → AtEachStep (Leads c a) mine → (m : FirstMin a mine) → length m.newer < 2 * calm_steps c (row_count c + reserve c)
few_after c a mine good large all led leads m =
    let fine = subst (AtEachMoment (IsFine c a)) m.is all in
    let kept = subst (AtEachStep (LeaderKeeps c a)) m.is led in
    let calm = calm_on c a m.newer (m.first ∷ m.older) good large fine (subst (AtEachStep (Leads c a)) m.is leads) (min_now a m.first m.older m.min m.begun) in
    let last = last_moment (IsFine c a) (m.newer ++ m.first ∷ m.older) fine in
    let few = calm_commits c a (row_count c + reserve c) m.first m.newer m.older (progress_moments false c a (m.newer ++ m.first ∷ m.older) kept) (first_is_milestone c a m.first m.older m.min m.begun (last_moment (λ now. has_min a now ≡ false) m.older m.none)) calm.0 (known_fits c a (m.newer ++ m.first ∷ m.older) good last.possible) in
    let half = at_least_halves m.newer (m.first ∷ m.older) in
    omega (arith, few, half)
