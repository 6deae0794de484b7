-- While a command is missing, a replica that names itself asks anew in time, or its leadership goes on for good.
use Rattle.std.proofs.Common.{◌≡◌, ◌⊎◌, ℕ, suc, ◌%◌, ◌+◌, ◌*◌, ◌<◌, ◌≤◌, ◌&&◌, ◌||◌, not, inl, inr, Bool, true, false, cond, None, List, [], ◌∷◌, ◌++◌, length, refl, sym, ◌∙◌, ap, arith, subst, true≢false, append_assoc}
use Rattle.std.specs.Prelude.{if◌then◌else◌, is_some}
use Rattle.std.proofs.lemmas.Bool.{cases_eq, eq-eqb}
use Rattle.std.proofs.lemmas.List.{length-append}
use Rattle.mu_model.specs.declared.config.Config.{Config}
use Rattle.mu_model.specs.declared.event.Event.{Event}
use Rattle.mu_model.specs.Contents.{IsConfig, row_count}
use Rattle.mu_model.specs.Diligence.{AsksInTime, has_to_ask, was_unnamed}
use Rattle.mu_model.specs.Ends.{outrun}
use Rattle.mu_model.specs.Histories.{has}
use Rattle.mu_model.specs.Knowledge.{known}
use Rattle.mu_model.specs.Leaderships.{begins_leadership, has_begun, is_over, leadership, ends_leadership}
use Rattle.mu_model.specs.Parts.{IsPossible}
use Rattle.mu_model.specs.Room.{reserve}
use Rattle.mu_model.specs.Steps.{has_min, is_asking, is_min, is_named, knows_all}
use Rattle.mu_model.specs.Stretches.{each_step, is_odd, is_replication}
use Rattle.mu_pace.specs.Collecting.{LeaderKeepsBy}
use Rattle.mu_agree.specs.Moments.{AtEachMoment, AtEachStep}
use Rattle.mu_pace.proofs.Counting.{last_moment, moments_before, steps_before}
use Rattle.mu_pace.proofs.Pasts.{cut, Cut}
use Rattle.mu_agree.proofs.Fitting.{part_positions_suffice_law}
use Rattle.mu_pace.proofs.Positions.{known_fits}
use Rattle.mu_alive.specs.Enough.{HasLargeRing, asking_steps}
use Rattle.mu_alive.specs.Missing.{missing_steps, waiting_for}
use Rattle.mu_alive.specs.Resuming.{FollowsListing}
use Rattle.mu_alive.proofs.Calm.{AreCalmTurns}
use Rattle.mu_alive.proofs.Missing.{known_more, quiet_missing}
use Rattle.mu_alive.proofs.Cutting.{none_newer, none_older}
use Rattle.mu_alive.proofs.Enough.{asks_before, begins_verb, first_is_milestone, not_lagging, progress_moments, puts_inside}
use Rattle.mu_alive.proofs.Moments.{From, at_least_halves, halves, last_from, some_event}

-- the journal of a, which may ask again; it names itself from some step on, and a command is missing
pub record Lacking (c : Config) (a start : ℕ) (mine : List Event) : Type 0 where
  pub asks : AsksInTime c a mine
  pub led : AtEachStep (LeaderKeepsBy true c a) mine
  pub listed : AtEachStep (FollowsListing c a) mine
  pub named : AtEachMoment (From start (λ now. is_named c a now ≡ true)) mine
  pub lacks : AtEachMoment (λ now. knows_all c a now ≡ false) mine
  pub going : AtEachMoment (λ now. outrun c a now ≡ None) mine
  pub possible : AtEachMoment (IsPossible c a) mine

pub lacking_before : (c : Config) (a start : ℕ) (newer older : List Event) → Lacking c a start (newer ++ older) → Lacking c a start older
lacking_before c a start newer older k = record {
  asks = asks_before c a newer older k.asks;
  led = steps_before (LeaderKeepsBy true c a) newer older k.led;
  listed = steps_before (FollowsListing c a) newer older k.listed;
  named = moments_before (From start (λ now. is_named c a now ≡ true)) newer older k.named;
  lacks = moments_before (λ now. knows_all c a now ≡ false) newer older k.lacks;
  going = moments_before (λ now. outrun c a now ≡ None) newer older k.going;
  possible = moments_before (IsPossible c a) newer older k.possible;
}

-- an event that asks no region 0 begins no leadership
pub begins_none : (a : ℕ) (e : Event) → is_asking 0 e ≡ false → begins_leadership a e ≡ false
begins_none a e none = go (begins_leadership a e) refl
  where
    go : (t : Bool) → begins_leadership a e ≡ t → t ≡ false
    go true is = absurd (true≢false (sym (begins_verb a e.by e.verb e.answer is) ∙ none))
    go false is = refl

pub none_begins : (a : ℕ) (xs : List Event) → has (is_asking 0) xs ≡ false → has (begins_leadership a) xs ≡ false
none_begins a [] none = refl
none_begins a (e ∷ xs) none = go (is_asking 0 e) refl none (none_begins a xs)
  where
    go : (t : Bool) → is_asking 0 e ≡ t → cond t true (has (is_asking 0) xs) ≡ false → (has (is_asking 0) xs ≡ false → has (begins_leadership a) xs ≡ false) → cond (begins_leadership a e) true (has (begins_leadership a) xs) ≡ false
    go true is none ih = absurd (true≢false none)
    go false is none ih = ap (λ t. cond t true (has (begins_leadership a) xs)) (begins_none a e is) ∙ ih none

-- none in two stretches
none_both : (test : Event → Bool) (xs ys : List Event) → has test xs ≡ false → has test ys ≡ false → has test (xs ++ ys) ≡ false
none_both test [] ys none rest = rest
none_both test (e ∷ xs) ys none rest = go (test e) none (none_both test xs ys)
  where
    go : (t : Bool) → cond t true (has test xs) ≡ false → (has test xs ≡ false → has test ys ≡ false → has test (xs ++ ys) ≡ false) → cond t true (has test (xs ++ ys)) ≡ false
    go true none ih = absurd (true≢false none)
    go false none ih = ih none rest

-- the newest event, if it doesn't pass
pub none_first : (test : Event → Bool) (e : Event) (xs : List Event) → has test (e ∷ xs) ≡ false → (test e ≡ false) × (has test xs ≡ false)
none_first test e xs none = go (test e) refl none
  where
    go : (t : Bool) → test e ≡ t → cond t true (has test xs) ≡ false → (test e ≡ false) × (has test xs ≡ false)
    go true is none = absurd (true≢false none)
    go false is none = (is, none)

-- a leadership that isn't over wasn't before
over_before : (a : ℕ) (xs ys : List Event) → has (begins_leadership a) xs ≡ false → is_over a (xs ++ ys) ≡ false → is_over a ys ≡ false
over_before a [] ys none on = on
over_before a (e ∷ xs) ys none on =
    let k = none_first (begins_leadership a) e xs none in
    over_before a xs ys k.1 (go (begins_leadership a e) (ends_leadership a (xs ++ ys) e.by e.verb e.answer) (is_over a (xs ++ ys)) k.0 on)
  where
    go : (b x o : Bool) → b ≡ false → cond b false (x || o) ≡ false → o ≡ false
    go b x o hb on = second x o (sym (ap (λ t. cond t false (x || o)) hb) ∙ on)
      where
        second : (x o : Bool) → (x || o) ≡ false → o ≡ false
        second true o h = absurd (true≢false h)
        second false o h = h

-- a step of a stretch that fails
record FailsAt (test : List Event → Event → Bool) (window older : List Event) : Type 0 where
  top : List Event
  event : Event
  below : List Event
  is : window ≡ top ++ event ∷ below
  fails : test (below ++ older) event ≡ false

fails_at : (test : List Event → Event → Bool) (window older : List Event) → each_step test window older ≡ false → FailsAt test window older
fails_at test [] older none = absurd (true≢false none)
fails_at test (e ∷ window) older none = go (test (window ++ older) e) refl none (fails_at test window older)
  where
    go : (t : Bool) → test (window ++ older) e ≡ t → (if t then each_step test window older else false) ≡ false → (each_step test window older ≡ false → FailsAt test window older) → FailsAt test (e ∷ window) older
    go true is none ih = let k = ih none in record { top = e ∷ k.top; event = k.event; below = k.below; is = ap (λ l. e ∷ l) k.is; fails = k.fails }
    go false is none ih = record { top = []; event = e; below = window; is = refl; fails = is }

-- a moment of a stretch at which a leads
pub record LeadsIn (a : ℕ) (window base : List Event) : Type 0 where
  pub top : List Event
  pub below : List Event
  pub is : window ≡ top ++ below
  pub min : has_min a (below ++ base) ≡ true
  pub on : is_over a (below ++ base) ≡ false

-- who doesn't have to ask leads
leads_there : (c : Config) (a : ℕ) (now : List Event) → is_named c a now ≡ true → knows_all c a now ≡ false → has_to_ask c a now ≡ false → (has_min a now ≡ true) × (is_over a now ≡ false)
leads_there c a now named lacks rests = go (is_named c a now) (knows_all c a now) (has_min a now) (is_over a now) named lacks rests
  where
    go : (n k m o : Bool) → n ≡ true → k ≡ false → (n && (not k && not (m && not o))) ≡ false → (m ≡ true) × (o ≡ false)
    go true false true false hn hk h = (refl, refl)
    go true false true true hn hk h = absurd (true≢false h)
    go true false false o hn hk h = absurd (true≢false h)
    go true true m o hn hk h = absurd (true≢false hk)
    go false k m o hn hk h = absurd (true≢false (sym hn))

-- either it has to ask at each turn of its own, or it leads at some moment
pub asks_or_leads : (c : Config) (a start : ℕ) (window base : List Event) → Lacking c a start (window ++ base) → start ≤ length base → (each_step (λ before e. not (is_replication before e) || has_to_ask c a before) window base ≡ true) ⊎ LeadsIn a window base
asks_or_leads c a start window base k late = go (each_step (λ before e. not (is_replication before e) || has_to_ask c a before) window base) refl
  where
    not_or : (t u : Bool) → (not t || u) ≡ false → u ≡ false
    not_or true u h = h
    not_or false u h = absurd (true≢false h)

    go : (t : Bool) → each_step (λ before e. not (is_replication before e) || has_to_ask c a before) window base ≡ t → (t ≡ true) ⊎ LeadsIn a window base
    go true is = inl refl
    go false is =
        let f = fails_at (λ before e. not (is_replication before e) || has_to_ask c a before) window base is in
        let split : window ++ base ≡ (f.top ++ f.event ∷ []) ++ (f.below ++ base) = ap (λ l. l ++ base) f.is ∙ append_assoc f.top (f.event ∷ f.below) base ∙ sym (append_assoc f.top (f.event ∷ []) (f.below ++ base)) in
        let there = lacking_before c a start (f.top ++ f.event ∷ []) (f.below ++ base) (subst (Lacking c a start) split k) in
        let l = leads_there c a (f.below ++ base) (last_from start (λ now. is_named c a now ≡ true) f.below base late there.named) (last_moment (λ now. knows_all c a now ≡ false) (f.below ++ base) there.lacks) (not_or (is_replication (f.below ++ base) f.event) (has_to_ask c a (f.below ++ base)) f.fails) in
        inr (record { top = f.top ++ f.event ∷ []; below = f.below; is = f.is ∙ sym (append_assoc f.top (f.event ∷ []) f.below); min = l.0; on = l.1 })

-- so it leads soon, if it doesn't ask
leads_soon : (c : Config) (a start : ℕ) (window base : List Event) → Lacking c a start (window ++ base) → start ≤ length base → length window ≡ asking_steps c → 0 < c.replicas → has (is_asking 0) window ≡ false → LeadsIn a window base
leads_soon c a start window base k late long some none = elim (asks_or_leads c a start window base k late) [
  | inl waits ↦ absurd (true≢false (sym (some_event (is_asking 0) window base (k.asks.asks 0 window base some (record { newer = []; is = refl }) (halves (17 * c.replicas + 1) window base long) waits)) ∙ none))
  | inr leads_it ↦ leads_it
]

-- the first minimum of a leadership
pub min_here : (a : ℕ) (e : Event) (now : List Event) → has_min a (e ∷ now) ≡ true → has_min a now ≡ false → (is_min e ≡ true) × (has_begun a now ≡ true) × (begins_leadership a e ≡ false)
min_here a e now some none = read (begins_leadership a e) (has_begun a now) (is_min e) (has is_min (leadership a now)) (sym (ap (λ t. has_begun a (e ∷ now) && t) (least (begins_leadership a e))) ∙ some) none
  where
    least : (t : Bool) → has is_min (cond t [] (e ∷ leadership a now)) ≡ cond t false (cond (is_min e) true (has is_min (leadership a now)))
    least true = refl
    least false = refl

    read : (b h m l : Bool) → (cond b true h && cond b false (cond m true l)) ≡ true → (h && l) ≡ false → (m ≡ true) × (h ≡ true) × (b ≡ false)
    read true h m l some none = absurd (true≢false (sym some))
    read false true true l some none = (refl, refl, refl)
    read false true false l some none = absurd (true≢false (sym some ∙ none))
    read false false m l some none = absurd (true≢false (sym some))

record OwnMin (a : ℕ) (now : List Event) : Type 0 where
  newer : List Event
  first : Event
  older : List Event
  is : now ≡ newer ++ first ∷ older
  min : is_min first ≡ true
  begun : has_begun a older ≡ true
  none : has_min a older ≡ false
  same : has (begins_leadership a) newer ≡ false

own_min : (a : ℕ) (now : List Event) → has_min a now ≡ true → OwnMin a now
own_min a [] some = absurd (true≢false (sym some))
own_min a (e ∷ now) some = go (has_min a now) refl (own_min a now)
  where
    not_begins : (t : Bool) → begins_leadership a e ≡ t → t ≡ false
    not_begins true is = absurd (true≢false (sym some ∙ ap (λ t. has_begun a (e ∷ now) && has is_min (cond t [] (e ∷ leadership a now))) is ∙ shut (has_begun a (e ∷ now))))
      where
        shut : (t : Bool) → (t && false) ≡ false
        shut true = refl
        shut false = refl
    not_begins false is = refl

    go : (t : Bool) → has_min a now ≡ t → (has_min a now ≡ true → OwnMin a now) → OwnMin a (e ∷ now)
    go true is ih = let k = ih is in record { newer = e ∷ k.newer; first = k.first; older = k.older; is = ap (λ l. e ∷ l) k.is; min = k.min; begun = k.begun; none = k.none; same = ap (λ t. cond t true (has (begins_leadership a) k.newer)) (not_begins (begins_leadership a e) refl) ∙ k.same }
    go false is ih = let k = min_here a e now some is in record { newer = []; first = e; older = now; is = refl; min = k.0; begun = k.1; none = is; same = refl }

-- since a names itself, none of its turns comes while another is named
pub named_on : (c : Config) (a start : ℕ) (window base : List Event) → AtEachMoment (From start (λ now. is_named c a now ≡ true)) (window ++ base) → start ≤ length base → was_unnamed c a base ≡ false → was_unnamed c a (window ++ base) ≡ false
named_on c a start [] base named late none = none
named_on c a start (e ∷ window) base named late none =
    go (is_replication (window ++ base) e) (is_named c a (window ++ base)) (begins_leadership a e) (last_from start (λ now. is_named c a now ≡ true) window base late named.0) (named_on c a start window base named.0 late none)
  where
    go : (t u b : Bool) → u ≡ true → was_unnamed c a (window ++ base) ≡ false → (if t && not u then true else (if b then false else was_unnamed c a (window ++ base))) ≡ false
    go true true true h ih = refl
    go true true false h ih = ih
    go true false b h ih = absurd (true≢false (sym h))
    go false u true h ih = refl
    go false u false h ih = ih

-- an odd number comes after an even one
odd_after : (n : ℕ) → is_odd n ≡ false → is_odd (suc n) ≡ true
odd_after n even = elim (cases_eq (n % 2) 1) [ inl one ↦ absurd (true≢false (sym (eq-eqb (n % 2) 1 one) ∙ even)) | inr other ↦ eq-eqb (suc n % 2) 1 (omega (arith, other)) ]

-- so if it doesn't ask at its next turn, it was named at each turn of its leadership
was_named : (c : Config) (a start : ℕ) (window base : List Event) → Lacking c a start (window ++ base) → start ≤ length base → 2 ≤ length window → has (is_asking 0) window ≡ false → was_unnamed c a base ≡ false
was_named c a start window base k late two none = pair under.rest refl under.count
  where
    under : Cut 2 window
    under = cut 2 window two

    left : (t u : Bool) → (t || u) ≡ false → t ≡ false
    left true u h = absurd (true≢false h)
    left false u h = refl

    -- the turn that comes first
    turn : (e : Event) (past : List Event) → FollowsListing c a past e → is_odd (length past) ≡ true → is_named c a past ≡ true → is_asking 0 e ≡ false → was_unnamed c a past ≡ false
    turn e past f odd named silent = left (was_unnamed c a past) (not (has_begun a past)) (go (was_unnamed c a past || not (has_begun a past)) refl)
      where
        go : (t : Bool) → (was_unnamed c a past || not (has_begun a past)) ≡ t → t ≡ false
        go true is = absurd (true≢false (sym (f.returns odd named is) ∙ begins_none a e silent))
        go false is = refl

    pair : (rest : List Event) → under.rest ≡ rest → length rest ≡ 2 → was_unnamed c a base ≡ false
    pair (f ∷ e ∷ []) is two =
        let split : window ++ base ≡ under.newer ++ (f ∷ e ∷ base) = ap (λ l. l ++ base) (under.is ∙ ap (λ l. under.newer ++ l) is) ∙ append_assoc under.newer (f ∷ e ∷ []) base in
        let there = lacking_before c a start under.newer (f ∷ e ∷ base) (subst (Lacking c a start) split k) in
        let quiet = none_older (is_asking 0) under.newer (f ∷ e ∷ []) (sym (ap (has (is_asking 0)) (under.is ∙ ap (λ l. under.newer ++ l) is)) ∙ none) in
        let first = none_first (is_asking 0) f (e ∷ []) quiet in
        let second = none_first (is_asking 0) e [] first.1 in
        go there first.0 second.0 (is_odd (length base)) refl
      where
        go : Lacking c a start (f ∷ e ∷ base) → is_asking 0 f ≡ false → is_asking 0 e ≡ false → (t : Bool) → is_odd (length base) ≡ t → was_unnamed c a base ≡ false
        go there f_silent e_silent true odd = turn e base there.listed.0.1 odd (last_from start (λ now. is_named c a now ≡ true) [] base late there.named.0.0) e_silent
        go there f_silent e_silent false even =
            sym (ap (λ t. if t && not (is_named c a base) then true else (if begins_leadership a e then false else was_unnamed c a base)) even ∙ ap (λ t. if t then false else was_unnamed c a base) (begins_none a e e_silent))
            ∙ turn f (e ∷ base) there.listed.1 (odd_after (length base) even) (last_from start (λ now. is_named c a now ≡ true) (e ∷ []) base late there.named.0) f_silent
    pair [] is two = absurd (omega (arith, two))
    pair (e ∷ []) is two = absurd (omega (arith, two))
    pair (g ∷ f ∷ e ∷ rest) is two = absurd (omega (arith, two))

-- what comes after some moment of the leadership is calm up to one at which it isn't over
calm_back : (c : Config) (a start : ℕ) (window base : List Event) → IsConfig c → HasLargeRing c → Lacking c a start (window ++ base) → has (begins_leadership a) window ≡ false → is_over a (window ++ base) ≡ false → was_unnamed c a (window ++ base) ≡ false → AreCalmTurns c a window base
calm_back c a start [] base good large k none on named = tt
calm_back c a start (e ∷ window) base good large k none on named =
    let first = none_first (begins_leadership a) e window none in
    let before = lacking_before c a start (e ∷ []) (window ++ base) k in
    let turn = turns (is_replication past e) (is_named c a past) (begins_leadership a e) first.0 named in
    let here = last_moment (λ now. knows_all c a now ≡ false) past before.lacks in
    let possible = last_moment (IsPossible c a) past before.possible in
    let fits = part_positions_suffice_law c a past good possible here in (
      calm_back c a start window base good large before first.1 (over_before a (e ∷ []) past (ap (λ t. cond t true false) first.0) on) turn.1,
      record {
        same = first.0;
        named = turn.0;
        leads_on = on;
        has_room = not_lagging c a past e (omega (arith, fits, large));
        lacks = here;
        going = ap is_some k.going.1;
        inside = puts_inside c a past e k.possible.1;
      },
    )
  where
    past : List Event
    past = window ++ base

    turns : (t u b : Bool) → b ≡ false → (if t && not u then true else (if b then false else was_unnamed c a past)) ≡ false → (t ≡ true → u ≡ true) × (was_unnamed c a past ≡ false)
    turns true true b hb h = (λ _. refl, sym (ap (λ t. if t then false else was_unnamed c a past) hb) ∙ h)
    turns true false b hb h = absurd (true≢false h)
    turns false u b hb h = (λ t. absurd (true≢false (sym t)), sym (ap (λ t. if t then false else was_unnamed c a past) hb) ∙ h)

-- in this many steps it asks anew
pub asks_anew : (c : Config) (already missing a start : ℕ) (window base : List Event) → IsConfig c → HasLargeRing c → Lacking c a start (window ++ base) → start ≤ length base → 0 < c.replicas → already ≤ length (known c a base) → length (known c a (window ++ base)) ≤ already + missing → waiting_for c already missing ≤ length window → has (is_asking 0) window ≡ true
asks_anew c already missing a start window base good large k late some knew lacks long = go (has (is_asking 0) window) refl
  where
    go : (t : Bool) → has (is_asking 0) window ≡ t → t ≡ true
    go true is = refl
    go false none = absurd (never none)
      where
        never : has (is_asking 0) window ≡ false → ⊥
        never none = between soon last
          where
            one : Cut (asking_steps c) window
            one = cut (asking_steps c) window (omega (arith, long))

            one_length : length window ≡ length one.newer + asking_steps c
            one_length = let n = one.count in let sum = ap length one.is ∙ length-append one.newer one.rest in omega (arith, n, sum)

            two : Cut (2 * missing_steps c already missing (row_count c + reserve c)) one.newer
            two = cut (2 * missing_steps c already missing (row_count c + reserve c)) one.newer (let l = one_length in omega (arith, long, l))

            two_length : length one.newer ≡ length two.newer + 2 * missing_steps c already missing (row_count c + reserve c)
            two_length = let n = two.count in let sum = ap length two.is ∙ length-append two.newer two.rest in omega (arith, n, sum)

            three : Cut (asking_steps c) two.newer
            three = cut (asking_steps c) two.newer (let l = one_length in let m = two_length in omega (arith, long, l, m))

            -- the events before the last stretch
            under : List Event
            under = two.rest ++ (one.rest ++ base)

            whole : window ++ base ≡ three.newer ++ (three.rest ++ under)
            whole =
                ap (λ l. l ++ base) one.is ∙ append_assoc one.newer one.rest base
                ∙ ap (λ l. l ++ (one.rest ++ base)) two.is ∙ append_assoc two.newer two.rest (one.rest ++ base)
                ∙ ap (λ l. l ++ under) three.is ∙ append_assoc three.newer three.rest under

            upper : Lacking c a start (three.rest ++ under)
            upper = lacking_before c a start three.newer (three.rest ++ under) (subst (Lacking c a start) whole k)

            lower : Lacking c a start (one.rest ++ base)
            lower = lacking_before c a start two.rest (one.rest ++ base) (lacking_before c a start three.rest under upper)

            none_one : has (is_asking 0) one.newer ≡ false
            none_one = none_newer (is_asking 0) one.newer one.rest (sym (ap (has (is_asking 0)) one.is) ∙ none)

            none_low : has (is_asking 0) one.rest ≡ false
            none_low = none_older (is_asking 0) one.newer one.rest (sym (ap (has (is_asking 0)) one.is) ∙ none)

            none_top : has (is_asking 0) two.newer ≡ false
            none_top = none_newer (is_asking 0) two.newer two.rest (sym (ap (has (is_asking 0)) two.is) ∙ none_one)

            none_mid : has (is_asking 0) two.rest ≡ false
            none_mid = none_older (is_asking 0) two.newer two.rest (sym (ap (has (is_asking 0)) two.is) ∙ none_one)

            none_high : has (is_asking 0) three.rest ≡ false
            none_high = none_older (is_asking 0) three.newer three.rest (sym (ap (has (is_asking 0)) three.is) ∙ none_top)

            soon : LeadsIn a one.rest base
            soon = leads_soon c a start one.rest base lower late one.count some none_low

            last : LeadsIn a three.rest under
            last = leads_soon c a start three.rest under upper (let x = length-append two.rest (one.rest ++ base) in let y = length-append one.rest base in omega (arith, late, x, y)) three.count some none_high

            between : LeadsIn a one.rest base → LeadsIn a three.rest under → ⊥
            between s l = found (own_min a (s.below ++ base) s.min)
              where
                -- what comes from the one moment to the other
                stretch : List Event
                stretch = l.below ++ (two.rest ++ s.top)

                moment : l.below ++ under ≡ stretch ++ (s.below ++ base)
                moment =
                    ap (λ m. l.below ++ (two.rest ++ m)) (ap (λ m. m ++ base) s.is ∙ append_assoc s.top s.below base)
                    ∙ ap (λ m. l.below ++ m) (sym (append_assoc two.rest s.top (s.below ++ base)))
                    ∙ sym (append_assoc l.below (two.rest ++ s.top) (s.below ++ base))

                there : Lacking c a start (l.below ++ under)
                there = lacking_before c a start l.top (l.below ++ under) (subst (Lacking c a start) (ap (λ m. m ++ under) l.is ∙ append_assoc l.top l.below under) upper)

                silent : has (begins_leadership a) stretch ≡ false
                silent =
                    none_begins a stretch
                    (none_both (is_asking 0) l.below (two.rest ++ s.top) (none_older (is_asking 0) l.top l.below (sym (ap (has (is_asking 0)) l.is) ∙ none_high))
                    (none_both (is_asking 0) two.rest s.top none_mid (none_newer (is_asking 0) s.top s.below (sym (ap (has (is_asking 0)) s.is) ∙ none_low))))

                unnamed : was_unnamed c a (l.below ++ under) ≡ false
                unnamed =
                    let all : l.below ++ under ≡ (l.below ++ (two.rest ++ one.rest)) ++ base = ap (λ m. l.below ++ m) (sym (append_assoc two.rest one.rest base)) ∙ sym (append_assoc l.below (two.rest ++ one.rest) base) in
                    ap (was_unnamed c a) all
                    ∙ named_on c a start (l.below ++ (two.rest ++ one.rest)) base (subst (AtEachMoment (From start (λ now. is_named c a now ≡ true))) all there.named) late
                    (was_named c a start one.rest base lower late (let n = one.count in omega (arith, n, some)) none_low)

                found : OwnMin a (s.below ++ base) → ⊥
                found m =
                    let at : l.below ++ under ≡ (stretch ++ m.newer) ++ m.first ∷ m.older = moment ∙ ap (λ x. stretch ++ x) m.is ∙ sym (append_assoc stretch m.newer (m.first ∷ m.older)) in
                    let here = subst (Lacking c a start) at there in
                    let calm = calm_back c a start (stretch ++ m.newer) (m.first ∷ m.older) good large here (none_both (begins_leadership a) stretch m.newer silent m.same) (sym (ap (is_over a) at) ∙ l.on) (sym (ap (was_unnamed c a) at) ∙ unnamed) in
                    let last_known : length (known c a (stretch ++ (m.newer ++ m.first ∷ m.older))) ≤ length (known c a (window ++ base)) =
                    subst (λ x. length (known c a x) ≤ length (known c a (window ++ base))) (moment ∙ ap (λ x. stretch ++ x) m.is)
                    (subst (λ x. length (known c a (l.below ++ under)) ≤ length (known c a x)) (sym (whole ∙ ap (λ x. three.newer ++ x) (ap (λ x. x ++ under) l.is ∙ append_assoc l.top l.below under) ∙ sym (append_assoc three.newer l.top (l.below ++ under)))) (known_more c a (three.newer ++ l.top) (l.below ++ under))) in
                    let at2 : l.below ++ under ≡ stretch ++ (m.newer ++ m.first ∷ m.older) = moment ∙ ap (λ x. stretch ++ x) m.is in
                    let here2 = subst (Lacking c a start) at2 there in
                    let first = known_more c a s.below base in
                    let same = ap (λ x. length (known c a x)) m.is in
                    let few = quiet_missing c a (row_count c + reserve c) already missing m.first stretch m.newer m.older (progress_moments true c a (stretch ++ (m.newer ++ m.first ∷ m.older)) here2.led) (first_is_milestone c a m.first m.older m.min m.begun m.none) calm
                    (known_fits c a (stretch ++ (m.newer ++ m.first ∷ m.older)) good (last_moment (IsPossible c a) (stretch ++ (m.newer ++ m.first ∷ m.older)) here2.possible)) (omega (arith, knew, first, same)) (omega (arith, lacks, last_known)) in
                    let half = at_least_halves stretch (m.newer ++ m.first ∷ m.older) in
                    let y = length-append l.below (two.rest ++ s.top) in
                    let z = length-append two.rest s.top in
                    let n = two.count in
                    omega (arith, few, half, y, z, n)
