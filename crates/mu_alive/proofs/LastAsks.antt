-- The ask after which a leadership endures, and after which none comes.
use Rattle.std.proofs.Common.{◌≡◌, ◌≢◌, ◌⊎◌, ℕ, suc, ◌+◌, ◌*◌, ◌<◌, ◌≤◌, ◌==◌, ◌&&◌, ◌||◌, not, inl, inr, Bool, true, false, cond, List, [], ◌∷◌, ◌++◌, length, refl, sym, ◌∙◌, ap, arith, subst, true≢false, append_assoc, nat_le}
use Rattle.std.specs.Prelude.{if◌then◌else◌}
use Rattle.std.proofs.lemmas.Bool.{cases_eq, cases_lt, eq-eqb}
use Rattle.std.proofs.lemmas.List.{length-append}
use Rattle.mu_model.specs.declared.config.Config.{Config}
use Rattle.mu_model.specs.declared.event.Event.{Event}
use Rattle.mu_model.specs.Again.{asks_again}
use Rattle.mu_model.specs.Contents.{IsConfig, row_count}
use Rattle.mu_model.specs.Diligence.{AsksInTime, has_to_ask, was_unnamed, is_confirmed}
use Rattle.mu_model.specs.Ends.{outrun}
use Rattle.mu_model.specs.Histories.{has, how_many, part, all_below}
use Rattle.mu_model.specs.Knowledge.{known}
use Rattle.mu_model.specs.Leaderships.{begins_leadership, has_begun, is_over, leadership}
use Rattle.mu_model.specs.Parts.{IsPossible}
use Rattle.mu_model.specs.Room.{reserve}
use Rattle.mu_model.specs.Scores.{leader}
use Rattle.mu_model.specs.Steps.{has_min, is_asking, is_min, is_named, knows_all, is_fencing}
use Rattle.mu_model.specs.Stretches.{each_step, is_replication}
use Rattle.mu_model.proofs.Parts.{filter-append}
use Rattle.mu_agree.proofs.Members.{over-part}
use Rattle.mu_pace.specs.Collecting.{LeaderKeepsBy}
use Rattle.mu_agree.specs.Moments.{AtEachMoment, AtEachStep}
use Rattle.mu_pace.proofs.Counting.{last_moment, moments_before, steps_before}
use Rattle.mu_pace.proofs.Cycles.{steps_give}
use Rattle.mu_pace.proofs.Positions.{known_fits}
use Rattle.mu_pace.proofs.Pasts.{has_later, has_newer, min_on}
use Rattle.mu_alive.specs.Enough.{HasLargeRing, asking_steps}
use Rattle.mu_alive.specs.Failing.{failing_steps}
use Rattle.mu_alive.specs.Missing.{waiting_for}
use Rattle.mu_alive.specs.Resuming.{FollowsListing, LeadsAfter}
use Rattle.mu_alive.specs.Settling.{KeepGoing}
use Rattle.mu_alive.proofs.Again.{keeps_wider, unless_again}
use Rattle.mu_alive.proofs.Anew.{Lacking, LeadsIn, asks_anew, asks_or_leads, min_here, named_on, none_begins, none_first, lacking_before}
use Rattle.mu_alive.proofs.Astray.{never_astray}
use Rattle.mu_alive.proofs.Beginning.{CutAt, HasNoMin, begins_now, cause_is, cut_at, unconfirmed, waits_for}
use Rattle.mu_alive.proofs.Cutting.{moments_of, Located, located}
use Rattle.mu_alive.proofs.Enduring.{Begins, endures, notes_live, upto}
use Rattle.mu_alive.proofs.Enough.{asks_before, going_moments, lacks_moments, outrun_before, possible_moments}
use Rattle.mu_alive.proofs.Missing.{above_it, known_more}
use Rattle.mu_alive.proofs.Moments.{From, halves, last_from, some_event}
use Rattle.mu_alive.proofs.Noting.{confirmed}
use Rattle.mu_alive.proofs.Settling.{goes_on_before, least_named}

-- of two ways to cut a list one is the deeper one
pub data CutsSo (newer older top before : List Event) : Type 0 where
  above : (between : List Event) → before ≡ between ++ older → newer ≡ top ++ between → CutsSo newer older top before
  under : (between : List Event) → older ≡ between ++ before → CutsSo newer older top before

pub cuts_so : (newer older top before : List Event) → newer ++ older ≡ top ++ before → CutsSo newer older top before
cuts_so newer older [] before is = CutsSo.above newer (sym is) refl
cuts_so [] older (e ∷ top) before is = CutsSo.under (e ∷ top) is
cuts_so (f ∷ newer) older (e ∷ top) before is = go (cuts_so newer older top before (let k = is in cc))
  where
    same : f ≡ e
    same = let k = is in cc

    go : CutsSo newer older top before → CutsSo (f ∷ newer) older (e ∷ top) before
    go (CutsSo.above between at split) = CutsSo.above between at (ap (λ x. x ∷ newer) same ∙ ap (λ l. e ∷ l) split)
    go (CutsSo.under between at) = CutsSo.under between at

-- the same of fewer events
pub leads_after_before : (c : Config) (live : ℕ → Bool) (ratio lag a : ℕ) (top newer older : List Event) → LeadsAfter true c live ratio lag a (top ++ newer) older → LeadsAfter true c live ratio lag a newer older
leads_after_before c live ratio lag a top newer older k = record {
  on = goes_on_before c live a top newer older k.on;
  keeps_up = λ q steps above window below lq hq is. k.keeps_up q steps (top ++ above) window below lq hq (ap (λ l. top ++ l) is ∙ sym (append_assoc top above (window ++ below)));
  asks = asks_before c a (part a top) (part a (newer ++ older)) (subst (AsksInTime c a) split k.asks);
  led = steps_before (LeaderKeepsBy true c a) (part a top) (part a (newer ++ older)) (subst (AtEachStep (LeaderKeepsBy true c a)) split k.led);
  listed = steps_before (FollowsListing c a) (part a top) (part a (newer ++ older)) (subst (AtEachStep (FollowsListing c a)) split k.listed);
  going = outrun_before c a (part a top) (part a (newer ++ older)) (sym (ap (outrun c a) split) ∙ k.going);
}
  where
    split : part a ((top ++ newer) ++ older) ≡ part a top ++ part a (newer ++ older)
    split = ap (part a) (append_assoc top newer older) ∙ filter-append (λ e. e.by == a) top (newer ++ older)

-- the same of a leader that may ask again
pub leads_wider : (again : Bool) (c : Config) (live : ℕ → Bool) (ratio lag a : ℕ) (newer older : List Event) → LeadsAfter again c live ratio lag a newer older → LeadsAfter true c live ratio lag a newer older
leads_wider again c live ratio lag a newer older k = record {
  on = k.on;
  keeps_up = k.keeps_up;
  asks = k.asks;
  led = steps_give (LeaderKeepsBy again c a) (LeaderKeepsBy true c a) (keeps_wider again c a) (part a (newer ++ older)) k.led;
  listed = k.listed;
  going = k.going;
}

-- the steps from which it names itself
abbrev pub settled_at : Config → ℕ → List Event → ℕ
settled_at c a older = length (part a older) + failing_steps c

pub lacking_of : (c : Config) (live : ℕ → Bool) (ratio lag a : ℕ) (newer older : List Event) → LeadsAfter true c live ratio lag a newer older → knows_all c a (part a (newer ++ older)) ≡ false → Lacking c a (settled_at c a older) (part a (newer ++ older))
lacking_of c live ratio lag a newer older k lacks = record {
  asks = k.asks;
  led = k.led;
  listed = k.listed;
  named = moments_of a (From (settled_at c a older) (λ now. is_named c a now ≡ true)) (newer ++ older) (λ top before is late. named top before late (cuts_so newer older top before is));
  lacks = lacks_moments c a (part a (newer ++ older)) lacks;
  going = going_moments c a (part a (newer ++ older)) k.going;
  possible = possible_moments c a (newer ++ older) k.on.legal;
}
  where
    named : (top before : List Event) → settled_at c a older ≤ length (part a before) → CutsSo newer older top before → is_named c a (part a before) ≡ true
    named top before late (CutsSo.above between at split) =
        let sum = ap (λ l. length (part a l)) at ∙ ap length (filter-append (λ e. e.by == a) between older) ∙ length-append (part a between) (part a older) in
        let on = goes_on_before c live a top between older (subst (λ l. KeepGoing c live a l older) split k.on) in
        eq-eqb (leader c a (part a before)) a (ap (λ l. leader c a (part a l)) at ∙ least_named c live a a between older on k.on.inside k.on.lives (omega (arith, sum, late)))
    named top before late (CutsSo.under between at) =
        let sum = ap (λ l. length (part a l)) at ∙ ap length (filter-append (λ e. e.by == a) between before) ∙ length-append (part a between) (part a before) in
        let some : 1 ≤ failing_steps c = omega arith in
        absurd (omega (arith, sum, late, some))

-- the oldest of some events that passes
pub record FirstMet (test : Event → Bool) (events : List Event) : Type 0 where
  pub newer : List Event
  pub event : Event
  pub older : List Event
  pub is : events ≡ newer ++ event ∷ older
  pub passes : test event ≡ true
  pub none : has test older ≡ false

pub first_met : (test : Event → Bool) (events : List Event) → has test events ≡ true → FirstMet test events
first_met test [] some = absurd (true≢false (sym some))
first_met test (e ∷ events) some = go (has test events) refl (first_met test events)
  where
    here : (t u : Bool) → u ≡ false → cond t true u ≡ true → t ≡ true
    here true u hu h = refl
    here false u hu h = absurd (true≢false (sym h ∙ hu))

    go : (t : Bool) → has test events ≡ t → (has test events ≡ true → FirstMet test events) → FirstMet test (e ∷ events)
    go true is ih = let k = ih is in record { newer = e ∷ k.newer; event = k.event; older = k.older; is = ap (λ l. e ∷ l) k.is; passes = k.passes; none = k.none }
    go false is ih = record { newer = []; event = e; older = events; is = refl; passes = here (test e) (has test events) is some; none = is }

-- the first time that a asks anew, and how much it got to know until then
pub record Asked (c : Config) (already a : ℕ) (up base : List Event) : Type 0 where
  pub above : List Event
  pub event : Event
  pub below : List Event
  pub is : up ≡ above ++ event ∷ below
  pub own : event.by ≡ a
  pub asks : is_asking 0 event ≡ true
  pub none : has (is_asking 0) (part a below) ≡ false
  pub gain : ℕ
  pub gained : length (known c a (part a (below ++ base))) ≡ already + gain
  pub fits : already + gain ≤ row_count c + reserve c
  pub left : length (part a up) ≤ length (part a above) + waiting_for c already gain

pub ask_next : (c : Config) (already missing : ℕ) (live : ℕ → Bool) (ratio lag a : ℕ) (up low older : List Event) → IsConfig c → HasLargeRing c → LeadsAfter true c live ratio lag a (up ++ low) older → knows_all c a (part a ((up ++ low) ++ older)) ≡ false → settled_at c a older ≤ length (part a (low ++ older)) → already ≤ length (known c a (part a (low ++ older))) → row_count c + reserve c ≤ already + missing → waiting_for c already missing ≤ length (part a up) → Asked c already a up (low ++ older)
ask_next c already missing live ratio lag a up low older good large k lacks late knew lacking_few long = there first (located a at.rest first.newer first.older first.event first.is)
  where
    at : CutAt a (waiting_for c already missing) up
    at = cut_at a (waiting_for c already missing) up long

    base : List Event
    base = part a (low ++ older)

    split : part a ((up ++ low) ++ older) ≡ part a at.newer ++ (part a at.rest ++ base)
    split =
        ap (part a) (append_assoc up low older) ∙ filter-append (λ e. e.by == a) up (low ++ older)
        ∙ ap (λ l. l ++ part a (low ++ older)) (ap (part a) at.is ∙ filter-append (λ e. e.by == a) at.newer at.rest)
        ∙ append_assoc (part a at.newer) (part a at.rest) (part a (low ++ older))

    lacking : Lacking c a (settled_at c a older) (part a at.rest ++ base)
    lacking = lacking_before c a (settled_at c a older) (part a at.newer) (part a at.rest ++ base) (subst (Lacking c a (settled_at c a older)) split (lacking_of c live ratio lag a (up ++ low) older k lacks))

    some : 0 < c.replicas
    some = let l = k.on.inside in omega (arith, l)

    fits_in : (now : List Event) → Lacking c a (settled_at c a older) now → length (known c a now) ≤ row_count c + reserve c
    fits_in now l = known_fits c a now good (last_moment (IsPossible c a) now l.possible)

    first : FirstMet (is_asking 0) (part a at.rest)
    first = first_met (is_asking 0) (part a at.rest) (asks_anew c already missing a (settled_at c a older) (part a at.rest) base good large lacking late some knew (let f = fits_in (part a at.rest ++ base) lacking in omega (arith, f, lacking_few)) (let n = at.count in omega (arith, n)))

    there : (m : FirstMet (is_asking 0) (part a at.rest)) → Located a at.rest m.event m.older → Asked c already a up (low ++ older)
    there m l = record {
      above = at.newer ++ l.newer;
      event = m.event;
      below = l.older;
      is = at.is ∙ ap (λ x. at.newer ++ x) l.is ∙ sym (append_assoc at.newer l.newer (m.event ∷ l.older));
      own = l.own;
      asks = m.passes;
      none = none;
      gain = more.0;
      gained = ap (λ x. length (known c a x)) same ∙ more.1;
      fits = (let f = fits_in now before in let g = more.1 in omega (arith, f, g));
      left =
          (let sum = ap (λ x. length (part a x)) at.is ∙ ap length (filter-append (λ e. e.by == a) at.newer at.rest) ∙ length-append (part a at.newer) (part a at.rest) in
          let rest = ap length parts ∙ length-append (part a (l.newer ++ m.event ∷ [])) (part a l.older) in
          let one = ap length (filter-append (λ e. e.by == a) l.newer (m.event ∷ [])) ∙ length-append (part a l.newer) (part a (m.event ∷ [])) in
          let own = ap (λ t. length (cond t (m.event ∷ []) [])) (eq-eqb m.event.by a l.own) in
          let top = ap length (filter-append (λ e. e.by == a) at.newer l.newer) ∙ length-append (part a at.newer) (part a l.newer) in
          omega (arith, sum, rest, one, own, top, few));
    }
      where
        now : List Event
        now = part a l.older ++ base

        none : has (is_asking 0) (part a l.older) ≡ false
        none = ap (has (is_asking 0)) l.before ∙ m.none

        parts : part a at.rest ≡ part a (l.newer ++ m.event ∷ []) ++ part a l.older
        parts = ap (part a) (l.is ∙ sym (append_assoc l.newer (m.event ∷ []) l.older)) ∙ filter-append (λ e. e.by == a) (l.newer ++ m.event ∷ []) l.older

        before : Lacking c a (settled_at c a older) now
        before = lacking_before c a (settled_at c a older) (part a (l.newer ++ m.event ∷ [])) now (subst (Lacking c a (settled_at c a older)) (ap (λ x. x ++ base) parts ∙ append_assoc (part a (l.newer ++ m.event ∷ [])) (part a l.older) base) lacking)

        same : part a (l.older ++ (low ++ older)) ≡ now
        same = filter-append (λ e. e.by == a) l.older (low ++ older)

        more : (d : ℕ) × (length (known c a now) ≡ already + d)
        more = above_it already (length (known c a now)) (let n = known_more c a (part a l.older) base in omega (arith, n, knew))

        few : length (part a l.older) < waiting_for c already more.0
        few = elim (cases_lt (length (part a l.older)) (waiting_for c already more.0)) [
          | inl less ↦ less
          | inr long_enough ↦ absurd (true≢false (sym (asks_anew c already more.0 a (settled_at c a older) (part a l.older) base good large before late some knew (let g = more.1 in omega (arith, g)) long_enough) ∙ none))
        ]

-- within the pace of asks each region is asked
pub since_within : (a : ℕ) (test : Event → Bool) (xs base : List Event) (e : Event) → begins_leadership a e ≡ true → has test (leadership a (xs ++ e ∷ base)) ≡ true → has test xs ≡ true
since_within a test [] base e begins some = absurd (true≢false (sym some ∙ ap (λ t. has test (cond t [] (e ∷ leadership a base))) begins))
since_within a test (x ∷ xs) base e begins some = go (begins_leadership a x) (test x) some (since_within a test xs base e begins)
  where
    go : (t u : Bool) → has test (cond t [] (x ∷ leadership a (xs ++ e ∷ base))) ≡ true → (has test (leadership a (xs ++ e ∷ base)) ≡ true → has test xs ≡ true) → cond (test x) true (has test xs) ≡ true
    go true u some ih = absurd (true≢false (sym some))
    go false u some ih = later (test x) some ih
      where
        later : (t : Bool) → cond t true (has test (leadership a (xs ++ e ∷ base))) ≡ true → (has test (leadership a (xs ++ e ∷ base)) ≡ true → has test xs ≡ true) → cond t true (has test xs) ≡ true
        later true some ih = refl
        later false some ih = ih some

-- before the first minimum of a leadership since some ask each region was asked
pub asked_by_min : (c : Config) (a p : ℕ) (xs base : List Event) (e : Event) → p < c.replicas → p ≢ 0 → AtEachStep (FollowsListing c a) (xs ++ e ∷ base) → begins_leadership a e ≡ true → has_min a (xs ++ e ∷ base) ≡ true → has (is_asking p) xs ≡ true
asked_by_min c a p [] base e low other listed begins min = absurd (true≢false (sym min ∙ ap (λ t. has_begun a (e ∷ base) && has is_min (cond t [] (e ∷ leadership a base))) begins ∙ shut (has_begun a (e ∷ base))))
  where
    shut : (t : Bool) → (t && false) ≡ false
    shut true = refl
    shut false = refl
asked_by_min c a p (x ∷ xs) base e low other listed begins min = go (has_min a (xs ++ e ∷ base)) refl (asked_by_min c a p xs base e low other listed.0 begins)
  where
    later : (t : Bool) → has (is_asking p) xs ≡ true → cond t true (has (is_asking p) xs) ≡ true
    later true h = refl
    later false h = h

    go : (t : Bool) → has_min a (xs ++ e ∷ base) ≡ t → (has_min a (xs ++ e ∷ base) ≡ true → has (is_asking p) xs ≡ true) → cond (is_asking p x) true (has (is_asking p) xs) ≡ true
    go true is ih = later (is_asking p x) (ih is)
    go false is ih =
        let k = min_here a x (xs ++ e ∷ base) min is in
        later (is_asking p x) (since_within a (is_asking p) xs base e begins (listed.1.asked p low other k.0 is))

pub asked_each : (c : Config) (a start p : ℕ) (window base : List Event) (e : Event) → Lacking c a start (window ++ e ∷ base) → start ≤ length (e ∷ base) → length window ≡ asking_steps c → p < c.replicas → begins_leadership a e ≡ true → is_asking 0 e ≡ true → has (is_asking p) (window ++ e ∷ []) ≡ true
asked_each c a start p window base e k late long low begins first = elim (cases_eq p 0) [
  | inl same ↦ subst (λ i. has (is_asking i) (window ++ e ∷ []) ≡ true) (sym same) (has_later (is_asking 0) window (e ∷ []) (ap (λ t. cond t true false) first))
  | inr other ↦ has_newer (is_asking p) window (e ∷ []) (go other (asks_or_leads c a start window (e ∷ base) k late))
]
  where
    go : p ≢ 0 → (each_step (λ before e. not (is_replication before e) || has_to_ask c a before) window (e ∷ base) ≡ true) ⊎ LeadsIn a window (e ∷ base) → has (is_asking p) window ≡ true
    go other (inl waits) = some_event (is_asking p) window (e ∷ base) (k.asks.asks p window (e ∷ base) low (record { newer = []; is = refl }) (halves (17 * c.replicas + 1) window (e ∷ base) long) waits)
    go other (inr leads) =
        let split : window ++ e ∷ base ≡ leads.top ++ (leads.below ++ e ∷ base) = ap (λ l. l ++ e ∷ base) leads.is ∙ append_assoc leads.top leads.below (e ∷ base) in
        let listed = steps_before (FollowsListing c a) leads.top (leads.below ++ e ∷ base) (subst (AtEachStep (FollowsListing c a)) split k.listed) in
        ap (has (is_asking p)) leads.is ∙ has_later (is_asking p) leads.top leads.below (asked_by_min c a p leads.below base e low other listed begins leads.min)

-- no minimum now, none since the leadership began
pub no_min_moments : (c : Config) (a start k : ℕ) (window base : List Event) → k ≡ length base → start ≤ length base → has_min a (window ++ base) ≡ false → has (begins_leadership a) window ≡ false → AtEachMoment (From start (λ now. is_named c a now ≡ true)) (window ++ base) → AtEachMoment (HasNoMin c a k) (window ++ base)
no_min_moments c a start k [] base is late none silent named = shorter base refl
  where
    here : (has_min a base ≡ false) × (is_named c a base ≡ true)
    here = (none, last_from start (λ now. is_named c a now ≡ true) [] base late named)

    vacuous : (xs : List Event) → length xs < k → AtEachMoment (HasNoMin c a k) xs
    vacuous [] few = λ many. absurd (omega (arith, few, many))
    vacuous (x ∷ xs) few = (vacuous xs (omega (arith, few)), λ many. absurd (omega (arith, few, many)))

    shorter : (xs : List Event) → xs ≡ base → AtEachMoment (HasNoMin c a k) xs
    shorter [] same = λ _. subst (λ l. (has_min a l ≡ false) × (is_named c a l ≡ true)) (sym same) here
    shorter (x ∷ xs) same = (vacuous xs (let l = ap length same in omega (arith, l, is)), λ _. subst (λ l. (has_min a l ≡ false) × (is_named c a l ≡ true)) (sym same) here)
no_min_moments c a start k (x ∷ window) base is late none silent named =
    let first = none_first (begins_leadership a) x window silent in (
      no_min_moments c a start k window base is late (before (has_min a (window ++ base)) refl first.0) first.1 named.0,
      λ _. (none, last_from start (λ now. is_named c a now ≡ true) (x ∷ window) base late named),
    )
  where
    before : (t : Bool) → has_min a (window ++ base) ≡ t → begins_leadership a x ≡ false → t ≡ false
    before true some same = absurd (true≢false (sym (min_on a x (window ++ base) same some) ∙ none))
    before false is same = refl

-- after a leadership that endures a asks no more
pub no_more : (c : Config) (live : ℕ → Bool) (a start : ℕ) (latest : List Event) (e : Event) (later newer older : List Event) (f : Event) → Begins c live a latest e later newer older → f.by ≡ a → is_asking 0 f ≡ true → has (is_asking 0) (part a latest) ≡ false
    → Lacking c a start (part a (f ∷ upto latest e later newer older)) → start ≤ length (part a (later ++ (newer ++ older))) → ⊥
no_more c live a start latest e later newer older f k own asks silent lacking late =
    let wait = waits_for c a (suc (length base)) window (e ∷ base) (omega arith) quiet (ap (λ t. cond t true (has_begun a base)) begins) (unconfirmed c a e base begins) sure in
    let none = sym (kept.confirmation.anew (begins_now a f own asks)) ∙ wait.1 in
    cc
  where
    window : List Event
    window = part a latest

    base : List Event
    base = part a (later ++ (newer ++ older))

    begins : begins_leadership a e ≡ true
    begins = begins_now a e k.own k.asks

    mine : part a (upto latest e later newer older) ≡ window ++ e ∷ base
    mine = filter-append (λ x. x.by == a) latest (e ∷ (later ++ (newer ++ older))) ∙ ap (λ l. window ++ l) (ap (λ t. cond t (e ∷ base) base) (eq-eqb e.by a k.own))

    all : Lacking c a start (f ∷ (window ++ e ∷ base))
    all = subst (Lacking c a start) (ap (λ t. cond t (f ∷ part a (upto latest e later newer older)) (part a (upto latest e later newer older))) (eq-eqb f.by a own) ∙ ap (λ l. f ∷ l) mine) lacking

    kept : LeaderKeepsBy true c a (window ++ e ∷ base) f
    kept = all.led.1

    none : has (begins_leadership a) window ≡ false
    none = none_begins a window silent

    on : is_over a (window ++ e ∷ base) ≡ false
    on = ap (is_over a) (sym mine) ∙ over-part a (upto latest e later newer older) ∙ endures c live a latest e later newer older k

    unnamed : was_unnamed c a (window ++ e ∷ base) ≡ false
    unnamed = named_on c a start window (e ∷ base) all.named.0 (omega (arith, late)) (go (is_replication base e) (is_named c a base) (begins_leadership a e) (last_from start (λ now. is_named c a now ≡ true) [] base late (moments_before (From start (λ now. is_named c a now ≡ true)) window (e ∷ base) all.named.0).0) begins)
      where
        go : (t u b : Bool) → u ≡ true → b ≡ true → (if t && not u then true else (if b then false else was_unnamed c a base)) ≡ false
        go true true true hu hb = refl
        go false u true hu hb = refl
        go t u false hu hb = absurd (true≢false (sym hb))
        go true false b hu hb = absurd (true≢false (sym hu))

    cause : (has_min a (window ++ e ∷ base) ≡ false) × (all_below c.replicas (λ p. nat_le 16 (how_many (is_fencing p) (leadership a (window ++ e ∷ base)))) ≡ true)
    cause = cause_is c a (window ++ e ∷ base) (unless_again c a (window ++ e ∷ base) (ap (asks_again c a) (sym mine) ∙ never_astray c live a latest e later newer older k) (kept.cause.anew asks)) (has_later (begins_leadership a) window (e ∷ base) (ap (λ t. cond t true (has_begun a base)) begins)) on unnamed

    quiet : AtEachMoment (HasNoMin c a (suc (length base))) (window ++ e ∷ base)
    quiet = no_min_moments c a start (suc (length base)) window (e ∷ base) refl (omega (arith, late)) cause.0 none all.named.0

    sure : is_confirmed c a (window ++ e ∷ base) ≡ true
    sure =
        ap (is_confirmed c a) (sym mine)
        ∙ confirmed c live a (upto latest e later newer older) k.on.inside k.on.lives k.on.majority (λ p low lives read. notes_live c live a latest e later newer older k p low lives read)
        (ap (λ l. all_below c.replicas (λ p. nat_le 16 (how_many (is_fencing p) (leadership a l)))) mine ∙ cause.1)
