-- A replica that names itself, and reads note the grants of a majority to it, reads a minimum in time.
use Rattle.std.proofs.Common.{◌≡◌, ℕ, suc, zero, ◌+◌, ◌-◌, ◌*◌, ◌<◌, ◌≤◌, ◌==◌, ◌&&◌, ◌||◌, not, inl, inr, Bool, true, false, cond, Some, None, List, [], ◌∷◌, ◌++◌, length, refl, sym, ◌∙◌, ap, arith, subst, true≢false, append_assoc}
use Rattle.std.specs.declared.option.Option.{Option}
use Rattle.std.specs.Prelude.{is_some, min, nat_le}
use Rattle.std.proofs.lemmas.Bool.{and_from, cases_lt, eq-eqb}
use Rattle.std.proofs.lemmas.List.{length-append}
use Rattle.mu_model.specs.declared.config.Config.{Config}
use Rattle.mu_model.specs.declared.event.Answer.{Answer}
use Rattle.mu_model.specs.declared.event.Event.{Event}
use Rattle.mu_model.specs.declared.event.Verb.{Verb}
use Rattle.mu_model.specs.Diligence.{GrantsInTime, ReadsInTime, has_to_ask, is_confirmed, may_ask_anew, was_unnamed}
use Rattle.mu_model.specs.Histories.{all_below, count_below, has, how_many, newer_or, newest, part}
use Rattle.mu_model.specs.Leaderships.{begins_leadership, fence_seen, grant_for, has_begun, is_over, leadership, majority_of, noted_grant}
use Rattle.mu_model.specs.Regions.{asks, is_ask_by}
use Rattle.mu_model.specs.Steps.{has_min, is_any_fencing, is_any_fencing_verb, is_asking, is_asking_verb, is_fencing, is_min, is_named, knows_all, leads}
use Rattle.mu_model.specs.Stretches.{is_replication}
use Rattle.mu_agree.proofs.Members.{over-part}
use Rattle.mu_pace.specs.Collecting.{LeaderKeeps}
use Rattle.mu_pace.specs.Counters.{fewer, left_after, steps_left}
use Rattle.mu_agree.specs.Moments.{AtEachMoment, AtEachStep}
use Rattle.mu_pace.specs.Watches.{confirming, is_confirming}
use Rattle.mu_pace.proofs.Counting.{last_moment, moments_before, steps_before, both_moments}
use Rattle.mu_alive.specs.Alone.{AsksAlone}
use Rattle.mu_alive.specs.Enough.{asking_steps}
use Rattle.mu_alive.proofs.Cutting.{located, met, longer, there_in_part}
use Rattle.mu_alive.proofs.Moments.{AsksEach, From}
use Rattle.mu_alive.proofs.Noting.{confirmed, reads_fence}
use Rattle.mu_pace.proofs.Pasts.{has_later, cut, some_counted}

-- what a host keeps it kept before
pub reads_before : (c : Config) (r : ℕ) (newer older : List Event) → ReadsInTime c r (newer ++ older) → ReadsInTime c r older
reads_before c r newer older held = record {
  beat = λ window o s l. held.beat window o (longer newer older window o s) l;
  beats = λ q window o low other s l. held.beats q window o low other (longer newer older window o s) l;
  asks = λ w window o low s l. held.asks w window o low (longer newer older window o s) l;
  apart = λ q later earlier between o s x y. held.apart q later earlier between o (longer newer older (later ∷ between ++ earlier ∷ []) o s) x y;
}

pub grants_before : (c : Config) (r : ℕ) (newer older : List Event) → GrantsInTime c r (newer ++ older) → GrantsInTime c r older
grants_before c r newer older held w e window o s = held w e window o (longer newer older window (e ∷ o) s)

pub alone_before : (a : ℕ) (newer older : List Event) → AsksAlone a (newer ++ older) → AsksAlone a older
alone_before a [] older alone = alone
alone_before a (e ∷ newer) older alone = alone_before a newer older alone.0

-- the history up to which a had taken k steps
pub record CutAt (a k : ℕ) (events : List Event) : Type 0 where
  pub newer : List Event
  pub rest : List Event
  pub is : events ≡ newer ++ rest
  pub count : length (part a rest) ≡ k

pub cut_at : (a k : ℕ) (events : List Event) → k ≤ length (part a events) → CutAt a k events
cut_at a k [] few = record { newer = []; rest = []; is = refl; count = omega (arith, few) }
cut_at a k (e ∷ events) few = elim (cases_lt (length (part a events)) k) [
  | inl more ↦ record { newer = []; rest = e ∷ events; is = refl; count = (let most = one_more (e.by == a) in omega (arith, few, more, most)) }
  | inr less ↦ let c = cut_at a k events less in record { newer = e ∷ c.newer; rest = c.rest; is = ap (λ l. e ∷ l) c.is; count = c.count }
]
  where
    one_more : (t : Bool) → length (cond t (e ∷ part a events) (part a events)) ≤ length (part a events) + 1
    one_more true = omega arith
    one_more false = omega arith

-- an ask in the part is one that the region counts
pub asked_once : (a p : ℕ) (past : List Event) → has (is_asking p) (part a past) ≡ true → 1 ≤ asks a p past
asked_once a p past some = some_counted (λ e. is_ask_by a p e.by e.verb) past (there_in_part (is_asking p) (λ e. is_ask_by a p e.by e.verb) a (λ e own asks. by_a e.by e.verb own asks) past some)
  where
    by_a : (by : ℕ) (verb : Verb) → by ≡ a → is_asking_verb p verb ≡ true → is_ask_by a p by verb ≡ true
    by_a by (Verb.Ask q) own asks = and_from (by == a) (q == p) (eq-eqb by a own) asks
    by_a by verb own asks = absurd (true≢false (sym asks))

-- an event that reads no fence and begins no leadership leaves what is noted
unfenced : (a p by : ℕ) (verb : Verb) (answer : Answer) → is_any_fencing_verb verb ≡ false → fence_seen a p by verb answer ≡ None
unfenced a p by (Verb.Fence q) answer h = absurd (true≢false h)
unfenced a p by verb answer h = refl

noted_still : (a p : ℕ) (e : Event) (past : List Event) → begins_leadership a e ≡ false → is_any_fencing e ≡ false → noted_grant a p (e ∷ past) ≡ noted_grant a p past
noted_still a p e past same none =
    ap (λ t. grant_for a (newest (λ f. fence_seen a p f.by f.verb f.answer) (cond t [] (e ∷ leadership a past)))) same
    ∙ ap (λ o. grant_for a (newer_or o (newest (λ f. fence_seen a p f.by f.verb f.answer) (leadership a past)))) (unfenced a p e.by e.verb e.answer none)

count_same : (n : ℕ) (f g : ℕ → Bool) → ((k : ℕ) → f k ≡ g k) → count_below n f ≡ count_below n g
count_same zero f g same = refl
count_same (suc n) f g same = rw (same n, count_same n f g same) refl

confirmed_still : (c : Config) (a : ℕ) (e : Event) (past : List Event) → begins_leadership a e ≡ false → is_any_fencing e ≡ false → is_confirmed c a (e ∷ past) ≡ is_confirmed c a past
confirmed_still c a e past same none =
    ap (λ o. is_some o && nat_le (majority_of c.replicas) (count_below c.replicas (λ p. is_some (noted_grant a p (e ∷ past))))) (noted_still a a e past same none)
    ∙ ap (λ k. is_some (noted_grant a a past) && nat_le (majority_of c.replicas) k)
    (count_same c.replicas (λ p. is_some (noted_grant a p (e ∷ past))) (λ p. is_some (noted_grant a p past)) (λ p. ap is_some (noted_still a p e past same none)))

pub unconfirmed : (c : Config) (a : ℕ) (e : Event) (past : List Event) → begins_leadership a e ≡ true → is_confirmed c a (e ∷ past) ≡ false
unconfirmed c a e past begins = ap (λ t. is_some (grant_for a (newest (λ f. fence_seen a a f.by f.verb f.answer) (cond t [] (e ∷ leadership a past)))) && nat_le (majority_of c.replicas) (count_below c.replicas (λ p. is_some (noted_grant a p (e ∷ past))))) begins

some_left : (n : ℕ) (o : Option ℕ) → (left : ℕ) × (fewer (Some n) o ≡ Some left)
some_left n None = (n, refl)
some_left n (Some x) = (min n x, refl)

still_left : (o : Option ℕ) (t : Bool) (x : ℕ) → (left : ℕ) × (fewer o (left_after false t 0 (Some x)) ≡ Some left)
still_left None true x = (x + 0 - 1, refl)
still_left None false x = (x + 0, refl)
still_left (Some n) true x = (min n (x + 0 - 1), refl)
still_left (Some n) false x = (min n (x + 0), refl)

-- from some moment on no minimum was read, and a named itself
abbrev pub HasNoMin : Config → ℕ → ℕ → List Event → Type 0
HasNoMin c a start now = start ≤ length now → (has_min a now ≡ false) × (is_named c a now ≡ true)

-- the last moment of a stretch is one
quiet_last : (c : Config) (a start : ℕ) (newer older : List Event) → start ≤ length older → AtEachMoment (HasNoMin c a start) (newer ++ older) → (has_min a (newer ++ older) ≡ false) × (is_named c a (newer ++ older) ≡ true)
quiet_last c a start newer older late none =
    let long = length-append newer older in
    last_moment (HasNoMin c a start) (newer ++ older) none (omega (arith, long, late))

-- while it is confirmed a count is open
pub waits_for : (c : Config) (a start : ℕ) (newer older : List Event) → start ≤ length older → AtEachMoment (HasNoMin c a start) (newer ++ older) → has_begun a older ≡ true → is_confirmed c a older ≡ false → is_confirmed c a (newer ++ older) ≡ true → (left : ℕ) × (steps_left (confirming c a) (newer ++ older) ≡ Some left)
waits_for c a start [] older late none begun not_yet is = absurd (true≢false (sym is ∙ not_yet))
waits_for c a start (e ∷ newer) older late none begun not_yet is = go (begins_leadership a e) refl (is_any_fencing e) refl (λ still. waits_for c a start newer older late none.0 begun not_yet still)
  where
    past : List Event
    past = newer ++ older

    begun_now : has_begun a past ≡ true
    begun_now = has_later (begins_leadership a) newer older begun

    here : (has_min a past ≡ false) × (is_named c a past ≡ true)
    here = quiet_last c a start newer older late none.0

    opens : is_any_fencing e ≡ true → is_confirming c a past e ≡ true
    opens h = all_four (has_begun a past) (is_any_fencing e) (has_min a past) (is_confirmed c a (e ∷ past)) begun_now h here.0 is
      where
        all_four : (a b m d : Bool) → a ≡ true → b ≡ true → m ≡ false → d ≡ true → (a && (b && (not m && d))) ≡ true
        all_four a b m d begun fence none now = rw (begun, fence, none, now) refl

    no_min : begins_leadership a e ≡ false → is_min e ≡ false
    no_min same = read (is_min e) refl
      where
        begun_still : has_begun a (e ∷ past) ≡ true
        begun_still = ap (λ t. cond t true (has_begun a past)) same ∙ begun_now

        read : (t : Bool) → is_min e ≡ t → t ≡ false
        read true h = absurd (true≢false (sym (and_from (has_begun a (e ∷ past)) (has is_min (leadership a (e ∷ past))) begun_still (ap (λ t. has is_min (cond t [] (e ∷ leadership a past))) same ∙ ap (λ t. cond t true (has is_min (leadership a past))) h)) ∙ (none.1 (let long = length-append newer older in omega (arith, long, late))).0))
        read false h = refl

    stays : (t n m f u : Bool) → n ≡ true → m ≡ false → f ≡ false → (t && (not n || (m || (f && u)))) ≡ false
    stays true n m f u hn hm hf = rw (hn, hm, hf) refl
    stays false n m f u hn hm hf = refl

    go : (t : Bool) → begins_leadership a e ≡ t → (u : Bool) → is_any_fencing e ≡ u → (is_confirmed c a past ≡ true → (left : ℕ) × (steps_left (confirming c a) past ≡ Some left)) → (left : ℕ) × (steps_left (confirming c a) (e ∷ past) ≡ Some left)
    go true ht u hu ih = absurd (true≢false (sym is ∙ unconfirmed c a e past ht))
    go false ht true hu ih =
        let k = some_left c.replicas (left_after ((confirming c a).closes past e) ((confirming c a).counts past e) 0 (steps_left (confirming c a) past)) in
        (k.0, ap (λ t. fewer (cond t (Some c.replicas) None) (left_after ((confirming c a).closes past e) ((confirming c a).counts past e) 0 (steps_left (confirming c a) past))) (opens hu) ∙ k.1)
    go false ht false hu ih =
        let x = ih (sym (confirmed_still c a e past ht hu) ∙ is) in
        let shut : (confirming c a).closes past e ≡ false = stays (is_replication past e) (is_named c a past) (is_min e) (is_any_fencing e) (not (is_confirmed c a (e ∷ past))) here.1 (no_min ht) hu in
        let k = still_left ((confirming c a).allows (e ∷ past)) (is_replication past e) x.0 in
        (k.0, ap (λ o. fewer ((confirming c a).allows (e ∷ past)) (left_after ((confirming c a).closes past e) (is_replication past e) 0 o)) x.1 ∙ ap (λ t. fewer ((confirming c a).allows (e ∷ past)) (left_after t (is_replication past e) 0 (Some x.0))) shut ∙ k.1)

-- since its ask no event of a comes while another is named
unnamed_since : (c : Config) (a start : ℕ) (newer older : List Event) (first : Event) → start ≤ length older → AtEachMoment (HasNoMin c a start) (newer ++ first ∷ older) → begins_leadership a first ≡ true → was_unnamed c a (newer ++ first ∷ older) ≡ false
unnamed_since c a start [] older first late none begins = go (is_replication older first) (is_named c a older) (begins_leadership a first) (quiet_last c a start [] older late none.0).1 begins
  where
    go : (t u b : Bool) → u ≡ true → b ≡ true → cond (t && not u) true (cond b false (was_unnamed c a older)) ≡ false
    go true true true hu hb = refl
    go false u true hu hb = refl
    go t u false hu hb = absurd (true≢false (sym hb))
    go true false b hu hb = absurd (true≢false (sym hu))
unnamed_since c a start (e ∷ newer) older first late none begins =
    go (is_replication past e) (is_named c a past) (begins_leadership a e) (quiet_last c a start newer (first ∷ older) (omega (arith, late)) none.0).1 (unnamed_since c a start newer older first late none.0 begins)
  where
    past : List Event
    past = newer ++ first ∷ older

    go : (t u b : Bool) → u ≡ true → was_unnamed c a past ≡ false → cond (t && not u) true (cond b false (was_unnamed c a past)) ≡ false
    go true true true h ih = refl
    go true true false h ih = ih
    go true false b h ih = absurd (true≢false (sym h))
    go false u true h ih = refl
    go false u false h ih = ih

-- an ask anew has only one cause
pub cause_is : (c : Config) (a : ℕ) (mine : List Event) → may_ask_anew c a mine ≡ true → has_begun a mine ≡ true → is_over a mine ≡ false → was_unnamed c a mine ≡ false
    → (has_min a mine ≡ false) × (all_below c.replicas (λ p. nat_le 16 (how_many (is_fencing p) (leadership a mine))) ≡ true)
cause_is c a mine may begun on named = go (has_begun a mine) (is_over a mine) (was_unnamed c a mine) (has_min a mine) (all_below c.replicas (λ p. nat_le 16 (how_many (is_fencing p) (leadership a mine)))) begun on named may
  where
    go : (b o u m f : Bool) → b ≡ true → o ≡ false → u ≡ false → (not b || (o || (u || (not m && f)))) ≡ true → (m ≡ false) × (f ≡ true)
    go true false false false f hb ho hu may = (refl, may)
    go true false false true f hb ho hu may = absurd (true≢false (sym may))
    go false o u m f hb ho hu may = absurd (true≢false (sym hb))
    go true true u m f hb ho hu may = absurd (true≢false ho)
    go true false true m f hb ho hu may = absurd (true≢false hu)

-- the first ask of a region begins a leadership
pub begins_now : (a : ℕ) (e : Event) → e.by ≡ a → is_asking 0 e ≡ true → begins_leadership a e ≡ true
begins_now a e own asks = go e.by e.verb own asks
  where
    go : (by : ℕ) (verb : Verb) → by ≡ a → is_asking_verb 0 verb ≡ true → begins_leadership a (record { by = by; verb = verb; answer = e.answer }) ≡ true
    go by (Verb.Ask q) own asks = and_from (by == a) (q == 0) (eq-eqb by a own) asks
    go by verb own asks = absurd (true≢false (sym asks))

-- the last step of a journal, and those before
step_at : (P : List Event → Event → Type 0) (newer older : List Event) (e : Event) → AtEachStep P (newer ++ e ∷ older) → P older e
step_at P newer older e held = (steps_before P newer (e ∷ older) held).1

-- two first asks of a journal, the earlier one after this many steps
pub record TwoAsks (k : ℕ) (mine : List Event) : Type 0 where
  newer : List Event
  later : Event
  between : List Event
  first : Event
  older : List Event
  is : mine ≡ newer ++ later ∷ (between ++ first ∷ older)
  asks_later : is_asking 0 later ≡ true
  asks_first : is_asking 0 first ≡ true
  long : k ≤ length older

-- a stretch holds an ask, after this many steps of its journal
record OneAsk (mine rest : List Event) (k : ℕ) : Type 0 where
  newer : List Event
  asked : Event
  older : List Event
  is : mine ≡ newer ++ asked ∷ (older ++ rest)
  asks : is_asking 0 asked ≡ true
  long : length mine ≤ length newer + k + length rest

one_ask : (c : Config) (start : ℕ) (mine newer rest : List Event) → AsksEach c start mine → mine ≡ newer ++ rest → asking_steps c ≤ length newer → start ≤ length rest → 0 < c.replicas → OneAsk mine rest (asking_steps c)
one_ask c start mine newer rest each is long late some =
    let k = cut (asking_steps c) newer long in
    let at : mine ≡ k.newer ++ (k.rest ++ rest) = is ∙ ap (λ l. l ++ rest) k.is ∙ append_assoc k.newer k.rest rest in
    let m = met (is_asking 0) k.rest (each 0 k.newer k.rest rest at k.count late some) in
    let split = ap length at ∙ length-append k.newer (k.rest ++ rest) in
    let rests = length-append k.rest rest in
    let both = length-append k.newer m.newer in
    let n = k.count in
    record {
      newer = k.newer ++ m.newer;
      asked = m.event;
      older = m.older;
      is = at ∙ ap (λ l. k.newer ++ (l ++ rest)) m.is ∙ ap (λ l. k.newer ++ l) (append_assoc m.newer (m.event ∷ m.older) rest) ∙ sym (append_assoc k.newer m.newer (m.event ∷ (m.older ++ rest)));
      asks = m.passes;
      long = omega (arith, split, rests, both, n);
    }

pub two_asks : (c : Config) (start k : ℕ) (mine : List Event) → AsksEach c start mine → k + 2 * asking_steps c ≤ length mine → start ≤ k → 0 < c.replicas → TwoAsks k mine
two_asks c start k mine each many after some =
    let bottom = cut k mine (omega (arith, many)) in
    let l = ap length bottom.is ∙ length-append bottom.newer bottom.rest in
    let n = bottom.count in
    let first = one_ask c start mine bottom.newer bottom.rest each bottom.is (omega (arith, many, l, n)) (omega (arith, n, after)) some in
    let enough = first.long in
    let more = length-append first.older bottom.rest in
    let second = one_ask c start mine first.newer (first.asked ∷ (first.older ++ bottom.rest)) each first.is (omega (arith, many, n, enough)) (omega (arith, n, after, more)) some in
    record {
      newer = second.newer;
      later = second.asked;
      between = second.older;
      first = first.asked;
      older = first.older ++ bottom.rest;
      is = second.is;
      asks_later = second.asks;
      asks_first = first.asks;
      long = omega (arith, more, n);
    }

-- an ask at which the replica is confirmed keeps no leader's pace
no_ask : (c : Config) (a start : ℕ) (between older : List Event) (later first : Event) → LeaderKeeps c a (between ++ first ∷ older) later → start ≤ length older → AtEachMoment (HasNoMin c a start) (between ++ first ∷ older) → begins_leadership a first ≡ true → begins_leadership a later ≡ true
    → is_confirmed c a (between ++ first ∷ older) ≡ true → ⊥
no_ask c a start between older later first kept late quiet begins anew is =
    let k = waits_for c a start between (first ∷ older) (omega (arith, late)) quiet (ap (λ t. cond t true (has_begun a older)) begins) (unconfirmed c a first older begins) is in
    let none = sym (kept.confirmation.anew anew) ∙ k.1 in
    cc

-- what holds if a asks once more: its leadership isn't over, and reads note the grants of the live
pub record MayConfirm (c : Config) (live : ℕ → Bool) (a : ℕ) (now : List Event) : Type 0 where
  pub on : is_over a now ≡ false
  pub notes : (p : ℕ) → p < c.replicas → live p ≡ true → has (reads_fence a p) (leadership a now) ≡ true → is_some (noted_grant a p now) ≡ true

-- so such a replica doesn't ask twice then
not_twice : (c : Config) (live : ℕ → Bool) (a start : ℕ) (between middle oldest : List Event) (later first : Event) → a < c.replicas → live a ≡ true → majority_of c.replicas ≤ count_below c.replicas live → MayConfirm c live a (between ++ first ∷ oldest) → part a (between ++ first ∷ oldest) ≡ middle ++ first ∷ part a oldest
    → start ≤ length (part a oldest) → AtEachMoment (HasNoMin c a start) (middle ++ first ∷ part a oldest) → LeaderKeeps c a (middle ++ first ∷ part a oldest) later → is_asking 0 later ≡ true → is_asking 0 first ≡ true → later.by ≡ a → first.by ≡ a → ⊥
not_twice c live a start between middle oldest later first inside lives majority may mine late quiet kept asks_later asks_first own_later own_first =
    no_ask c a start middle (part a oldest) later first kept late quiet begins (begins_now a later own_later asks_later)
    (ap (is_confirmed c a) (sym mine) ∙ confirmed c live a (between ++ first ∷ oldest) inside lives majority may.notes (ap (λ l. all_below c.replicas (λ p. nat_le 16 (how_many (is_fencing p) (leadership a l)))) mine ∙ cause.1))
  where
    begins : begins_leadership a first ≡ true
    begins = begins_now a first own_first asks_first

    begun : has_begun a (middle ++ first ∷ part a oldest) ≡ true
    begun = has_later (begins_leadership a) middle (first ∷ part a oldest) (ap (λ t. cond t true (has_begun a (part a oldest))) begins)

    on : is_over a (middle ++ first ∷ part a oldest) ≡ false
    on = ap (is_over a) (sym mine) ∙ over-part a (between ++ first ∷ oldest) ∙ may.on

    cause : (has_min a (middle ++ first ∷ part a oldest) ≡ false) × (all_below c.replicas (λ p. nat_le 16 (how_many (is_fencing p) (leadership a (middle ++ first ∷ part a oldest)))) ≡ true)
    cause = cause_is c a (middle ++ first ∷ part a oldest) (kept.cause.anew asks_later) begun on (unnamed_since c a start middle (part a oldest) first late quiet begins)

pub has_to_ask_all : (c : Config) (a start : ℕ) (mine : List Event) → AtEachMoment (From start (λ now. is_named c a now ≡ true)) mine → AtEachMoment (λ now. knows_all c a now ≡ false) mine → AtEachMoment (λ now. has_min a now ≡ false) mine → AtEachMoment (From start (λ now. has_to_ask c a now ≡ true)) mine
has_to_ask_all c a start mine named lacks none =
    both_moments (From start (λ now. is_named c a now ≡ true)) (λ now. (not (knows_all c a now) && not (leads a now)) ≡ true) (From start (λ now. has_to_ask c a now ≡ true)) (λ now n m late. and_from (is_named c a now) (not (knows_all c a now) && not (leads a now)) (n late) m) mine named
    (both_moments (λ now. knows_all c a now ≡ false) (λ now. has_min a now ≡ false) (λ now. (not (knows_all c a now) && not (leads a now)) ≡ true) (λ now k m. both (knows_all c a now) (has_min a now) (is_over a now) k m) mine lacks none)
  where
    both : (k m o : Bool) → k ≡ false → m ≡ false → (not k && not (m && not o)) ≡ true
    both k m o hk hm = rw (hk, hm) refl

-- the two asks in the whole history
pub asks_fail : (c : Config) (live : ℕ → Bool) (a start k : ℕ) (past : List Event) → a < c.replicas → live a ≡ true → majority_of c.replicas ≤ count_below c.replicas live → start ≤ k → AtEachStep (LeaderKeeps c a) (part a past) → AtEachMoment (HasNoMin c a start) (part a past)
    → ((newer between oldest : List Event) (first : Event) → past ≡ newer ++ (between ++ first ∷ oldest) → k ≤ length (part a oldest) → is_asking 0 first ≡ true → first.by ≡ a → MayConfirm c live a (between ++ first ∷ oldest)) → TwoAsks k (part a past) → ⊥
asks_fail c live a start k past inside lives majority after led quiet may two =
    let late = located a past two.newer (two.between ++ two.first ∷ two.older) two.later two.is in
    let soon = located a late.older two.between two.older two.first late.before in
    let whole : past ≡ (late.newer ++ two.later ∷ []) ++ (soon.newer ++ two.first ∷ soon.older) = late.is ∙ ap (λ l. late.newer ++ two.later ∷ l) soon.is ∙ sym (append_assoc late.newer (two.later ∷ []) (soon.newer ++ two.first ∷ soon.older)) in
    let mine : part a (soon.newer ++ two.first ∷ soon.older) ≡ two.between ++ two.first ∷ part a soon.older = ap (part a) (sym soon.is) ∙ late.before ∙ ap (λ l. two.between ++ two.first ∷ l) (sym soon.before) in
    let there : part a past ≡ two.newer ++ two.later ∷ (two.between ++ two.first ∷ part a soon.older) = two.is ∙ ap (λ l. two.newer ++ two.later ∷ (two.between ++ two.first ∷ l)) (sym soon.before) in
    let kept = step_at (LeaderKeeps c a) two.newer (two.between ++ two.first ∷ part a soon.older) two.later (subst (AtEachStep (LeaderKeeps c a)) there led) in
    let still = (moments_before (HasNoMin c a start) two.newer (two.later ∷ (two.between ++ two.first ∷ part a soon.older)) (subst (AtEachMoment (HasNoMin c a start)) there quiet)).0 in
    let long = two.long in
    let same = ap length soon.before in
    not_twice c live a start soon.newer two.between soon.older two.later two.first inside lives majority (may (late.newer ++ two.later ∷ []) soon.newer soon.older two.first whole (omega (arith, long, same)) two.asks_first soon.own) mine (omega (arith, long, same, after)) still kept two.asks_later two.asks_first late.own soon.own
