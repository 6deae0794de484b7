-- The last that asks in turn knows every command in time.
use Rattle.std.proofs.Common.{◌≡◌, ℕ, ◌+◌, ◌*◌, ◌<◌, ◌≤◌, ◌==◌, inl, inr, Bool, true, false, cond, Some, List, [], ◌∷◌, ◌++◌, length, refl, sym, ◌∙◌, ap, arith, subst, eqb-true, true≢false, append_assoc}
use Rattle.std.proofs.lemmas.Bool.{cases_lt, eq-eqb, and_from}
use Rattle.std.proofs.lemmas.List.{length-append}
use Rattle.mu_model.specs.declared.config.Config.{Config}
use Rattle.mu_model.specs.declared.event.Event.{Event}
use Rattle.mu_model.specs.Bounds.{cycle}
use Rattle.mu_model.specs.Contents.{IsConfig}
use Rattle.mu_model.specs.Diligence.{AsksInTime, GrantsInTime, ReadsInTime}
use Rattle.mu_model.specs.Ends.{outrun}
use Rattle.mu_model.specs.Histories.{has, part}
use Rattle.mu_model.specs.Leaderships.{begins_leadership, has_begun}
use Rattle.mu_model.specs.Legal.{IsLegalHistory}
use Rattle.mu_model.specs.Regions.{asks, fence_owner}
use Rattle.mu_model.specs.Steps.{has_min, is_asking, is_min, is_named, knows_all}
use Rattle.mu_model.proofs.Parts.{filter-append}
use Rattle.mu_agree.proofs.Legal.{legal_older}
use Rattle.mu_pace.specs.Collecting.{LeaderKeeps}
use Rattle.mu_agree.specs.Moments.{AtEachMoment, AtEachStep}
use Rattle.mu_pace.proofs.Counting.{last_moment, moments_before, steps_before, both_moments}
use Rattle.mu_alive.specs.Enough.{asking_steps}
use Rattle.mu_alive.specs.Last.{LastLeadersKnowAll, LeadsLast, NamesItself, last_granting_steps}
use Rattle.mu_alive.specs.Near.{IsNear}
use Rattle.mu_alive.specs.Turns.{AreInTurn, is_own_min}
use Rattle.mu_alive.proofs.Beginning.{CutAt, HasNoMin, MayConfirm, asked_once, asks_fail, cut_at, grants_before, has_to_ask_all, reads_before, two_asks, begins_now}
use Rattle.mu_alive.proofs.Cutting.{located, there_in_part}
use Rattle.mu_alive.proofs.Enough.{Leads, asks_before, begins_verb, few_after, fine_moments, lacks_moments, min_or_none, min_parts, outrun_before, asks_verb}
use Rattle.mu_alive.proofs.Moments.{AsksEach, From, asks_there, each_older}
use Rattle.mu_alive.proofs.TurnFences.{lead_on_moments, turns_lead_on}
use Rattle.mu_alive.proofs.TurnOwners.{IsHighest}
use Rattle.mu_alive.proofs.TurnGrants.{highest_older, hosts_grant}
use Rattle.mu_pace.proofs.Pasts.{has_newer, cut, Cut}
use Rattle.mu_agree.proofs.Landings.{has_since}
use Rattle.mu_alive.proofs.Noting.{notes_own}
use Rattle.mu_alive.proofs.Turns.{turns_before}

-- what holds of the whole history held of each beginning
pub last_before : (c : Config) (live : ℕ → Bool) (a start : ℕ) (newer older : List Event) → LeadsLast c live a start (newer ++ older) → LeadsLast c live a start older
last_before c live a start newer older last = record {
  inside = last.inside;
  lives = last.lives;
  majority = last.majority;
  legal = legal_older c newer older last.legal;
  turns = turns_before newer older last.turns;
  highest = highest_older a newer older last.highest;
  near = moments_before (IsNear c live a) newer older last.near;
  reads = λ r low lives. reads_before c r (part r newer) (part r older) (subst (ReadsInTime c r) (split r) (last.reads r low lives));
  grants = λ r low lives. grants_before c r (part r newer) (part r older) (subst (GrantsInTime c r) (split r) (last.grants r low lives));
  asks = asks_before c a (part a newer) (part a older) (subst (AsksInTime c a) (split a) last.asks);
  led = steps_before (LeaderKeeps c a) (part a newer) (part a older) (subst (AtEachStep (LeaderKeeps c a)) (split a) last.led);
  named = moments_before (NamesItself c a start) (part a newer) (part a older) (subst (AtEachMoment (NamesItself c a start)) (split a) last.named);
  going = outrun_before c a (part a newer) (part a older) (sym (ap (outrun c a) (split a)) ∙ last.going);
}
  where
    split : (r : ℕ) → part r (newer ++ older) ≡ part r newer ++ part r older
    split r = filter-append (λ e. e.by == r) newer older

-- it names itself after this many steps
pub late_named : (c : Config) (a start : ℕ) (mine : List Event) → AtEachMoment (NamesItself c a start) mine → AtEachMoment (From start (λ now. is_named c a now ≡ true)) mine
late_named c a start [] named = λ late. named (inl late)
late_named c a start (e ∷ mine) named = (late_named c a start mine named.0, λ late. named.1 (inl late))

-- who asked a region first has begun
begun_there : (a : ℕ) (past : List Event) → has (is_asking 0) (part a past) ≡ true → has_begun a past ≡ true
begun_there a = there_in_part (is_asking 0) (begins_leadership a) a (begins_now a)

-- once a has taken this many steps it has asked each region
abbrev pub AsksAllBy : Config → ℕ → ℕ → List Event → Type 0
AsksAllBy c a k past = (front rest : List Event) → past ≡ front ++ rest → length (part a rest) ≡ k → (q : ℕ) → q < c.replicas → has (is_asking q) (part a rest) ≡ true

-- so it has if this many steps in a row hold an ask of each
pub all_by_each : (c : Config) (a start : ℕ) (past : List Event) → AsksEach c start (part a past) → AsksAllBy c a (start + asking_steps c) past
all_by_each c a start past each front rest is count q low =
    ap (has (is_asking q)) bottom.is
    ∙ has_newer (is_asking q) bottom.newer bottom.rest
    (each q (part a front) bottom.newer bottom.rest (ap (part a) is ∙ filter-append (λ e. e.by == a) front rest ∙ ap (λ l. part a front ++ l) bottom.is)
    (let sum = ap length bottom.is ∙ length-append bottom.newer bottom.rest in let n = bottom.count in omega (arith, count, sum, n)) (let n = bottom.count in omega (arith, n)) low)
  where
    bottom : Cut start (part a rest)
    bottom = cut start (part a rest) (omega (arith, count))

-- this many steps later each live host has granted its region to it
pub owned : (c : Config) (live : ℕ → Bool) (a start p : ℕ) (past : List Event) → LeadsLast c live a start past → AsksAllBy c a (start + asking_steps c) past → p < c.replicas → live p ≡ true → start + last_granting_steps c a ≤ length (part a past) → fence_owner p past ≡ Some a
owned c live a start p past last asked low lives long =
    subst (λ l. fence_owner p l ≡ Some a) (sym first.is)
    (hosts_grant c a p first.newer first.rest last.inside (subst (IsLegalHistory c) first.is last.legal) (subst AreInTurn first.is last.turns) (subst (IsHighest a) first.is last.highest)
    (subst (λ l. ReadsInTime c p (part p l)) first.is (last.reads p low lives))
    (subst (λ l. GrantsInTime c p (part p l)) first.is (last.grants p low lives))
    (begun_there a first.rest (asks_there 0 some)) (asked_once a p first.rest (asks_there p low)) enough)
  where
    some : 0 < c.replicas
    some = (let l = last.inside in omega (arith, l))

    first : CutAt a (start + asking_steps c) past
    first = cut_at a (start + asking_steps c) past (omega (arith, long))

    asks_there : (q : ℕ) → q < c.replicas → has (is_asking q) (part a first.rest) ≡ true
    asks_there q inside = asked first.newer first.rest first.is first.count q inside

    enough : (a + 1) * (2 * cycle c) ≤ length (part p first.newer)
    enough =
        let at : AtEachMoment (IsNear c live a) (first.newer ++ first.rest) = subst (AtEachMoment (IsNear c live a)) first.is last.near in
        let late = (last_moment (IsNear c live a) (first.newer ++ first.rest) at p low lives).1 in
        let early = (last_moment (IsNear c live a) first.rest (moments_before (IsNear c live a) first.newer first.rest at) p low lives).0 in
        let same = ap (λ l. length (part a l)) first.is in
        let split = ap length (filter-append (λ e. e.by == p) first.newer first.rest) ∙ length-append (part p first.newer) (part p first.rest) in
        let count = first.count in
        omega (arith, late, early, same, split, count, long)

-- so it may be confirmed then
last_confirms : (c : Config) (live : ℕ → Bool) (a start : ℕ) (past newer between oldest : List Event) (first : Event) → IsConfig c → LeadsLast c live a start past → AsksEach c start (part a past) → past ≡ newer ++ (between ++ first ∷ oldest)
    → start + last_granting_steps c a ≤ length (part a oldest) → is_asking 0 first ≡ true → first.by ≡ a → MayConfirm c live a (between ++ first ∷ oldest)
last_confirms c live a start past newer between oldest first good last each is long asks own = record {
  on = turns_lead_on c (between ++ first ∷ oldest) a legal turns (let most = good.replicas.1 in omega (arith, most));
  notes = λ p low lives read. (notes_own c a p between oldest first asks (eq-eqb first.by a own) (owns p low lives) legal turns high).noted read;
}
  where
    legal : IsLegalHistory c (between ++ first ∷ oldest)
    legal = legal_older c newer (between ++ first ∷ oldest) (subst (IsLegalHistory c) is last.legal)

    turns : AreInTurn (between ++ first ∷ oldest)
    turns = turns_before newer (between ++ first ∷ oldest) (subst AreInTurn is last.turns)

    high : IsHighest a (between ++ first ∷ oldest)
    high = highest_older a newer (between ++ first ∷ oldest) (subst (IsHighest a) is last.highest)

    deeper : past ≡ (newer ++ (between ++ first ∷ [])) ++ oldest
    deeper = is ∙ ap (λ l. newer ++ l) (sym (append_assoc between (first ∷ []) oldest)) ∙ sym (append_assoc newer (between ++ first ∷ []) oldest)

    split : part a past ≡ part a (newer ++ (between ++ first ∷ [])) ++ part a oldest
    split = ap (part a) deeper ∙ filter-append (λ e. e.by == a) (newer ++ (between ++ first ∷ [])) oldest

    owns : (p : ℕ) → p < c.replicas → live p ≡ true → fence_owner p oldest ≡ Some a
    owns p low lives =
        owned c live a start p oldest (last_before c live a start (newer ++ (between ++ first ∷ [])) oldest (subst (LeadsLast c live a start) deeper last))
        (all_by_each c a start oldest (each_older c start (part a (newer ++ (between ++ first ∷ []))) (part a oldest) (subst (AsksEach c start) split each))) low lives long

-- and reads a minimum in time
pub last_begins : (c : Config) (live : ℕ → Bool) (a start : ℕ) (past : List Event) → IsConfig c → LeadsLast c live a start past → AsksEach c start (part a past) → AtEachMoment (λ mine. has_min a mine ≡ false) (part a past) → length (part a past) < start + last_granting_steps c a + 2 * asking_steps c
last_begins c live a start past good last each none = elim (cases_lt (length (part a past)) (start + last_granting_steps c a + 2 * asking_steps c)) [
  | inl few ↦ few
  | inr many ↦
      let named = late_named c a start (part a past) last.named in
      let l = last.inside in
      absurd (asks_fail c live a start (start + last_granting_steps c a) past last.inside last.lives last.majority (omega arith) last.led
      (both_moments (λ now. has_min a now ≡ false) (From start (λ now. is_named c a now ≡ true)) (HasNoMin c a start) (λ now m n late. (m, n late)) (part a past) none named)
      (λ newer between oldest first is long asks own. last_confirms c live a start past newer between oldest first good last each is long asks own)
      (two_asks c start (start + last_granting_steps c a) (part a past) each many (omega arith) (omega (arith, l))))
]

-- while a command is missing it asks again and again
each_lacking : (c : Config) (live : ℕ → Bool) (a start : ℕ) (past : List Event) → LeadsLast c live a start past → AtEachMoment (λ mine. knows_all c a mine ≡ false) (part a past) → AtEachMoment (λ mine. has_min a mine ≡ false) (part a past) → AsksEach c start (part a past)
each_lacking c live a start past last lacks none p newer window older is long late low =
    asks_there c start a p (part a past) newer window older last.asks is long late low
    (has_to_ask_all c a start (part a past) (late_named c a start (part a past) last.named) lacks none)

-- who leads has read a minimum
own_there : (a : ℕ) (past : List Event) → has is_min (part a past) ≡ true → has (is_own_min a) past ≡ true
own_there a = there_in_part is_min (is_own_min a) a (λ e own is. and_from (is_min e) (e.by == a) is (eq-eqb e.by a own))

-- it goes on naming itself, and asks no more
pub last_leads : (c : Config) (a start : ℕ) (past : List Event) → AreInTurn past → AtEachMoment (NamesItself c a start) (part a past) → AtEachStep (Leads c a) (part a past)
last_leads c a start [] turns named = tt
last_leads c a start (e ∷ past) turns named = go (e.by == a) refl named (λ before. last_leads c a start past turns.0 before)
  where
    go : (t : Bool) → (e.by == a) ≡ t → AtEachMoment (NamesItself c a start) (cond t (e ∷ part a past) (part a past)) → (AtEachMoment (NamesItself c a start) (part a past) → AtEachStep (Leads c a) (part a past)) → AtEachStep (Leads c a) (cond t (e ∷ part a past) (part a past))
    go false other named ih = ih named
    go true own named ih = (ih named.0, record { same = λ m. same m (begins_leadership a e) refl; named = λ m. last_moment (NamesItself c a start) (part a past) named.0 (inr (min_parts a (part a past) m).0) })
      where
        same : has_min a (part a past) ≡ true → (t : Bool) → begins_leadership a e ≡ t → t ≡ false
        same m true is =
            let read = own_there a past (has_since is_min (begins_leadership a) (part a past) (min_parts a (part a past) m).1) in
            let none = subst (λ i. has (is_own_min i) past ≡ false) (eqb-true e.by a own) (turns.1.once (asks_verb 0 e.verb (begins_verb a e.by e.verb e.answer is))) in
            absurd (true≢false (sym read ∙ none))
        same m false is = refl

-- few steps come before its first minimum
few_first : (c : Config) (live : ℕ → Bool) (a start : ℕ) (past newer older : List Event) (first : Event) → IsConfig c → LeadsLast c live a start past → knows_all c a (part a past) ≡ false → part a past ≡ newer ++ first ∷ older → AtEachMoment (λ now. has_min a now ≡ false) older
    → length older < start + last_granting_steps c a + 2 * asking_steps c
few_first c live a start past newer older first good last lacks is none =
    let at = located a past newer older first is in
    let whole : past ≡ (at.newer ++ first ∷ []) ++ at.older = at.is ∙ sym (append_assoc at.newer (first ∷ []) at.older) in
    let there = last_before c live a start (at.newer ++ first ∷ []) at.older (subst (LeadsLast c live a start) whole last) in
    let lacking = (moments_before (λ now. knows_all c a now ≡ false) newer (first ∷ older) (subst (AtEachMoment (λ now. knows_all c a now ≡ false)) is (lacks_moments c a (part a past) lacks))).0 in
    let same = ap length at.before in
    let lacks_there = subst (AtEachMoment (λ now. knows_all c a now ≡ false)) (sym at.before) lacking in
    let unread = subst (AtEachMoment (λ now. has_min a now ≡ false)) (sym at.before) none in
    let few = last_begins c live a start at.older good there (each_lacking c live a start at.older there lacks_there unread) unread in
    omega (arith, few, same)

pub last_knows_all : LastLeadersKnowAll
last_knows_all c live a start past good large last many = go (knows_all c a (part a past)) refl
  where
    few : c.replicas < 8
    few = (let most = good.replicas.1 in omega (arith, most))

    late : knows_all c a (part a past) ≡ false → ⊥
    late lacks = elim (min_or_none a (part a past)) [
      | inl none ↦ (let short = last_begins c live a start past good last (each_lacking c live a start past last (lacks_moments c a (part a past) lacks) none) none in omega (arith, short, many))
      | inr m ↦
          let before = few_first c live a start past m.newer m.older m.first good last lacks m.is m.none in
          let fine = fine_moments c a past last.legal (lead_on_moments c a past last.legal last.turns few) last.going lacks in
          let after = few_after c a (part a past) good large fine last.led (last_leads c a start past last.turns last.named) m in
          let all = ap length m.is ∙ length-append m.newer (m.first ∷ m.older) in
          omega (arith, before, after, all, many)
    ]

    go : (t : Bool) → knows_all c a (part a past) ≡ t → t ≡ true
    go true is = refl
    go false is = absurd (late is)
