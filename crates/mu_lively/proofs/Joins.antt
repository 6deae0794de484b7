-- The count of steps of a late follower that grants to the leader, step by step.
use Rattle.std.proofs.Common.{◌≡◌, ◌≢◌, ℕ, ◌+◌, ◌<◌, ◌≤◌, inl, inr, Bool, true, false, ◌&&◌, List, ◌∷◌, length, None, Some, is_some, refl, sym, ap, subst, arith, true≢false}
use Rattle.std.specs.Prelude.{nat_le, nat_lt, not, ◌||◌}
use Rattle.std.proofs.lemmas.Bool.{and_left, and_right, cases_eq, cases_lt, false_from_ne_true, leb-true, lt-ltb, ne_eqb, or_left, or_right}
use Rattle.mu_model.specs.declared.config.Config.{Config}
use Rattle.mu_model.specs.declared.event.Answer.{Answer}
use Rattle.mu_model.specs.declared.event.Event.{Event}
use Rattle.mu_model.specs.declared.event.Verb.{Verb}
use Rattle.mu_model.specs.Diligence.{is_fuo_above}
use Rattle.mu_model.specs.Knowledge.{known}
use Rattle.mu_model.specs.Leaderships.{begins_leadership, is_member, is_over, noted_grant, proposal_number}
use Rattle.mu_model.specs.Steps.{is_fencing, is_fencing_verb, is_min_put, is_over_after}
use Rattle.mu_model.specs.Stretches.{is_replication}
use Rattle.mu_model.proofs.Basics.{same_number}
use Rattle.mu_model.specs.Histories.{event_by}
use Rattle.mu_pace.specs.Counters.{HasRoom, IsInTime, steps_left}
use Rattle.mu_pace.specs.Watches.{is_answer_to_welcome, is_welcoming, joining, turns_away}
use Rattle.mu_pace.proofs.Beside.{unallowed}
use Rattle.mu_pace.proofs.Countdowns.{countdowns_run}
use Rattle.mu_pace.proofs.Placed.{shut}
use Rattle.mu_pace.proofs.Rooms.{kinds_of_step}
use Rattle.mu_lead.specs.declared.place.Place.{Place}
use Rattle.mu_lead.specs.Beside.{is_beside}
use Rattle.mu_lively.specs.Welcomes.{JoinsAt, NoneWaits, WaitsForAsk, WaitsToJoin}
use Rattle.mu_lead.proofs.Asking.{begins_now}

-- if none waits it holds at each place
waits_here : (c : Config) (r p left : ℕ) (mine : List Event) → NoneWaits c r mine → WaitsToJoin c r mine p left
waits_here c r p left mine none = record { here = kinds_of_step.closed (joining c r p) left mine (none p); others = λ q other. none q }

pub joins_anywhere : (c : Config) (r : ℕ) (mine : List Event) (place : Place) → NoneWaits c r mine → JoinsAt c r mine place
joins_anywhere c r mine (Place.Ask p) none = record { first = λ begins q. kinds_of_step.closed (joining c r q) 1 mine (none q); later = λ other. none }
joins_anywhere c r mine (Place.LateMin p) none = waits_here c r p 4 mine none
joins_anywhere c r mine (Place.LateFuo p) none = waits_here c r p 3 mine none
joins_anywhere c r mine (Place.LateEnter p) none = waits_here c r p 2 mine none
joins_anywhere c r mine (Place.LatePut p) none = waits_here c r p 1 mine none
joins_anywhere c r mine place none = none

-- what doesn't read the fence of q welcomes nobody there
unfenced : (c : Config) (r q : ℕ) (mine : List Event) (e : Event) → is_fencing q e ≡ false → is_welcoming c r q mine e ≡ false
unfenced c r q mine e none = and_left (is_fencing q e) _ none

pub quiet_at : (c : Config) (r q : ℕ) (mine : List Event) (e : Event) → is_fencing q e ≡ false → steps_left (joining c r q) mine ≡ None → steps_left (joining c r q) (e ∷ mine) ≡ None
quiet_at c r q mine e none at = countdowns_run.joins.quiet c r q mine e (unfenced c r q mine e none) at

-- an ask that begins a leadership ends all waiting
pub none_begun : (c : Config) (r p : ℕ) (a : Answer) (mine : List Event) → p ≡ 0 → NoneWaits c r (event_by r (Verb.Ask p) a ∷ mine)
none_begun c r p a mine first q =
    let e = event_by r (Verb.Ask p) a in
    shut (joining c r q) mine e (unallowed (is_welcoming c r q) (λ now. 4) mine e refl)
    (or_left (begins_leadership r e) (turns_away c r (is_answer_to_welcome c r q) mine e) (subst (λ x. begins_leadership r (event_by r (Verb.Ask x) a) ≡ true) (sym first) (begins_now r a)))

pub none_asked : (c : Config) (r p : ℕ) (a : Answer) (mine : List Event) → WaitsForAsk c r mine p → NoneWaits c r (event_by r (Verb.Ask p) a ∷ mine)
none_asked c r p a mine at = elim (cases_eq p 0) [
  | inl first ↦ none_begun c r p a mine first
  | inr other ↦ λ q. quiet_at c r q mine (event_by r (Verb.Ask p) a) refl (at.later other q)
]

-- why a fence welcomes nobody
unnumbered : (a b d f g : Bool) → b ≡ false → (a && (b && (d && (f && g)))) ≡ false
unnumbered a b d f g none = and_right a (b && (d && (f && g))) (and_left b (d && (f && g)) none)

pub joined : (a b d f g : Bool) → f ≡ true → (a && (b && (d && (not f && g)))) ≡ false
joined a b d true g member = and_right a (b && (d && false)) (and_right b (d && false) (and_right d false refl))
joined a b d false g member = absurd (true≢false (sym member))

ungranted : (a b d f g : Bool) → g ≡ false → (a && (b && (d && (f && g)))) ≡ false
ungranted a b d f g none = and_right a (b && (d && (f && g))) (and_right b (d && (f && g)) (and_right d (f && g) (and_right f g none)))

-- a fence that is read if there is no number yet
pub none_numbered : (c : Config) (r p : ℕ) (a : Answer) (mine : List Event) → proposal_number r mine ≡ None → NoneWaits c r mine → NoneWaits c r (event_by r (Verb.Fence p) a ∷ mine)
none_numbered c r p a mine none at q =
    let e = event_by r (Verb.Fence p) a in
    countdowns_run.joins.quiet c r q mine e (unnumbered (is_fencing q e) (is_some (proposal_number r mine)) (not (is_over r mine)) (not (is_member r q mine)) (is_some (noted_grant r q (e ∷ mine))) (ap is_some none)) (at q)

-- the fence of another region
fenced_other : (p q : ℕ) → q ≢ p → is_fencing_verb q (Verb.Fence p) ≡ false
fenced_other p q other = ne_eqb p q (λ same. other (sym same))

-- the fence of a region that is no stranger, or doesn't grant
pub none_fenced : (c : Config) (r p : ℕ) (a : Answer) (mine : List Event) → is_welcoming c r p mine (event_by r (Verb.Fence p) a) ≡ false → NoneWaits c r mine → NoneWaits c r (event_by r (Verb.Fence p) a ∷ mine)
none_fenced c r p a mine none at q =
    let e = event_by r (Verb.Fence p) a in
    elim (cases_eq q p) [
      | inl same ↦ subst (λ x. steps_left (joining c r x) (e ∷ mine) ≡ None) (sym same) (countdowns_run.joins.quiet c r p mine e none (at p))
      | inr other ↦ quiet_at c r q mine e (fenced_other p q other) (at q)
    ]

-- whoever is welcomed has four steps
pub four_left : (c : Config) (r q : ℕ) (mine : List Event) (e : Event) → steps_left (joining c r q) mine ≡ None → HasRoom (joining c r q) 4 (e ∷ mine)
four_left c r q mine e none = go (is_welcoming c r q mine e) refl
  where
    go : (t : Bool) → is_welcoming c r q mine e ≡ t → HasRoom (joining c r q) 4 (e ∷ mine)
    go true welcome = countdowns_run.joins.welcome c r q mine e welcome none
    go false other = kinds_of_step.closed (joining c r q) 4 (e ∷ mine) (countdowns_run.joins.quiet c r q mine e other none)

-- the fence of a late follower
pub welcomed_or_not : (c : Config) (r p : ℕ) (a : Answer) (mine : List Event) (place : Place) → (is_some (noted_grant r p (event_by r (Verb.Fence p) a ∷ mine)) ≡ true → place ≡ Place.LateMin p) → NoneWaits c r mine
    → JoinsAt c r (event_by r (Verb.Fence p) a ∷ mine) place
welcomed_or_not c r p a mine place goes at = go (is_some (noted_grant r p (e ∷ mine))) refl
  where
    e : Event
    e = event_by r (Verb.Fence p) a

    go : (t : Bool) → is_some (noted_grant r p (e ∷ mine)) ≡ t → JoinsAt c r (e ∷ mine) place
    go true granted = subst (JoinsAt c r (e ∷ mine)) (sym (goes granted)) (record {
      here = four_left c r p mine e (at p);
      others = λ q other. quiet_at c r q mine e (fenced_other p q other) (at q);
    })
    go false none = joins_anywhere c r (e ∷ mine) place (none_fenced c r p a mine
        (ungranted (is_fencing p e) (is_some (proposal_number r mine)) (not (is_over r mine)) (not (is_member r p mine)) (is_some (noted_grant r p (e ∷ mine))) none) at)

-- what answers a late follower ends its waiting
pub answered : (c : Config) (r p left : ℕ) (verb : Verb) (a : Answer) (mine : List Event) → is_replication mine (event_by r verb a) ≡ true → ((q : ℕ) → is_fencing_verb q verb ≡ false) → is_answer_to_welcome c r p mine (event_by r verb a) ≡ true
    → WaitsToJoin c r mine p left → NoneWaits c r (event_by r verb a ∷ mine)
answered c r p left verb a mine turn plain met at q =
    let e = event_by r verb a in
    elim (cases_eq q p) [
      | inl same ↦ subst (λ x. steps_left (joining c r x) (e ∷ mine) ≡ None) (sym same) (countdowns_run.joins.answer c r p mine e turn met (unfenced c r p mine e (plain p)))
      | inr other ↦ quiet_at c r q mine e (plain q) (at.others q other)
    ]

-- another step takes one
pub waits_on : (c : Config) (r p left : ℕ) (verb : Verb) (a : Answer) (mine : List Event) → ((q : ℕ) → is_fencing_verb q verb ≡ false) → WaitsToJoin c r mine p (left + 1) → WaitsToJoin c r (event_by r verb a ∷ mine) p left
waits_on c r p left verb a mine plain at =
    let e = event_by r verb a in
    record {
      here = countdowns_run.joins.step c r p left mine e (unfenced c r p mine e (plain p)) at.here;
      others = λ q other. quiet_at c r q mine e (plain q) (at.others q other);
    }

pub over_answers : (c : Config) (r p : ℕ) (mine : List Event) (e : Event) → is_over r (e ∷ mine) ≡ true → is_answer_to_welcome c r p mine e ≡ true
over_answers c r p mine e over = or_right (is_min_put p e) _ (or_left (is_over_after r mine e) (is_fuo_above r p (length (known c r mine)) e) over)

pub above_number : (b x : ℕ) (over : Bool) → b < x → (nat_lt b x || over) ≡ true
above_number b x over more = rw (lt-ltb b x more) refl

-- its minimum
pub read_min : (c : Config) (r p b x : ℕ) (mine : List Event) (place : Place) → is_replication mine (event_by r (Verb.Min p) (Answer.Number x)) ≡ true → proposal_number r mine ≡ Some b → (x ≤ b → place ≡ Place.LateFuo p) → WaitsToJoin c r mine p 4
    → JoinsAt c r (event_by r (Verb.Min p) (Answer.Number x) ∷ mine) place
read_min c r p b x mine place turn numbered goes at =
    let e = event_by r (Verb.Min p) (Answer.Number x) in
    elim (cases_lt b x) [
      | inl more ↦ (let over : is_over r (e ∷ mine) ≡ true = rw (same_number r, numbered) (above_number b x (is_over r mine) more) in
          joins_anywhere c r (e ∷ mine) place (answered c r p 4 (Verb.Min p) (Answer.Number x) mine turn (λ q. refl) (over_answers c r p mine e over) at))
      | inr low ↦ subst (JoinsAt c r (e ∷ mine)) (sym (goes low)) (waits_on c r p 3 (Verb.Min p) (Answer.Number x) mine (λ q. refl) at)
    ]

-- its FUO
ahead_answers : (c : Config) (r p u : ℕ) (mine : List Event) → length (known c r mine) < u → is_answer_to_welcome c r p mine (event_by r (Verb.Fuo p) (Answer.Number u)) ≡ true
ahead_answers c r p u mine more =
    let e = event_by r (Verb.Fuo p) (Answer.Number u) in
    or_right (is_min_put p e) _ (or_right (is_over_after r mine e) (is_fuo_above r p (length (known c r mine)) e) above)
  where
    not_below : nat_le u (length (known c r mine)) ≡ false
    not_below = false_from_ne_true (nat_le u (length (known c r mine))) (λ is. let low = leb-true u (length (known c r mine)) is in omega (arith, low, more))

    above : is_fuo_above r p (length (known c r mine)) (event_by r (Verb.Fuo p) (Answer.Number u)) ≡ true
    above = rw (same_number r, same_number p) (rw not_below refl)

pub read_fuo : (c : Config) (r p u : ℕ) (mine : List Event) (place : Place) → is_replication mine (event_by r (Verb.Fuo p) (Answer.Number u)) ≡ true → (u ≤ length (known c r mine) → place ≡ Place.LateEnter p) → WaitsToJoin c r mine p 3
    → JoinsAt c r (event_by r (Verb.Fuo p) (Answer.Number u) ∷ mine) place
read_fuo c r p u mine place turn goes at =
    let e = event_by r (Verb.Fuo p) (Answer.Number u) in
    elim (cases_lt (length (known c r mine)) u) [
      | inl more ↦ joins_anywhere c r (e ∷ mine) place (answered c r p 3 (Verb.Fuo p) (Answer.Number u) mine turn (λ q. refl) (ahead_answers c r p u mine more) at)
      | inr low ↦ subst (JoinsAt c r (e ∷ mine)) (sym (goes low)) (waits_on c r p 2 (Verb.Fuo p) (Answer.Number u) mine (λ q. refl) at)
    ]

-- what another machine does in the background
beside_unfenced : (leading : Bool) (verb : Verb) (q : ℕ) → is_beside leading verb ≡ true → is_fencing_verb q verb ≡ false
beside_unfenced leading (Verb.Fence p) q beside = absurd (true≢false (sym beside))
beside_unfenced leading verb q beside = refl

room_beside : (c : Config) (r q left : ℕ) (leading : Bool) (verb : Verb) (answer : Answer) (mine : List Event) → is_replication mine (event_by r verb answer) ≡ false → is_beside leading verb ≡ true → HasRoom (joining c r q) left mine
    → HasRoom (joining c r q) left (event_by r verb answer ∷ mine)
room_beside c r q left leading verb answer mine off beside room =
    let e = event_by r verb answer in
    kinds_of_step.stays (joining c r q) left left mine e (unallowed (is_welcoming c r q) (λ now. 4) mine e (unfenced c r q mine e (beside_unfenced leading verb q beside))) off (omega arith) room

waits_beside : (c : Config) (r p left : ℕ) (leading : Bool) (verb : Verb) (answer : Answer) (mine : List Event) → is_replication mine (event_by r verb answer) ≡ false → is_beside leading verb ≡ true → WaitsToJoin c r mine p left
    → WaitsToJoin c r (event_by r verb answer ∷ mine) p left
waits_beside c r p left leading verb answer mine off beside at = record {
  here = room_beside c r p left leading verb answer mine off beside at.here;
  others = λ q other. quiet_at c r q mine (event_by r verb answer) (beside_unfenced leading verb q beside) (at.others q other);
}

none_beside : (c : Config) (r : ℕ) (leading : Bool) (verb : Verb) (answer : Answer) (mine : List Event) → is_beside leading verb ≡ true → NoneWaits c r mine → NoneWaits c r (event_by r verb answer ∷ mine)
none_beside c r leading verb answer mine beside at q = quiet_at c r q mine (event_by r verb answer) (beside_unfenced leading verb q beside) (at q)

pub joins_beside : (c : Config) (r : ℕ) (mine : List Event) (leading : Bool) (place : Place) (verb : Verb) (answer : Answer) → is_replication mine (event_by r verb answer) ≡ false → is_beside leading verb ≡ true → JoinsAt c r mine place → JoinsAt c r (event_by r verb answer ∷ mine) place
joins_beside c r mine leading (Place.Ask p) verb answer off beside at = record {
  first = λ begins q. room_beside c r q 1 leading verb answer mine off beside (at.first begins q);
  later = λ other. none_beside c r leading verb answer mine beside (at.later other);
}
joins_beside c r mine leading (Place.LateMin p) verb answer off beside at = waits_beside c r p 4 leading verb answer mine off beside at
joins_beside c r mine leading (Place.LateFuo p) verb answer off beside at = waits_beside c r p 3 leading verb answer mine off beside at
joins_beside c r mine leading (Place.LateEnter p) verb answer off beside at = waits_beside c r p 2 leading verb answer mine off beside at
joins_beside c r mine leading (Place.LatePut p) verb answer off beside at = waits_beside c r p 1 leading verb answer mine off beside at
joins_beside c r mine leading place verb answer off beside at = none_beside c r leading verb answer mine beside at

waits_in_time : (c : Config) (r p left : ℕ) (mine : List Event) → WaitsToJoin c r mine p (left + 1) → (q : ℕ) → IsInTime (joining c r q) mine
waits_in_time c r p left mine at q = elim (cases_eq q p) [
  | inl same ↦ subst (λ x. IsInTime (joining c r x) mine) (sym same) (kinds_of_step.less (joining c r p) (left + 1) 1 mine (omega arith) at.here)
  | inr other ↦ kinds_of_step.closed (joining c r q) 1 mine (at.others q other)
]

pub joins_in_time : (c : Config) (r : ℕ) (mine : List Event) (place : Place) → JoinsAt c r mine place → (p : ℕ) → IsInTime (joining c r p) mine
joins_in_time c r mine (Place.Ask p) at q = elim (cases_eq p 0) [
  | inl begins ↦ at.first begins q
  | inr other ↦ kinds_of_step.closed (joining c r q) 1 mine (at.later other q)
]
joins_in_time c r mine (Place.LateMin p) at q = waits_in_time c r p 3 mine at q
joins_in_time c r mine (Place.LateFuo p) at q = waits_in_time c r p 2 mine at q
joins_in_time c r mine (Place.LateEnter p) at q = waits_in_time c r p 1 mine at q
joins_in_time c r mine (Place.LatePut p) at q = waits_in_time c r p 0 mine at q
joins_in_time c r mine place at q = kinds_of_step.closed (joining c r q) 1 mine (at q)
