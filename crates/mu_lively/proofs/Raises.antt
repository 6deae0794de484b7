-- The count of steps after a commit, step by step.
use Rattle.std.proofs.Common.{◌≡◌, ℕ, ◌<◌, ◌≤◌, Bool, true, false, ◌&&◌, ◌==◌, List, ◌∷◌, length, None, Some, refl, sym, subst, arith, true≢false}
use Rattle.std.specs.Prelude.{if◌then◌else◌, nat_le, nat_lt}
use Rattle.std.specs.declared.option.Option.{Option}
use Rattle.std.proofs.lemmas.Bool.{le-leb, ne_eqb}
use Rattle.mu_model.specs.declared.config.Config.{Config}
use Rattle.mu_model.specs.declared.event.Answer.{Answer}
use Rattle.mu_model.specs.declared.event.Event.{Event}
use Rattle.mu_model.specs.declared.event.Verb.{Verb}
use Rattle.mu_model.specs.Bounds.{members}
use Rattle.mu_model.specs.Knowledge.{commits, grown, known}
use Rattle.mu_model.specs.Leaderships.{is_member}
use Rattle.mu_model.specs.Parts.{IsPossible}
use Rattle.mu_model.specs.Steps.{commits_more}
use Rattle.mu_model.specs.Stretches.{is_replication}
use Rattle.mu_model.proofs.Basics.{same_number, false_and}
use Rattle.mu_model.specs.Histories.{event_by}
use Rattle.mu_pace.specs.Countdowns.{AreRaisedBelow}
use Rattle.mu_pace.specs.Counters.{IsInTime}
use Rattle.mu_pace.specs.Members.{IsNextMember, members_from}
use Rattle.mu_pace.specs.Watches.{raising}
use Rattle.mu_pace.proofs.Beside.{not_more, unallowed}
use Rattle.mu_pace.proofs.Countdowns.{countdowns_run}
use Rattle.mu_pace.proofs.Members.{counts_of_members}
use Rattle.mu_pace.proofs.Rooms.{kinds_of_step}
use Rattle.mu_lead.specs.declared.place.Place.{Place}
use Rattle.mu_lead.specs.Beside.{is_beside}
use Rattle.mu_lead.specs.Leading.{end_of}
use Rattle.mu_lively.specs.Raising.{IsRaisedEverywhere, RaisesAt}
use Rattle.mu_lead.specs.Standing.{At}
use Rattle.mu_lead.proofs.Puts.{member_within}

pub raised_anywhere : (c : Config) (r : ℕ) (mine : List Event) (place : Place) → IsRaisedEverywhere c r mine → RaisesAt c r mine place
raised_anywhere c r mine (Place.Raise p) at = record { done = λ q low. at q; room = λ q. kinds_of_step.closed (raising c r q) (members_from c r p mine) mine (at q) }
raised_anywhere c r mine place at = at

-- a step that commits nothing
pub raised_on : (c : Config) (r : ℕ) (mine : List Event) (e : Event) → commits_more c r mine e ≡ false → IsRaisedEverywhere c r mine → IsRaisedEverywhere c r (e ∷ mine)
raised_on c r mine e none at q = countdowns_run.raises.quiet c r q mine e none (at q)

-- a put at a position that is known commits nothing
known_slot : (xs : List (ℕ × ℕ)) (x : ℕ × ℕ) (a b all : Bool) → b ≡ false → nat_lt (length xs) (length (grown xs (if a && (b && all) then Some x else None))) ≡ false
known_slot xs x true b all h = rw h (not_more (length xs))
known_slot xs x false b all h = not_more (length xs)

pub copy_commits_none : (c : Config) (r p i b v : ℕ) (a : Answer) (mine : List Event) → i < end_of c r mine → commits_more c r mine (event_by r (Verb.PutSlot p i b v) a) ≡ false
copy_commits_none c r p i b v Answer.Done mine low = known_slot (commits c r mine) (i, v) (r == r) (i == length (known c r mine)) _ (ne_eqb i (length (known c r mine)) (λ same. omega (arith, low, same)))
copy_commits_none c r p i b v a mine low = not_more (length (commits c r mine))

-- a commit: the first member is next
pub raises_committed : (c : Config) (r q : ℕ) (mine : List Event) (e : Event) → commits_more c r mine e ≡ true → ((k : ℕ) → k < q → is_member r k (e ∷ mine) ≡ false) → IsRaisedEverywhere c r mine → RaisesAt c r (e ∷ mine) (Place.Raise q)
raises_committed c r q mine e more below at =
    let none = counts_of_members.none_below c r q (e ∷ mine) below in
    let all = counts_of_members.all c r q (e ∷ mine) in
    let same : members c r (e ∷ mine) ≡ members_from c r q (e ∷ mine) = omega (arith, none, all) in
    subst (λ n. AreRaisedBelow c r q n (e ∷ mine)) same (countdowns_run.raises.commit c r q mine e more at below)

-- the FUO of p was raised to all that is known
raise_full : (p u n : ℕ) → n ≤ u → ((p == p) && nat_le n u) ≡ true
raise_full p u n low = rw (same_number p) (le-leb n u low)

-- the next member's is
pub raises_member : (c : Config) (r p q u : ℕ) (mine : List Event) → is_replication mine (event_by r (Verb.RaiseFuo p u) Answer.Done) ≡ true → length (known c r mine) ≤ u → IsNextMember c r p q mine → RaisesAt c r mine (Place.Raise p)
    → RaisesAt c r (event_by r (Verb.RaiseFuo p u) Answer.Done ∷ mine) (Place.Raise q)
raises_member c r p q u mine turn full next at =
    let one = counts_of_members.next c r p q mine next in
    countdowns_run.raises.raise c r p q (members_from c r q mine) mine (event_by r (Verb.RaiseFuo p u) Answer.Done) (subst (λ n. AreRaisedBelow c r p n mine) one at) turn (raise_full p u (length (known c r mine)) full) (not_more (length (commits c r mine))) next.between

-- or every member's was
pub raises_last : (c : Config) (r p u : ℕ) (place : Place) (mine : List Event) → IsPossible c r (event_by r (Verb.RaiseFuo p u) Answer.Done ∷ mine) → is_replication mine (event_by r (Verb.RaiseFuo p u) Answer.Done) ≡ true → length (known c r mine) ≤ u → p < c.replicas → is_member r p mine ≡ true
    → ((k : ℕ) → p < k → k < c.replicas → is_member r k mine ≡ false) → RaisesAt c r mine (Place.Raise p) → RaisesAt c r (event_by r (Verb.RaiseFuo p u) Answer.Done ∷ mine) place
raises_last c r p u place mine possible turn full region member none at =
    let e = event_by r (Verb.RaiseFuo p u) Answer.Done in
    let next : IsNextMember c r p c.replicas mine = record { there = region; member = member; above = region; between = none } in
    let one = counts_of_members.next c r p c.replicas mine next in
    raised_anywhere c r (e ∷ mine) place
    (countdowns_run.raises.all c r c.replicas (members_from c r c.replicas mine) (e ∷ mine)
    (countdowns_run.raises.raise c r p c.replicas (members_from c r c.replicas mine) mine e (subst (λ n. AreRaisedBelow c r p n mine) one at) turn (raise_full p u (length (known c r mine)) full) (not_more (length (commits c r mine))) none)
    (λ k high. beyond k high (is_member r k (e ∷ mine)) refl))
  where
    beyond : (k : ℕ) → c.replicas ≤ k → (t : Bool) → is_member r k (event_by r (Verb.RaiseFuo p u) Answer.Done ∷ mine) ≡ t → is_member r k (event_by r (Verb.RaiseFuo p u) Answer.Done ∷ mine) ≡ false
    beyond k high true there = absurd (let low = member_within c r k (event_by r (Verb.RaiseFuo p u) Answer.Done ∷ mine) possible there in omega (arith, low, high))
    beyond k high false there = there

-- what another machine does in the background
raised_beside : (c : Config) (r p q : ℕ) (leading : Bool) (verb : Verb) (answer : Answer) (mine : List Event) → is_beside leading verb ≡ true → (members_from c r p (event_by r verb answer ∷ mine) ≡ members_from c r p mine) × (commits_more c r mine (event_by r verb answer) ≡ false)
raised_beside c r p q leading (Verb.Ask k) answer mine beside = absurd (true≢false (sym beside))
raised_beside c r p q leading (Verb.Fence k) answer mine beside = absurd (true≢false (sym beside))
raised_beside c r p q leading (Verb.Min k) answer mine beside = absurd (true≢false (sym beside))
raised_beside c r p q leading (Verb.Enter k t) answer mine beside = absurd (true≢false (sym beside))
raised_beside c r p q leading (Verb.PutMin k b) answer mine beside = absurd (true≢false (sym beside))
raised_beside c r p q leading (Verb.PutSlot k i b v) answer mine beside = absurd (true≢false (sym beside))
raised_beside c r p q leading verb answer mine beside = (refl, not_more (length (commits c r mine)))

pub raises_beside : (c : Config) (r : ℕ) (mine : List Event) (leading : Bool) (place : Place) (verb : Verb) (answer : Answer) → is_replication mine (event_by r verb answer) ≡ false → is_beside leading verb ≡ true → RaisesAt c r mine place → RaisesAt c r (event_by r verb answer ∷ mine) place
raises_beside c r mine leading (Place.Raise p) verb answer off beside at =
    let same = raised_beside c r p p leading verb answer mine beside in
    record {
      done = λ q low. countdowns_run.raises.quiet c r q mine (event_by r verb answer) same.1 (at.done q low);
      room = λ q. kinds_of_step.stays (raising c r q) (members_from c r p mine) (members_from c r p (event_by r verb answer ∷ mine)) mine (event_by r verb answer)
          (unallowed (λ past e. commits_more c r past e && is_member r q (e ∷ past)) (members c r) mine (event_by r verb answer) (false_and (commits_more c r mine (event_by r verb answer)) (is_member r q (event_by r verb answer ∷ mine)) same.1))
          off (let is = same.0 in omega (arith, is)) (at.room q);
    }
raises_beside c r mine leading place verb answer off beside at = raised_on c r mine (event_by r verb answer) (raised_beside c r 0 0 leading verb answer mine beside).1 at

pub raised_in_time : (c : Config) (r b : ℕ) (mine : List Event) (up : List ℕ) (reach : List (Option ℕ)) (written : List ℕ) (place : Place) → At c r b mine up reach written place → RaisesAt c r mine place → (p : ℕ) → IsInTime (raising c r p) mine
raised_in_time c r b mine up reach written (Place.Raise p) stands at q = kinds_of_step.less (raising c r q) (members_from c r p mine) 1 mine (counts_of_members.some c r p mine stands.region stands.member) (at.room q)
raised_in_time c r b mine up reach written place stands at q = kinds_of_step.closed (raising c r q) 1 mine (at q)
