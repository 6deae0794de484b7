-- Times of events are those of the history.
use Rattle.std.proofs.Common.{◌≡◌, ℕ, ◌+◌, ◌≤◌, Bool, true, false, List, [], ◌∷◌, length, refl, arith, Some, None}
use Rattle.std.specs.Prelude.{is_some, nat_lt}
use Rattle.std.specs.declared.option.Option.{Option}
use Rattle.std.proofs.lemmas.Bool.{le-ltb, lt-ltb}
use Rattle.mu_model.specs.declared.event.Event.{Event}
use Rattle.mu_model.specs.Histories.{newer_or}
use Rattle.mu_model.specs.Leaderships.{begins_leadership, grant_at_joining, is_member, lands_min}
use Rattle.mu_model.specs.Picks.{is_joining}
use Rattle.mu_placing.specs.Looks.{joining_time, last_time, member_time}

-- what is in time is not after the next event
pub not_late : (n x : ℕ) → x ≤ n → nat_lt (n + 1) x ≡ false
not_late n x low = le-ltb (n + 1) x (omega arith)

-- what is in time is before the next event
pub is_early : (n x : ℕ) → x ≤ n → nat_lt x (n + 1) ≡ true
is_early n x low = lt-ltb x (n + 1) (omega arith)

-- the last time at which a test passed is at most the length of the history
pub last_in_time : (test : Event → Bool) (mine : List Event) → last_time test mine ≤ length mine
last_in_time test [] = omega arith
last_in_time test (e ∷ mine) = by_test (test e) refl (last_in_time test mine)
  where
    by_test : (t : Bool) → test e ≡ t → last_time test mine ≤ length mine → last_time test (e ∷ mine) ≤ length (e ∷ mine)
    by_test true is before = rw is (omega arith)
    by_test false is before = rw is (omega (arith, before))

-- the same of the last joining
pub joining_in_time : (r : ℕ) (mine : List Event) → joining_time r mine ≤ length mine
joining_in_time r [] = omega arith
joining_in_time r (e ∷ mine) = by_test (is_joining r mine e.by e.verb e.answer) refl (begins_leadership r e) refl (joining_in_time r mine)
  where
    by_test : (t : Bool) → is_joining r mine e.by e.verb e.answer ≡ t → (u : Bool) → begins_leadership r e ≡ u → joining_time r mine ≤ length mine → joining_time r (e ∷ mine) ≤ length (e ∷ mine)
    by_test true is u begun before = rw is (omega arith)
    by_test false is true begun before = rw (is, begun) (omega arith)
    by_test false is false begun before = rw (is, begun) (omega (arith, before))

-- the time of the joining, if there is one, is at most n
abbrev pub AtMost : ℕ → Option ℕ → Type 0
AtMost n None = Unit {0}
AtMost n (Some x) = x ≤ n

-- the same of the joining of a region
pub member_in_time : (r p : ℕ) (mine : List Event) → AtMost (length mine) (member_time r p mine)
member_in_time r p [] = tt
member_in_time r p (e ∷ mine) = by_test (begins_leadership r e) refl (lands_min r p e.by e.verb e.answer) refl (member_time r p mine) refl (member_in_time r p mine)
  where
    by_test : (t : Bool) → begins_leadership r e ≡ t → (u : Bool) → lands_min r p e.by e.verb e.answer ≡ u → (o : Option ℕ) → member_time r p mine ≡ o → AtMost (length mine) o → AtMost (length (e ∷ mine)) (member_time r p (e ∷ mine))
    by_test true begun u lands o is before = rw begun tt
    by_test false begun true lands None is before = rw (begun, lands, is) (omega arith)
    by_test false begun true lands (Some x) is before = rw (begun, lands, is) (omega (arith, before))
    by_test false begun false lands None is before = rw (begun, lands, is) tt
    by_test false begun false lands (Some x) is before = rw (begun, lands, is) (omega (arith, before))

some_newer : {A B : Type 0} (x : Option A) (y : Option B) (a : A) (b : B) → is_some x ≡ is_some y → is_some (newer_or x (Some a)) ≡ is_some (newer_or y (Some b))
some_newer None None a b same = refl
some_newer None (Some y) a b same = refl
some_newer (Some x) None a b same = refl
some_newer (Some x) (Some y) a b same = refl

-- p is a member if it has a time of joining
pub member_told : (r p : ℕ) (mine : List Event) → is_some (member_time r p mine) ≡ is_member r p mine
member_told r p [] = refl
member_told r p (e ∷ mine) = by_test (begins_leadership r e) refl (lands_min r p e.by e.verb e.answer) refl (member_told r p mine)
  where
    by_test : (t : Bool) → begins_leadership r e ≡ t → (u : Bool) → lands_min r p e.by e.verb e.answer ≡ u → is_some (member_time r p mine) ≡ is_member r p mine → is_some (member_time r p (e ∷ mine)) ≡ is_member r p (e ∷ mine)
    by_test true begun u lands same = rw begun refl
    by_test false begun true lands same = rw (begun, lands) (some_newer (member_time r p mine) (grant_at_joining r p mine) _ _ same)
    by_test false begun false lands same = rw (begun, lands) same
