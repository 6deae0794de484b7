-- What the looks at one position came to, after one more event.
use Rattle.std.proofs.Common.{◌≡◌, ℕ, ◌+◌, ◌≤◌, ◌==◌, ◌&&◌, Bool, true, false, cond, List, ◌∷◌, length, refl, sym, ap, ◌∙◌, subst, arith, Some, None}
use Rattle.std.specs.Prelude.{is_some, nat_lt, ◌%◌, ◌||◌}
use Rattle.std.proofs.Math.Bool.{and-false, and-true}
use Rattle.std.specs.declared.option.Option.{Option}
use Rattle.mu_model.specs.declared.config.Config.{Config}
use Rattle.mu_model.specs.declared.event.Answer.{Answer}
use Rattle.mu_model.specs.declared.event.Event.{Event}
use Rattle.mu_model.specs.declared.event.Target.{Target}
use Rattle.mu_model.specs.declared.event.Verb.{Verb}
use Rattle.mu_model.specs.Entering.{last_opened}
use Rattle.mu_model.specs.Histories.{has}
use Rattle.mu_model.specs.Leaderships.{is_member, leadership}
use Rattle.mu_model.specs.Picks.{is_past, is_past_look, last_look, look_answer}
use Rattle.mu_model.specs.Placing.{looked_before_entering, has_looked_since}
use Rattle.mu_placing.specs.declared.region_looks.Look.{Look}
use Rattle.mu_placing.specs.Looks.{HoldsLook, begun_time, enter_time, is_good_since, joining_time, member_time, put_time}
use Rattle.mu_model.proofs.Basics.{same_number}
use Rattle.mu_placing.proofs.Times.{AtMost, is_early, joining_in_time, last_in_time, member_in_time, member_told, not_late}

-- one event more
abbrev pub made : ℕ → Verb → Answer → List Event → List Event
made by verb answer mine = record { by = by; verb = verb; answer = answer } ∷ mine

-- the last look at i was made at this time, or none since the last joining
abbrev pub Seen : ℕ → ℕ → ℕ → List Event → ℕ → Answer → Type 0
Seen r p i mine at seen = last_look r p i mine ≡ cond (nat_lt (joining_time r mine) at) (Some seen) None

seen_stays : (r p i by : ℕ) (verb : Verb) (answer : Answer) (mine : List Event) (at : ℕ) (seen : Answer) → look_answer r p i by verb answer ≡ None → at ≤ length mine → Seen r p i mine at seen → Seen r p i (made by verb answer mine) at seen
seen_stays r p i by (Verb.Ask q) answer mine at seen none low held = by_test (by == r) refl (q == 0) refl
  where
    by_test : (t : Bool) → (by == r) ≡ t → (u : Bool) → (q == 0) ≡ u → Seen r p i (made by (Verb.Ask q) answer mine) at seen
    by_test true own true first = rw (own, first, not_late (length mine) at low) refl
    by_test true own false first = rw (own, first) held
    by_test false own u first = rw own held
seen_stays r p i by (Verb.PutMin q b) Answer.Done mine at seen none low held = by_test (by == r) refl (is_member r q mine) refl
  where
    by_test : (t : Bool) → (by == r) ≡ t → (u : Bool) → is_member r q mine ≡ u → Seen r p i (made by (Verb.PutMin q b) Answer.Done mine) at seen
    by_test true own true member = rw (own, member) held
    by_test true own false member = rw (own, member, not_late (length mine) at low) refl
    by_test false own u member = rw own held
seen_stays r p i by (Verb.Look q j) answer mine at seen none low held = rw none held
seen_stays r p i by verb answer mine at seen none low held = held

-- the last `Past` look at i was made at this time, or none in the leadership
abbrev pub SawPast : ℕ → ℕ → ℕ → List Event → ℕ → Type 0
SawPast r p i mine at = has (λ e. is_past_look (look_answer r p i e.by e.verb e.answer)) (leadership r mine) ≡ nat_lt (begun_time r mine) at

past_stays : (r p i by : ℕ) (verb : Verb) (answer : Answer) (mine : List Event) (at : ℕ) → look_answer r p i by verb answer ≡ None → at ≤ length mine → SawPast r p i mine at → SawPast r p i (made by verb answer mine) at
past_stays r p i by (Verb.Ask q) answer mine at none low held = by_test (by == r) refl (q == 0) refl
  where
    by_test : (t : Bool) → (by == r) ≡ t → (u : Bool) → (q == 0) ≡ u → SawPast r p i (made by (Verb.Ask q) answer mine) at
    by_test true own true first = rw (own, first) (sym (not_late (length mine) at low))
    by_test true own false first = rw (own, first) held
    by_test false own u first = rw own held
past_stays r p i by (Verb.Look q j) answer mine at none low held = rw none held
past_stays r p i by verb answer mine at none low held = held

-- the good look came at this time
abbrev pub SawGood : Config → ℕ → ℕ → ℕ → List Event → ℕ → Type 0
SawGood c r p i mine at = has_looked_since c r p i mine ≡ is_good_since (member_time r p mine) (put_time r p c.ring (i % c.ring) mine) at

-- the good look came before the last `Enter`
abbrev pub SawBefore : Config → ℕ → ℕ → ℕ → List Event → ℕ → Type 0
SawBefore c r p i mine at = (s : ℕ) → last_opened r p mine ≡ Some (Target.Place s) → looked_before_entering c r p i mine ≡ (has_looked_since c r p i mine && nat_lt at (enter_time r p mine))

-- at a region that wasn't a member
good_outside : (c : Config) (r p i by : ℕ) (verb : Verb) (answer : Answer) (mine : List Event) (at : ℕ) → is_member r p mine ≡ false → member_time r p mine ≡ None → at ≤ length mine → SawGood c r p i (made by verb answer mine) at
good_outside c r p i by (Verb.Ask q) answer mine at out never low = by_test (by == r) refl (q == 0) refl
  where
    by_test : (t : Bool) → (by == r) ≡ t → (u : Bool) → (q == 0) ≡ u → SawGood c r p i (made by (Verb.Ask q) answer mine) at
    by_test true own true first = rw (own, first) refl
    by_test true own false first = rw (own, first, out, never) refl
    by_test false own u first = rw (own, out, never) refl
good_outside c r p i by (Verb.PutMin q b) Answer.Done mine at out never low = by_test (by == r) refl (q == p) refl
  where
    by_test : (t : Bool) → (by == r) ≡ t → (u : Bool) → (q == p) ≡ u → SawGood c r p i (made by (Verb.PutMin q b) Answer.Done mine) at
    by_test true own true here = rw (own, here, out, never, not_late (length mine) at low) refl
    by_test true own false here = rw (own, here, out, never) refl
    by_test false own u here = rw (own, out, never) refl
good_outside c r p i by verb answer mine at out never low = rw (out, never) refl

before_outside : (c : Config) (r p i by : ℕ) (verb : Verb) (answer : Answer) (mine : List Event) (at : ℕ) → is_member r p mine ≡ false → SawBefore c r p i (made by verb answer mine) at
before_outside c r p i by (Verb.Ask q) answer mine at out = by_test (by == r) refl (q == 0) refl
  where
    by_test : (t : Bool) → (by == r) ≡ t → (u : Bool) → (q == 0) ≡ u → SawBefore c r p i (made by (Verb.Ask q) answer mine) at
    by_test true own true first = rw (own, first) (λ s opened. refl)
    by_test true own false first = rw (own, first, out) (λ s opened. refl)
    by_test false own u first = rw (own, out) (λ s opened. refl)
before_outside c r p i by verb answer mine at out = rw out (λ s opened. refl)

-- at a member
good_inside : (c : Config) (r p i by m : ℕ) (verb : Verb) (answer : Answer) (mine : List Event) (at : ℕ) → is_member r p mine ≡ true → member_time r p mine ≡ Some m → look_answer r p i by verb answer ≡ None → at ≤ length mine
    → SawGood c r p i mine at → SawGood c r p i (made by verb answer mine) at
good_inside c r p i by m (Verb.Ask q) answer mine at in_it since none low held = by_test (by == r) refl (q == 0) refl
  where
    by_test : (t : Bool) → (by == r) ≡ t → (u : Bool) → (q == 0) ≡ u → SawGood c r p i (made by (Verb.Ask q) answer mine) at
    by_test true own true first = rw (own, first) refl
    by_test true own false first = rw (in_it, own, first) held
    by_test false own u first = rw (in_it, own) held
good_inside c r p i by m (Verb.PutMin q b) Answer.Done mine at in_it since none low held = by_test (by == r) refl (q == p) refl
  where
    kept : has_looked_since c r p i mine ≡ is_good_since (Some m) (put_time r p c.ring (i % c.ring) mine) at
    kept = held ∙ ap (λ o. is_good_since o (put_time r p c.ring (i % c.ring) mine) at) since

    by_test : (t : Bool) → (by == r) ≡ t → (u : Bool) → (q == p) ≡ u → SawGood c r p i (made by (Verb.PutMin q b) Answer.Done mine) at
    by_test true own true here = rw (in_it, own, here, since) kept
    by_test true own false here = rw (in_it, own, here) held
    by_test false own u here = rw (in_it, own) held
good_inside c r p i by m (Verb.PutSlot q j b v) answer mine at in_it since none low held = by_test (by == r) refl (q == p) refl (j % c.ring == i % c.ring) refl
  where
    by_test : (t : Bool) → (by == r) ≡ t → (u : Bool) → (q == p) ≡ u → (w : Bool) → (j % c.ring == i % c.ring) ≡ w → SawGood c r p i (made by (Verb.PutSlot q j b v) answer mine) at
    by_test true own true here true place = rw (in_it, own, here, place, since, not_late (length mine) at low) (sym (and-false (nat_lt m at)))
    by_test true own true here false place = rw (in_it, own, here, place) held
    by_test true own false here w place = rw (in_it, own, here) held
    by_test false own u here w place = rw (in_it, own) held
good_inside c r p i by m (Verb.Look q j) answer mine at in_it since none low held = rw (in_it, none) held
good_inside c r p i by m verb answer mine at in_it since none low held = rw in_it held

not_open : (s : ℕ) → Some Target.None ≡ Some (Target.Place s) → ⊥
not_open s same = cc

before_inside : (c : Config) (r p i by : ℕ) (verb : Verb) (answer : Answer) (mine : List Event) (at : ℕ) → is_member r p mine ≡ true → look_answer r p i by verb answer ≡ None → at ≤ length mine
    → SawBefore c r p i mine at → SawBefore c r p i (made by verb answer mine) at
before_inside c r p i by (Verb.Ask q) answer mine at in_it none low held = by_test (by == r) refl (q == 0) refl
  where
    by_test : (t : Bool) → (by == r) ≡ t → (u : Bool) → (q == 0) ≡ u → SawBefore c r p i (made by (Verb.Ask q) answer mine) at
    by_test true own true first = rw (own, first) (λ s opened. refl)
    by_test true own false first = rw (in_it, own, first) held
    by_test false own u first = rw (in_it, own) held
before_inside c r p i by (Verb.Enter q t) Answer.Entered mine at in_it none low held = by_test (by == r) refl (q == p) refl
  where
    by_test : (t' : Bool) → (by == r) ≡ t' → (u : Bool) → (q == p) ≡ u → SawBefore c r p i (made by (Verb.Enter q t) Answer.Entered mine) at
    by_test true own true here = rw (in_it, own, here, is_early (length mine) at low) (λ s opened. sym (and-true (has_looked_since c r p i mine)))
    by_test true own false here = rw (in_it, own, here) held
    by_test false own u here = rw (in_it, own) held
before_inside c r p i by (Verb.Enter q t) answer mine at in_it none low held = by_test (by == r) refl (q == p) refl
  where
    by_test : (t' : Bool) → (by == r) ≡ t' → (u : Bool) → (q == p) ≡ u → SawBefore c r p i (made by (Verb.Enter q t) answer mine) at
    by_test true own true here = rw (in_it, own, here, is_early (length mine) at low) (λ s opened. sym (and-true (has_looked_since c r p i mine)))
    by_test true own false here = rw (in_it, own, here) held
    by_test false own u here = rw (in_it, own) held
before_inside c r p i by (Verb.PutMin q b) answer mine at in_it none low held = by_test (by == r) refl (q == p) refl
  where
    by_test : (t : Bool) → (by == r) ≡ t → (u : Bool) → (q == p) ≡ u → SawBefore c r p i (made by (Verb.PutMin q b) answer mine) at
    by_test true own true here = rw (in_it, own, here) (λ s opened. absurd (not_open s opened))
    by_test true own false here = rw (in_it, own, here) held
    by_test false own u here = rw (in_it, own) held
before_inside c r p i by (Verb.PutSlot q j b v) answer mine at in_it none low held = by_test (by == r) refl (q == p) refl
  where
    by_test : (t : Bool) → (by == r) ≡ t → (u : Bool) → (q == p) ≡ u → SawBefore c r p i (made by (Verb.PutSlot q j b v) answer mine) at
    by_test true own true here = rw (in_it, own, here) (λ s opened. absurd (not_open s opened))
    by_test true own false here = rw (in_it, own, here) held
    by_test false own u here = rw (in_it, own) held
before_inside c r p i by (Verb.Look q j) answer mine at in_it none low held = rw (in_it, none) held
before_inside c r p i by verb answer mine at in_it none low held = rw in_it held

-- an event that is no look at i
pub look_stays : (c : Config) (r p i by : ℕ) (verb : Verb) (answer : Answer) (mine : List Event) (look : Look) → look_answer r p i by verb answer ≡ None → HoldsLook c r p i mine look → HoldsLook c r p i (made by verb answer mine) look
look_stays c r p i by verb answer mine look none held = by_member (member_time r p mine) refl
  where
    past_low : look.past_at ≤ length (made by verb answer mine)
    past_low = let low = held.past_in_time in omega (arith, low)

    made_low : look.made_at ≤ length (made by verb answer mine)
    made_low = let low = held.made_in_time in omega (arith, low)

    good_low : look.good_at ≤ length (made by verb answer mine)
    good_low = let low = held.good_in_time in omega (arith, low)

    told : SawGood c r p i (made by verb answer mine) look.good_at → SawBefore c r p i (made by verb answer mine) look.good_at → HoldsLook c r p i (made by verb answer mine) look
    told good entered = record {
      made_in_time = made_low;
      seen = seen_stays r p i by verb answer mine look.made_at look.seen none held.made_in_time held.seen;
      past_in_time = past_low;
      past = past_stays r p i by verb answer mine look.past_at none held.past_in_time held.past;
      good_in_time = good_low;
      good = good;
      entered = entered;
    }

    by_member : (o : Option ℕ) → member_time r p mine ≡ o → HoldsLook c r p i (made by verb answer mine) look
    by_member None is =
        let out : is_member r p mine ≡ false = sym (member_told r p mine) ∙ ap is_some is in
        told (good_outside c r p i by verb answer mine look.good_at out is held.good_in_time) (before_outside c r p i by verb answer mine look.good_at out)
    by_member (Some m) is =
        let in_it : is_member r p mine ≡ true = sym (member_told r p mine) ∙ ap is_some is in
        told (good_inside c r p i by m verb answer mine look.good_at in_it is none held.good_in_time held.good) (before_inside c r p i by verb answer mine look.good_at in_it none held.good_in_time held.entered)

-- the looks at i after one more at the time now, if is_good tells whether a good one was among them
abbrev pub looked : ℕ → Bool → Answer → Look → Look
looked now is_good answer look = record {
  made_at = now;
  seen = answer;
  past_at = cond (is_past answer) now look.past_at;
  good_at = cond (is_past answer || is_good) look.good_at now;
}

-- a look at i
pub look_taken : (c : Config) (r p i by q j : ℕ) (answer : Answer) (mine : List Event) (look : Look) (now : ℕ) (is_good : Bool) → (by == r) ≡ true → (q == p) ≡ true → (j == i) ≡ true → now ≡ length mine + 1 → is_good ≡ has_looked_since c r p i mine
    → HoldsLook c r p i mine look → HoldsLook c r p i (made by (Verb.Look q j) answer mine) (looked now is_good answer look)
look_taken c r p i by q j answer mine look now is_good own here there is told held = subst (λ n. HoldsLook c r p i (made by (Verb.Look q j) answer mine) (looked n is_good answer look)) (sym is) record {
  made_in_time = omega arith;
  seen = seen_now;
  past_in_time = let low = lows (is_past answer) look.past_at held.past_in_time in omega (arith, low);
  past = past_now (is_past answer) refl;
  good_in_time = let low = lows_not (is_past answer || is_good) look.good_at held.good_in_time in omega (arith, low);
  good = by_member (member_time r p mine) refl;
  entered = by_entered (member_time r p mine) refl;
}
  where
    lows : (t : Bool) (x : ℕ) → x ≤ length mine → cond t (length mine + 1) x ≤ length mine + 1
    lows true x low = omega arith
    lows false x low = omega (arith, low)

    lows_not : (t : Bool) (x : ℕ) → x ≤ length mine → cond t x (length mine + 1) ≤ length mine + 1
    lows_not true x low = omega (arith, low)
    lows_not false x low = omega arith

    early : (x : ℕ) → x ≤ length mine → nat_lt x (length mine + 1) ≡ true
    early x low = is_early (length mine) x low

    good_at : ℕ
    good_at = cond (is_past answer || is_good) look.good_at (length mine + 1)

    shown : look_answer r p i by (Verb.Look q j) answer ≡ Some answer
    shown = rw (own, here, there) refl

    seen_now : Seen r p i (made by (Verb.Look q j) answer mine) (length mine + 1) answer
    seen_now = rw (shown, early (joining_time r mine) (joining_in_time r mine)) refl

    past_now : (t : Bool) → is_past answer ≡ t → SawPast r p i (made by (Verb.Look q j) answer mine) (cond (is_past answer) (length mine + 1) look.past_at)
    past_now true was = rw (shown, was, early (begun_time r mine) (last_in_time _ mine)) refl
    past_now false was = rw (shown, was) held.past

    out : member_time r p mine ≡ None → is_member r p mine ≡ false
    out never = sym (member_told r p mine) ∙ ap is_some never

    in_it : (m : ℕ) → member_time r p mine ≡ Some m → is_member r p mine ≡ true
    in_it m since = sym (member_told r p mine) ∙ ap is_some since

    good_if : (m : ℕ) → member_time r p mine ≡ Some m → (t : Bool) → is_past answer ≡ t → (l : Bool) → is_good ≡ l → SawGood c r p i (made by (Verb.Look q j) answer mine) good_at
    good_if m since true was l is_l = rw (in_it m since, shown, was) held.good
    good_if m since false was true is_l = rw (in_it m since, shown, was, is_l) (sym is_l ∙ told ∙ held.good)
    good_if m since false was false is_l =
        let low : m ≤ length mine = subst (λ o. AtMost (length mine) o) since (member_in_time r p mine) in
        rw (in_it m since, shown, was, is_l, since, early m low, early (put_time r p c.ring (i % c.ring) mine) (last_in_time _ mine)) refl

    by_member : (o : Option ℕ) → member_time r p mine ≡ o → SawGood c r p i (made by (Verb.Look q j) answer mine) good_at
    by_member None never = rw (out never, never) refl
    by_member (Some m) since = good_if m since (is_past answer) refl is_good refl

    before_if : (m : ℕ) → member_time r p mine ≡ Some m → (t : Bool) → is_past answer ≡ t → (l : Bool) → is_good ≡ l → SawBefore c r p i (made by (Verb.Look q j) answer mine) good_at
    before_if m since true was l is_l = rw (in_it m since, shown, was) held.entered
    before_if m since false was true is_l = rw (in_it m since, shown, was, is_l) (λ s opened. held.entered s opened ∙ ap (λ b. b && nat_lt look.good_at (enter_time r p mine)) (sym told ∙ is_l))
    before_if m since false was false is_l =
        rw (in_it m since, shown, was, is_l, not_late (length mine) (enter_time r p mine) (last_in_time _ mine)) (λ s opened. held.entered s opened ∙ ap (λ b. b && nat_lt look.good_at (enter_time r p mine)) (sym told ∙ is_l))

    by_entered : (o : Option ℕ) → member_time r p mine ≡ o → SawBefore c r p i (made by (Verb.Look q j) answer mine) good_at
    by_entered None never = before_outside c r p i by (Verb.Look q j) answer mine good_at (out never)
    by_entered (Some m) since = before_if m since (is_past answer) refl is_good refl

-- the same of the event itself
pub look_made : (c : Config) (p i : ℕ) (mine : List Event) (e : Event) (look new : Look) (now : ℕ) (is_good : Bool) → new ≡ looked now is_good e.answer look → e.verb ≡ Verb.Look p i → now ≡ length mine + 1 → is_good ≡ has_looked_since c e.by p i mine
    → HoldsLook c e.by p i mine look → HoldsLook c e.by p i (e ∷ mine) new
look_made c p i mine e look new now is_good same is at told held =
    subst (λ l. HoldsLook c e.by p i (e ∷ mine) l) (sym same)
    (subst (λ v. HoldsLook c e.by p i (made e.by v e.answer mine) (looked now is_good e.answer look)) (sym is) (look_taken c e.by p i e.by p i e.answer mine look now is_good (same_number e.by) (same_number p) (same_number i) at told held))
