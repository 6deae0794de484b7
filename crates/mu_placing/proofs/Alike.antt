-- In one leadership all puts at a position that isn't known yet are alike.
use Rattle.std.proofs.Common.{◌≡◌, ℕ, ◌+◌, ◌<◌, ◌≤◌, ◌⊎◌, inl, inr, Bool, true, false, cond, ◌==◌, ◌&&◌, List, [], ◌∷◌, length, refl, sym, ◌∙◌, ap, arith, Some, None, subst, true≢false, eqb-true, eq-eqb}
use Rattle.std.specs.Prelude.{not}
use Rattle.std.specs.declared.option.Option.{Option}
use Rattle.std.specs.List.{slice_get}
use Rattle.std.proofs.lemmas.Bool.{and_parts}
use Rattle.std.proofs.lemmas.Option.{slice_get_within}
use Rattle.mu_model.specs.declared.config.Config.{Config}
use Rattle.mu_model.specs.declared.event.Answer.{Answer}
use Rattle.mu_model.specs.declared.event.Event.{Event}
use Rattle.mu_model.specs.declared.event.Verb.{Verb}
use Rattle.mu_model.specs.Allowed.{Needs}
use Rattle.mu_model.specs.Contents.{row_count}
use Rattle.mu_model.specs.Histories.{earlier_or, has, newer_or, newest}
use Rattle.mu_model.specs.Knowledge.{is_put_done, known, lands_entry}
use Rattle.mu_model.specs.Leaderships.{begins_leadership, is_first_ask, leadership, leaderships, number_put, proposal_number}
use Rattle.mu_model.specs.Parts.{IsPossible}
use Rattle.mu_model.specs.Picks.{first_value, joined_since_first_put, may_propose, value_put}
use Rattle.mu_model.specs.Room.{reserve}
use Rattle.mu_agree.proofs.Landings.{has_cases, has_since}
use Rattle.mu_agree.proofs.Possible.{parts_shorten_law}
use Rattle.mu_agree.proofs.Tame.{known_longer}
use Rattle.mu_placing.specs.LandedPuts.{entry_put, is_entry, last_landed}
use Rattle.mu_model.proofs.Basics.{same_number, same_some, none_some}
use Rattle.mu_model.proofs.Counts.{how_many_within}
use Rattle.mu_model.proofs.Putting.{IsNew, put_facts}

-- there are no more leaderships than events
pub few_leaderships : (r : ℕ) (mine : List Event) → leaderships r mine ≤ length mine
few_leaderships r mine = how_many_within (begins_leadership r) mine

-- what a put that landed says
pub record IsPut (r p i b v by q j n w : ℕ) : Type 0 where
  pub own : by ≡ r
  pub region : q ≡ p
  pub position : j ≡ i
  pub number : n ≡ b
  pub value : w ≡ v

-- a put that passes the five tests is this one
pub is_put : (r p i b v by q j n w : ℕ) → ((by == r) && ((q == p) && ((j == i) && ((n == b) && (w == v))))) ≡ true → IsPut r p i b v by q j n w
is_put r p i b v by q j n w m =
    let x = and_parts (by == r) ((q == p) && ((j == i) && ((n == b) && (w == v)))) m in
    let y = and_parts (q == p) ((j == i) && ((n == b) && (w == v))) x.1 in
    let z = and_parts (j == i) ((n == b) && (w == v)) y.1 in
    let u = and_parts (n == b) (w == v) z.1 in
    record { own = eqb-true by r x.0; region = eqb-true q p y.0; position = eqb-true j i z.0; number = eqb-true n b u.0; value = eqb-true w v u.1 }

-- every put that landed was in range
abbrev pub InRange : Config → ℕ → List Event → Type 0
InRange c r mine = (p i b v : ℕ) → has (lands_entry r p i b v) mine ≡ true → (p < c.replicas) × (i ≤ row_count c + reserve c)

range_by : (c : Config) (r by : ℕ) (verb : Verb) (answer : Answer) (mine : List Event) → Needs c r mine verb → InRange c r mine → InRange c r (record { by = by; verb = verb; answer = answer } ∷ mine)
range_by c r by (Verb.PutSlot q j n w) Answer.Done mine needs before = λ p i b v m.
    elim (has_cases ((by == r) && ((q == p) && ((j == i) && ((n == b) && (w == v))))) (has (lands_entry r p i b v) mine) m) [
      | inl here ↦ (let put = is_put r p i b v by q j n w here in (subst (λ x. x < c.replicas) put.region needs.0, subst (λ x. x ≤ row_count c + reserve c) put.position needs.1.0))
      | inr old ↦ before p i b v old
    ]
range_by c r by verb answer mine needs before = before

-- a possible part puts at positions in range only
pub in_range : (c : Config) (r : ℕ) (mine : List Event) → IsPossible c r mine → InRange c r mine
in_range c r [] possible = λ p i b v m. absurd (true≢false (sym m))
in_range c r (e ∷ mine) possible =
    let s = parts_shorten_law c r mine e possible in
    range_by c r e.by e.verb e.answer mine s.allowed.may (in_range c r mine s.before)

-- all puts of the leadership at position i are of its number and of the value of the first one
abbrev pub AreAlike : ℕ → ℕ → List Event → Type 0
AreAlike r i mine = (p b v : ℕ) → has (lands_entry r p i b v) (leadership r mine) ≡ true → (proposal_number r mine ≡ Some b) × (first_value r i mine ≡ Some v)

-- what was told first stays
first_stays : {A : Type 0} (o : Option A) (x : A) (first : Option A) → first ≡ Some x → earlier_or o first ≡ Some x
first_stays None x first is = is
first_stays (Some y) x first is = rw is refl

-- the first put of a value that may be proposed has it
proposed_first : (c : Config) (r : ℕ) (mine : List Event) (i v : ℕ) (first : Option ℕ) → may_propose c r mine i v first ≡ true → earlier_or (Some v) first ≡ Some v
proposed_first c r mine i v None may = refl
proposed_first c r mine i v (Some first) may = ap Some (sym (eqb-true v first (and_parts (v == first) (not (joined_since_first_put r i mine)) may).0))

-- a put at an unknown position is of a value that may be proposed
is_new : (c : Config) (r : ℕ) (mine : List Event) (i v : ℕ) → length (known c r mine) ≤ i → (slice_get (known c r mine) i ≡ Some v) ⊎ IsNew c r mine i v → may_propose c r mine i v (first_value r i mine) ≡ true
is_new c r mine i v unknown (inl there) = let low = slice_get_within (known c r mine) i v there in absurd (omega arith)
is_new c r mine i v unknown (inr new) = new.value

alike_ask : (r i by q : ℕ) (answer : Answer) (mine : List Event) → AreAlike r i mine → (t : Bool) → is_first_ask r by (Verb.Ask q) ≡ t → AreAlike r i (record { by = by; verb = Verb.Ask q; answer = answer } ∷ mine)
alike_ask r i by q answer mine before true is = rw is (λ p b v m. absurd (true≢false (sym m)))
alike_ask r i by q answer mine before false is = rw is before

alike_by : (c : Config) (r i by : ℕ) (verb : Verb) (answer : Answer) (mine : List Event) → Needs c r mine verb → length (known c r mine) ≤ i → AreAlike r i mine → AreAlike r i (record { by = by; verb = verb; answer = answer } ∷ mine)
alike_by c r i by (Verb.Ask q) answer mine needs unknown before = alike_ask r i by q answer mine before (is_first_ask r by (Verb.Ask q)) refl
alike_by c r i by (Verb.PutMin q n) answer mine needs unknown before = λ p b v m.
    let old = before p b v m in (first_stays (number_put r by (Verb.PutMin q n)) b (proposal_number r mine) old.0, old.1)
alike_by c r i by (Verb.PutSlot q j n w) Answer.Done mine needs unknown before = λ p b v m.
    elim (has_cases ((by == r) && ((q == p) && ((j == i) && ((n == b) && (w == v))))) (has (lands_entry r p i b v) (leadership r mine)) m) [
      | inl here ↦ now p b v (is_put r p i b v by q j n w here)
      | inr old ↦ (let was = before p b v old in (was.0, first_stays (value_put r i by (Verb.PutSlot q j n w)) v (first_value r i mine) was.1))
    ]
  where
    now : (p b v : ℕ) → IsPut r p i b v by q j n w → (proposal_number r mine ≡ Some b) × (earlier_or (value_put r i by (Verb.PutSlot q j n w)) (first_value r i mine) ≡ Some v)
    now p b v put =
        let told : value_put r i by (Verb.PutSlot q j n w) ≡ Some w = rw (put.own, put.position, same_number r, same_number i) refl in
        let may = is_new c r mine j w (let at = put.position in omega arith) (put_facts c r mine q j n w needs).value in
        let first : earlier_or (Some w) (first_value r j mine) ≡ Some w = proposed_first c r mine j w (first_value r j mine) may in (
          (put_facts c r mine q j n w needs).numbered ∙ ap Some put.number,
          ap (λ o. earlier_or o (first_value r i mine)) told ∙ ap (λ k. earlier_or (Some w) (first_value r k mine)) (sym put.position) ∙ first ∙ ap Some put.value,
        )
alike_by c r i by (Verb.PutSlot q j n w) answer mine needs unknown before = λ p b v m.
    let old = before p b v m in (old.0, first_stays (value_put r i by (Verb.PutSlot q j n w)) v (first_value r i mine) old.1)
alike_by c r i by verb answer mine needs unknown before = before

-- in a possible part all puts at a position that is unknown are alike
pub are_alike : (c : Config) (r i : ℕ) (mine : List Event) → IsPossible c r mine → length (known c r mine) ≤ i → AreAlike r i mine
are_alike c r i [] possible unknown = λ p b v m. absurd (true≢false (sym m))
are_alike c r i (e ∷ mine) possible unknown =
    let s = parts_shorten_law c r mine e possible in
    let low : length (known c r mine) ≤ i = (let up = known_longer c r e mine in omega arith) in
    alike_by c r i e.by e.verb e.answer mine s.allowed.may low (are_alike c r i mine s.before low)

-- the same after one event more, at a position that wasn't known before it
pub still_alike : (c : Config) (r i : ℕ) (e : Event) (mine : List Event) → IsPossible c r (e ∷ mine) → length (known c r mine) ≤ i → AreAlike r i (e ∷ mine)
still_alike c r i e mine possible unknown =
    let s = parts_shorten_law c r mine e possible in
    alike_by c r i e.by e.verb e.answer mine s.allowed.may unknown (are_alike c r i mine s.before unknown)

-- the last entry that was put was put
pub last_was_put : (r p i : ℕ) (y : ℕ × ℕ) (events : List Event) → newest (λ e. entry_put r p i e.by e.verb e.answer) events ≡ Some y → has (lands_entry r p i y.0 y.1) events ≡ true
last_was_put r p i y [] is = cc
last_was_put r p i y (e ∷ events) is = by_event e.by e.verb e.answer is (last_was_put r p i y events)
  where
    by_event : (by : ℕ) (verb : Verb) (answer : Answer) → newer_or (entry_put r p i by verb answer) (newest (λ e. entry_put r p i e.by e.verb e.answer) events) ≡ Some y
        → (newest (λ e. entry_put r p i e.by e.verb e.answer) events ≡ Some y → has (lands_entry r p i y.0 y.1) events ≡ true)
        → cond (is_put_done r p i y.0 y.1 by verb answer) true (has (lands_entry r p i y.0 y.1) events) ≡ true
    by_event by (Verb.PutSlot q j n w) Answer.Done is before = go (by == r) (q == p) (j == i) is
      where
        go : (t u x : Bool) → newer_or (cond (t && (u && x)) (Some (n, w)) None) (newest (λ e. entry_put r p i e.by e.verb e.answer) events) ≡ Some y
            → cond (t && (u && (x && ((n == y.0) && (w == y.1))))) true (has (lands_entry r p i y.0 y.1) events) ≡ true
        go true true true is =
            let pair : (n, w) ≡ y = same_some (n, w) y is in
            let number : n ≡ y.0 = ap (λ z. z.0) pair in
            let value : w ≡ y.1 = ap (λ z. z.1) pair in
            rw (eq-eqb n y.0 number, eq-eqb w y.1 value) refl
        go true true false is = before is
        go true false x is = before is
        go false u x is = before is
    by_event by verb answer is before = before is

-- if something was put there is a last entry
pub put_has_last : (r p i b v : ℕ) (events : List Event) → has (lands_entry r p i b v) events ≡ true → (y : ℕ × ℕ) × (newest (λ e. entry_put r p i e.by e.verb e.answer) events ≡ Some y)
put_has_last r p i b v [] m = cc
put_has_last r p i b v (e ∷ events) m = by_event e.by e.verb e.answer m (put_has_last r p i b v events)
  where
    by_event : (by : ℕ) (verb : Verb) (answer : Answer) → cond (is_put_done r p i b v by verb answer) true (has (lands_entry r p i b v) events) ≡ true
        → (has (lands_entry r p i b v) events ≡ true → (y : ℕ × ℕ) × (newest (λ e. entry_put r p i e.by e.verb e.answer) events ≡ Some y))
        → (y : ℕ × ℕ) × (newer_or (entry_put r p i by verb answer) (newest (λ e. entry_put r p i e.by e.verb e.answer) events) ≡ Some y)
    by_event by (Verb.PutSlot q j n w) Answer.Done m before = go (by == r) (q == p) (j == i) m
      where
        go : (t u x : Bool) → cond (t && (u && (x && ((n == b) && (w == v))))) true (has (lands_entry r p i b v) events) ≡ true
            → (y : ℕ × ℕ) × (newer_or (cond (t && (u && x)) (Some (n, w)) None) (newest (λ e. entry_put r p i e.by e.verb e.answer) events) ≡ Some y)
        go true true true m = ((n, w), refl)
        go true true false m = before m
        go true false x m = before m
        go false u x m = before m
    by_event by verb answer m before = before m

-- the last put tells whether an entry was put, if all puts are alike
last_tells : (r p i b v : ℕ) (mine : List Event) → AreAlike r i mine → (last : Option (ℕ × ℕ)) → last_landed r p i mine ≡ last → is_entry last b v ≡ has (lands_entry r p i b v) (leadership r mine)
last_tells r p i b v mine alike None none = sym (go (has (lands_entry r p i b v) (leadership r mine)) refl)
  where
    go : (t : Bool) → has (lands_entry r p i b v) (leadership r mine) ≡ t → t ≡ false
    go false m = refl
    go true m = let y = put_has_last r p i b v (leadership r mine) m in absurd (none_some y.0 (sym none ∙ y.1))
last_tells r p i b v mine alike (Some y) some = go (y.0 == b) refl (y.1 == v) refl (has (lands_entry r p i b v) (leadership r mine)) refl
  where
    was : has (lands_entry r p i y.0 y.1) (leadership r mine) ≡ true
    was = last_was_put r p i y (leadership r mine) some

    go : (t : Bool) → (y.0 == b) ≡ t → (u : Bool) → (y.1 == v) ≡ u → (x : Bool) → has (lands_entry r p i b v) (leadership r mine) ≡ x → (t && u) ≡ x
    go t number u value true m =
        let old = alike p y.0 y.1 was in
        let new = alike p b v m in
        let same : y.0 ≡ b = same_some y.0 b (sym old.0 ∙ new.0) in
        let alike_value : y.1 ≡ v = same_some y.1 v (sym old.1 ∙ new.1) in
        rw (sym number, sym value, eq-eqb y.0 b same, eq-eqb y.1 v alike_value) refl
    go true number true value false m =
        sym (subst (λ z. has (lands_entry r p i z v) (leadership r mine) ≡ true) (eqb-true y.0 b number) (subst (λ z. has (lands_entry r p i y.0 z) (leadership r mine) ≡ true) (eqb-true y.1 v value) was)) ∙ m
    go true number false value false m = refl
    go false number u value false m = refl

-- the last put at a position that was unknown tells whether an entry landed there
pub last_tells_all : (c : Config) (r p i b v : ℕ) (e : Event) (mine : List Event) → IsPossible c r (e ∷ mine) → length (known c r mine) ≤ i → is_entry (last_landed r p i (e ∷ mine)) b v ≡ has (lands_entry r p i b v) (leadership r (e ∷ mine))
last_tells_all c r p i b v e mine possible unknown = last_tells r p i b v (e ∷ mine) (still_alike c r i e mine possible unknown) (last_landed r p i (e ∷ mine)) refl

-- nothing was put out of range
pub none_beyond : (c : Config) (r p i : ℕ) (mine : List Event) → IsPossible c r mine → (c.replicas ≤ p) ⊎ (row_count c + reserve c < i) → last_landed r p i mine ≡ None
none_beyond c r p i mine possible beyond = go (last_landed r p i mine) refl
  where
    go : (last : Option (ℕ × ℕ)) → last_landed r p i mine ≡ last → last ≡ None
    go None is = refl
    go (Some y) is =
        let put = has_since (lands_entry r p i y.0 y.1) (begins_leadership r) mine (last_was_put r p i y (leadership r mine) is) in
        let range = in_range c r mine possible p i y.0 y.1 put in
        absurd (elim beyond [ inl far ↦ (let near = range.0 in omega arith) | inr far ↦ (let near = range.1 in omega arith) ])
