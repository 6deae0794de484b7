-- The last put at a known position tells whether the known value was put there, and how far a region has what is known.
use Rattle.std.proofs.Common.{◌≡◌, ℕ, zero, suc, ◌<◌, ◌≤◌, ◌⊎◌, inl, inr, Bool, true, false, cond, ◌==◌, ◌&&◌, ◌||◌, List, [], ◌∷◌, length, refl, sym, ◌∙◌, ap, arith, Some, None, subst, true≢false, eqb-true}
use Rattle.std.specs.Prelude.{if◌then◌else◌, nat_lt}
use Rattle.std.specs.declared.option.Option.{Option}
use Rattle.std.specs.List.{slice_get}
use Rattle.std.proofs.lemmas.Bool.{and_parts, le-ltb, ltb-false, ltb-true, or_cases}
use Rattle.std.proofs.lemmas.Option.{slice_get_past, slice_get_within}
use Rattle.mu_model.specs.declared.config.Config.{Config}
use Rattle.mu_model.specs.declared.event.Answer.{Answer}
use Rattle.mu_model.specs.declared.event.Event.{Event}
use Rattle.mu_model.specs.declared.event.Verb.{Verb}
use Rattle.mu_model.specs.Allowed.{Needs}
use Rattle.mu_model.specs.Histories.{has, max_with, newer_or}
use Rattle.mu_model.specs.Knowledge.{fuo_read, greatest_fuo_read, grown, is_put_done, is_value, known, lands_entry, learnt_by}
use Rattle.mu_model.specs.Leaderships.{begins_leadership, is_first_ask, leadership}
use Rattle.mu_model.specs.Parts.{IsPossible}
use Rattle.mu_model.specs.Placing.{is_caught_up_at, is_known_put}
use Rattle.mu_agree.proofs.Landings.{has_cases, has_implied, has_more}
use Rattle.mu_agree.proofs.Possible.{parts_shorten_law}
use Rattle.mu_placing.specs.FilledLogs.{IsFirstBehind, has_known}
use Rattle.mu_knowledge.specs.FilledLog.{is_below}
use Rattle.mu_placing.specs.LandedPuts.{last_landed}
use Rattle.mu_placing.proofs.Alike.{AreAlike, is_put, last_was_put, put_has_last, still_alike}
use Rattle.mu_knowledge.proofs.Filled.{below_max}
use Rattle.mu_model.proofs.Basics.{none_of_or, or_true, same_number, same_some, true_or}
use Rattle.mu_model.proofs.Lists.{get_push_other}
use Rattle.mu_model.proofs.Putting.{IsNew, put_facts}

-- what is known at a position stays
pub known_at_stays : (c : Config) (r j v : ℕ) (e : Event) (mine : List Event) → slice_get (known c r mine) j ≡ Some v → slice_get (known c r (e ∷ mine)) j ≡ Some v
known_at_stays c r j v e mine is = go (learnt_by c r mine (length (known c r mine)) e.by e.verb e.answer (e ∷ mine))
  where
    go : (o : Option ℕ) → slice_get (grown (known c r mine) o) j ≡ Some v
    go None = is
    go (Some w) = let low = slice_get_within (known c r mine) j v is in get_push_other (known c r mine) j w (λ at. omega (arith, at, low)) ∙ is

-- a known position has a value
known_has : (xs : List ℕ) (j : ℕ) → j < length xs → (o : Option ℕ) → slice_get xs j ≡ o → (v : ℕ) × (slice_get xs j ≡ Some v)
known_has xs j low (Some v) is = (v, is)
known_has xs j low None is = absurd (no_value xs j low is)
  where
    no_value : (ys : List ℕ) (k : ℕ) → k < length ys → slice_get ys k ≡ None → ⊥
    no_value [] k small none = omega arith
    no_value (y ∷ ys) zero small none = cc
    no_value (y ∷ ys) (suc k) small none = no_value ys k (omega arith) none

-- if a known value was put, some entry of that value was
known_entry : (values : List ℕ) (r p j : ℕ) (events : List Event) → has (λ e. is_known_put values r p j e.by e.verb e.answer) events ≡ true
    → (b : ℕ) × (v : ℕ) × (has (lands_entry r p j b v) events ≡ true) × (is_value (slice_get values j) v ≡ true)
known_entry values r p j [] m = cc
known_entry values r p j (e ∷ events) m = by_event e.by e.verb e.answer m (known_entry values r p j events)
  where
    by_event : (by : ℕ) (verb : Verb) (answer : Answer) → cond (is_known_put values r p j by verb answer) true (has (λ e. is_known_put values r p j e.by e.verb e.answer) events) ≡ true
        → (has (λ e. is_known_put values r p j e.by e.verb e.answer) events ≡ true → (b : ℕ) × (v : ℕ) × (has (lands_entry r p j b v) events ≡ true) × (is_value (slice_get values j) v ≡ true))
        → (b : ℕ) × (v : ℕ) × (cond (is_put_done r p j b v by verb answer) true (has (lands_entry r p j b v) events) ≡ true) × (is_value (slice_get values j) v ≡ true)
    by_event by (Verb.PutSlot q i n w) Answer.Done m before = elim (has_cases ((by == r) && ((q == p) && ((i == j) && is_value (slice_get values j) w))) (has (λ e. is_known_put values r p j e.by e.verb e.answer) events) m) [
      | inl here ↦
          let x = and_parts (by == r) ((q == p) && ((i == j) && is_value (slice_get values j) w)) here in
          let y = and_parts (q == p) ((i == j) && is_value (slice_get values j) w) x.1 in
          let z = and_parts (i == j) (is_value (slice_get values j) w) y.1 in
          (n, w, rw (x.0, y.0, z.0, same_number n, same_number w) refl, z.1)
      | inr old ↦ (let k = before old in (k.0, k.1, has_more (lands_entry r p j k.0 k.1) (record { by = by; verb = Verb.PutSlot q i n w; answer = Answer.Done }) events k.2, k.3))
    ]
    by_event by verb answer m before = before m

-- if an entry of a known value was put, the known value was
entry_known : (values : List ℕ) (r p j b v : ℕ) (events : List Event) → is_value (slice_get values j) v ≡ true → has (lands_entry r p j b v) events ≡ true → has (λ e. is_known_put values r p j e.by e.verb e.answer) events ≡ true
entry_known values r p j b v events value = has_implied (lands_entry r p j b v) (λ e. is_known_put values r p j e.by e.verb e.answer) (λ e m. go e.by e.verb e.answer m) events
  where
    go : (by : ℕ) (verb : Verb) (answer : Answer) → is_put_done r p j b v by verb answer ≡ true → is_known_put values r p j by verb answer ≡ true
    go by (Verb.PutSlot q i n w) Answer.Done m =
        let put = is_put r p j b v by q i n w m in
        rw (put.own, put.region, put.position, put.value, same_number r, same_number p, same_number j, value) refl
    go by verb answer m = absurd (true≢false (sym m))

-- a list with the same value at a position has the same known puts there
same_puts : (values others : List ℕ) (r p j : ℕ) (events : List Event) → ((v : ℕ) → is_value (slice_get values j) v ≡ true → is_value (slice_get others j) v ≡ true)
    → has (λ e. is_known_put values r p j e.by e.verb e.answer) events ≡ true → has (λ e. is_known_put others r p j e.by e.verb e.answer) events ≡ true
same_puts values others r p j events more = has_implied (λ e. is_known_put values r p j e.by e.verb e.answer) (λ e. is_known_put others r p j e.by e.verb e.answer) (λ e m. go e.by e.verb e.answer m) events
  where
    go : (by : ℕ) (verb : Verb) (answer : Answer) → is_known_put values r p j by verb answer ≡ true → is_known_put others r p j by verb answer ≡ true
    go by (Verb.PutSlot q i n w) Answer.Done m =
        let x = and_parts (by == r) ((q == p) && ((i == j) && is_value (slice_get values j) w)) m in
        let y = and_parts (q == p) ((i == j) && is_value (slice_get values j) w) x.1 in
        let z = and_parts (i == j) (is_value (slice_get values j) w) y.1 in
        rw (x.0, y.0, z.0, more w z.1) refl
    go by verb answer m = absurd (true≢false (sym m))

-- the entry, if there is one, is of the known value
abbrev pub is_last_known : Option ℕ → Option (ℕ × ℕ) → Bool
is_last_known value None = false
is_last_known value (Some entry) = is_value value entry.1

-- if the known value of position j was put, the last put there was of it
abbrev pub LastIsKnown : Config → ℕ → ℕ → ℕ → List Event → Type 0
LastIsKnown c r p j mine = has_known c r p mine j ≡ true → is_last_known (slice_get (known c r mine) j) (last_landed r p j mine) ≡ true

-- while the position isn't known before the event
last_unknown : (c : Config) (r p j : ℕ) (mine : List Event) → AreAlike r j mine → LastIsKnown c r p j mine
last_unknown c r p j mine alike m =
    let k = known_entry (known c r mine) r p j (leadership r mine) m in
    let y = put_has_last r p j k.0 k.1 (leadership r mine) k.2 in
    let was = last_was_put r p j y.0 (leadership r mine) y.1 in
    let same : k.1 ≡ y.0.1 = same_some k.1 y.0.1 (sym (alike p k.0 k.1 k.2).1 ∙ (alike p y.0.0 y.0.1 was).1) in
    ap (λ o. is_last_known (slice_get (known c r mine) j) o) y.1 ∙ subst (λ v. is_value (slice_get (known c r mine) j) v ≡ true) same k.3

-- a put at a known position is of the known value
put_is_known : (c : Config) (r j v : ℕ) (mine : List Event) → j < length (known c r mine) → (slice_get (known c r mine) j ≡ Some v) ⊎ IsNew c r mine j v → slice_get (known c r mine) j ≡ Some v
put_is_known c r j v mine low (inl is) = is
put_is_known c r j v mine low (inr new) = let at = new.next in absurd (omega arith)

-- the same if it is
last_known_by : (c : Config) (r p j by : ℕ) (verb : Verb) (answer : Answer) (mine : List Event) → Needs c r mine verb → j < length (known c r mine)
    → slice_get (known c r (record { by = by; verb = verb; answer = answer } ∷ mine)) j ≡ slice_get (known c r mine) j → LastIsKnown c r p j mine → LastIsKnown c r p j (record { by = by; verb = verb; answer = answer } ∷ mine)
last_known_by c r p j by (Verb.Ask q) answer mine needs low same before = go (is_first_ask r by (Verb.Ask q)) refl
  where
    go : (t : Bool) → is_first_ask r by (Verb.Ask q) ≡ t → LastIsKnown c r p j (record { by = by; verb = Verb.Ask q; answer = answer } ∷ mine)
    go true is = rw is (λ m. absurd (true≢false (sym m)))
    go false is = rw is before
last_known_by c r p j by (Verb.Look q i) answer mine needs low same before = λ m.
    let now : List Event = record { by = by; verb = Verb.Look q i; answer = answer } ∷ mine in
    ap (λ o. is_last_known o (last_landed r p j mine)) same
    ∙ before (same_puts (known c r now) (known c r mine) r p j (leadership r mine) (λ v is. sym (ap (λ o. is_value o v) same) ∙ is) m)
last_known_by c r p j by (Verb.PutSlot q i n w) Answer.Done mine needs low same before = go (by == r) refl (q == p) refl (i == j) refl
  where
    now : List Event
    now = record { by = by; verb = Verb.PutSlot q i n w; answer = Answer.Done } ∷ mine

    entry : ℕ × ℕ
    entry = (n, w)

    old : has (λ e. is_known_put (known c r now) r p j e.by e.verb e.answer) (leadership r mine) ≡ true → is_last_known (slice_get (known c r now) j) (last_landed r p j mine) ≡ true
    old m = ap (λ o. is_last_known o (last_landed r p j mine)) same ∙ before (same_puts (known c r now) (known c r mine) r p j (leadership r mine) (λ v is. sym (ap (λ o. is_value o v) same) ∙ is) m)

    go : (t : Bool) → (by == r) ≡ t → (u : Bool) → (q == p) ≡ u → (x : Bool) → (i == j) ≡ x
        → cond (t && (u && (x && is_value (slice_get (known c r now) j) w))) true (has (λ e. is_known_put (known c r now) r p j e.by e.verb e.answer) (leadership r mine)) ≡ true
        → is_last_known (slice_get (known c r now) j) (newer_or (cond (t && (u && x)) (Some entry) None) (last_landed r p j mine)) ≡ true
    go true own true region true position m =
        let at : i ≡ j = eqb-true i j position in
        let there : slice_get (known c r mine) i ≡ Some w = put_is_known c r i w mine (omega arith) (put_facts c r mine q i n w needs).value in
        let here : slice_get (known c r now) j ≡ Some w = same ∙ subst (λ k. slice_get (known c r mine) k ≡ Some w) at there in
        ap (λ o. is_value o w) here ∙ same_number w
    go true own true region false position m = old m
    go true own false region x position m = old m
    go false own u region x position m = old m
last_known_by c r p j by verb answer mine needs low same before = before

last_is_known : (c : Config) (r p j : ℕ) (mine : List Event) → IsPossible c r mine → LastIsKnown c r p j mine
last_is_known c r p j [] possible = λ m. absurd (true≢false (sym m))
last_is_known c r p j (e ∷ mine) possible = go (last_is_known c r p j mine (parts_shorten_law c r mine e possible).before) (nat_lt j (length (known c r mine))) refl
  where
    go : LastIsKnown c r p j mine → (t : Bool) → nat_lt j (length (known c r mine)) ≡ t → LastIsKnown c r p j (e ∷ mine)
    go before false is = last_unknown c r p j (e ∷ mine) (still_alike c r j e mine possible (ltb-false j (length (known c r mine)) is))
    go before true is =
        let low = ltb-true j (length (known c r mine)) is in
        let s = parts_shorten_law c r mine e possible in
        let v = known_has (known c r mine) j low (slice_get (known c r mine) j) refl in
        last_known_by c r p j e.by e.verb e.answer mine s.allowed.may low (known_at_stays c r j v.0 e mine v.1 ∙ sym v.1) before

-- whether the known value was put is told by the last put
pub last_tells_known : (c : Config) (r p j : ℕ) (mine : List Event) → IsPossible c r mine → is_last_known (slice_get (known c r mine) j) (last_landed r p j mine) ≡ has_known c r p mine j
last_tells_known c r p j mine possible = go (last_landed r p j mine) refl (has_known c r p mine j) refl
  where
    go : (last : Option (ℕ × ℕ)) → last_landed r p j mine ≡ last → (t : Bool) → has_known c r p mine j ≡ t → is_last_known (slice_get (known c r mine) j) last ≡ t
    go last at true is = sym (ap (λ o. is_last_known (slice_get (known c r mine) j) o) at) ∙ last_is_known c r p j mine possible is
    go None at false is = refl
    go (Some y) at false is = back (is_value (slice_get (known c r mine) j) y.1) refl
      where
        back : (u : Bool) → is_value (slice_get (known c r mine) j) y.1 ≡ u → u ≡ false
        back true value = sym (entry_known (known c r mine) r p j y.0 y.1 (leadership r mine) value (last_was_put r p j y (leadership r mine) at)) ∙ is
        back false value = refl

-- beyond the known positions nothing known was put
pub none_known_beyond : (c : Config) (r p j : ℕ) (mine : List Event) → IsPossible c r mine → length (known c r mine) ≤ j → has_known c r p mine j ≡ false
none_known_beyond c r p j mine possible beyond = sym (last_tells_known c r p j mine possible) ∙ ap (λ o. is_last_known o (last_landed r p j mine)) (slice_get_past (known c r mine) j beyond) ∙ nothing (last_landed r p j mine)
  where
    nothing : (o : Option (ℕ × ℕ)) → is_last_known None o ≡ false
    nothing None = refl
    nothing (Some y) = refl

-- what was put of the known values stays
known_put_stays : (c : Config) (r p j : ℕ) (e : Event) (mine : List Event) → begins_leadership r e ≡ false → has_known c r p mine j ≡ true → has_known c r p (e ∷ mine) j ≡ true
known_put_stays c r p j e mine on m =
    rw on (has_more (λ f. is_known_put (known c r (e ∷ mine)) r p j f.by f.verb f.answer) e (leadership r mine)
    (same_puts (known c r mine) (known c r (e ∷ mine)) r p j (leadership r mine) (λ v is. go v (slice_get (known c r mine) j) refl is) m))
  where
    go : (v : ℕ) (o : Option ℕ) → slice_get (known c r mine) j ≡ o → is_value o v ≡ true → is_value (slice_get (known c r (e ∷ mine)) j) v ≡ true
    go v None at is = absurd (true≢false (sym is))
    go v (Some w) at is = ap (λ o. is_value o v) (known_at_stays c r j w e mine at) ∙ is

-- the greatest FUO read in the leadership, after the event
greatest_by : (r p by : ℕ) (verb : Verb) (answer : Answer) (mine : List Event) → greatest_fuo_read r p (leadership r (record { by = by; verb = verb; answer = answer } ∷ mine))
    ≡ max_with (fuo_read r p by verb answer) (if begins_leadership r (record { by = by; verb = verb; answer = answer }) then 0 else greatest_fuo_read r p (leadership r mine))
greatest_by r p by (Verb.Ask q) answer mine = go (is_first_ask r by (Verb.Ask q)) refl
  where
    go : (t : Bool) → is_first_ask r by (Verb.Ask q) ≡ t → greatest_fuo_read r p (cond t [] (record { by = by; verb = Verb.Ask q; answer = answer } ∷ leadership r mine)) ≡ (if t then 0 else greatest_fuo_read r p (leadership r mine))
    go true is = refl
    go false is = refl
greatest_by r p by verb answer mine = refl

max_more : (o : Option ℕ) (x y : ℕ) → x ≤ y → max_with o x ≤ max_with o y
max_more None x y low = low
max_more (Some z) x y low = omega arith

if_more : (t : Bool) (x y : ℕ) → x ≤ y → (if t then 0 else x) ≤ (if t then 0 else y)
if_more true x y low = omega arith
if_more false x y low = low

-- how far region p has what is known after the event: from the greater of what it read and what it had, up to the first position that it lacks
pub caught_step : (c : Config) (r p held to : ℕ) (e : Event) (mine : List Event) → ((j : ℕ) → j < held → is_caught_up_at c r p mine j ≡ true) → is_caught_up_at c r p mine held ≡ false
    → IsFirstBehind c r p (e ∷ mine) (max_with (fuo_read r p e.by e.verb e.answer) (if begins_leadership r e then 0 else held)) to
    → ((j : ℕ) → j < to → is_caught_up_at c r p (e ∷ mine) j ≡ true) × (is_caught_up_at c r p (e ∷ mine) to ≡ false)
caught_step c r p held to e mine below next moved = (caught, ahead)
  where
    read : Option ℕ
    read = fuo_read r p e.by e.verb e.answer

    seen : ℕ
    seen = greatest_fuo_read r p (leadership r mine)

    now : ℕ
    now = greatest_fuo_read r p (leadership r (e ∷ mine))

    from : ℕ
    from = max_with read (if begins_leadership r e then 0 else held)

    is_now : now ≡ max_with read (if begins_leadership r e then 0 else seen)
    is_now = greatest_by r p e.by e.verb e.answer mine

    low : now ≤ to
    low =
        let before : seen ≤ held = ltb-false held seen (none_of_or (nat_lt held seen) (has_known c r p mine held) next) in
        let more = max_more read (if begins_leadership r e then 0 else seen) (if begins_leadership r e then 0 else held) (if_more (begins_leadership r e) seen held before) in
        let start = moved.low in
        omega (arith, is_now, more, start)

    ahead : is_caught_up_at c r p (e ∷ mine) to ≡ false
    ahead = ap (λ x. x || has_known c r p (e ∷ mine) to) (le-ltb to now low) ∙ moved.lacks

    by_read : (j : ℕ) → is_below read j ≡ true → nat_lt j now ≡ true
    by_read j is = ap (λ x. nat_lt j x) is_now ∙ below_max read (if begins_leadership r e then 0 else seen) j ∙ true_or (is_below read j) (nat_lt j (if begins_leadership r e then 0 else seen)) is

    still : (j : ℕ) (t : Bool) → begins_leadership r e ≡ t → nat_lt j (if t then 0 else held) ≡ true → is_caught_up_at c r p (e ∷ mine) j ≡ true
    still j true on is = let none = ltb-true j 0 is in absurd (omega arith)
    still j false on is = elim (or_cases (nat_lt j seen) (has_known c r p mine j) (below j (ltb-true j held is))) [
      | inl k ↦ true_or (nat_lt j now) (has_known c r p (e ∷ mine) j) (ap (λ x. nat_lt j x) (is_now ∙ ap (λ t. max_with read (if t then 0 else seen)) on) ∙ below_max read seen j ∙ or_true (is_below read j) (nat_lt j seen) k)
      | inr k ↦ or_true (nat_lt j now) (has_known c r p (e ∷ mine) j) (known_put_stays c r p j e mine on k)
    ]

    caught : (j : ℕ) → j < to → is_caught_up_at c r p (e ∷ mine) j ≡ true
    caught j small = go (nat_lt j from) refl
      where
        go : (t : Bool) → nat_lt j from ≡ t → is_caught_up_at c r p (e ∷ mine) j ≡ true
        go false is = or_true (nat_lt j now) (has_known c r p (e ∷ mine) j) (moved.had j (ltb-false j from is) small)
        go true is = elim (or_cases (is_below read j) (nat_lt j (if begins_leadership r e then 0 else held)) (sym (below_max read (if begins_leadership r e then 0 else held) j) ∙ is)) [
          | inl k ↦ true_or (nat_lt j now) (has_known c r p (e ∷ mine) j) (by_read j k)
          | inr k ↦ still j (begins_leadership r e) refl k
        ]
