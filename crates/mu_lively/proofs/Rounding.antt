-- Each event of a node stands at its place of the round.
use Rattle.std.proofs.Common.{◌≡◌, ◌∙◌, ◌≢◌, ℕ, zero, suc, ◌+◌, ◌-◌, ◌*◌, ◌/◌, ◌%◌, ◌<◌, ◌≤◌, ◌==◌, inl, inr, Bool, true, false, None, Some, List, ap, arith, length, refl, sym}
use Rattle.std.specs.Prelude.{if◌then◌else◌, min, nat_lt}
use Rattle.std.specs.declared.option.Option.{Option}
use Rattle.std.proofs.Math.Nat.{add-mul-div_left, add-mul-mod_self_left, div-add-mod, div-div-eq-div-mul, mod-eq_of_lt, mod-lt, mul_assoc, mul_comm, mul-add, div-eq_of_lt}
use Rattle.std.proofs.lemmas.Nat.{mul-add-lt}
use Rattle.std.proofs.lemmas.Bool.{cases_eq, cases_lt, eq-eqb, eqb-false, eqb-true, le-ltb, lt-ltb, ltb-false, ltb-true, ne_eqb, true≢false}
use Rattle.mu_model.specs.declared.config.Config.{Config}
use Rattle.mu_model.specs.declared.event.Event.{Event}
use Rattle.mu_model.specs.declared.event.Verb.{Verb}
use Rattle.mu_model.specs.Bounds.{cycle}
use Rattle.mu_model.specs.Knowledge.{applied, known}
use Rattle.mu_model.specs.Scores.{leader}
use Rattle.mu_model.specs.Steps.{is_ask_read, is_ask_read_verb, is_beat, is_beat_read, is_beat_read_verb, is_beat_verb, is_head_of, is_head_of_verb, is_head_raise, is_head_raise_verb}
use Rattle.mu_model.specs.Stretches.{is_odd}
use Rattle.mu_model.proofs.Basics.{same_number}
use Rattle.mu_grant.specs.Pace.{host_place}
use Rattle.mu_grant.specs.Stands.{is_of_place}
use Rattle.mu_follow.specs.Due.{head_due, other_head_due, other_of, own_fuo, replay_due}
use Rattle.mu_lively.specs.Heads.{RaisesHeadAt}
use Rattle.mu_lead.specs.declared.place.Place.{Place}
use Rattle.mu_lead.specs.Beside.{leads_at}
use Rattle.mu_lead.specs.Standing.{verb_at}
use Rattle.mu_pace.specs.Collecting.{KeepsRounds}
use Rattle.mu_pace.specs.Counters.{IsInTime}
use Rattle.mu_agree.specs.Moments.{AtEachMoment, AtEachStep}
use Rattle.mu_pace.specs.Watches.{is_head_due, raising_head}
use Rattle.mu_pace.proofs.Cycles.{steps_give}
use Rattle.mu_pace.proofs.Rounds.{places_are_indices}
use Rattle.mu_node.specs.Cycle.{handed, other_at, place_now, read_at}
use Rattle.mu_node.specs.Due.{or_ahead, verb_or_beat, listed_due}
use Rattle.mu_node.specs.Journal.{WasMade}
use Rattle.mu_lively.proofs.HeadsRise.{heads_rise_in_time}
use Rattle.mu_node.proofs.Cycled.{FailsBackground, background_fails}
use Rattle.mu_node.proofs.Failing.{Fails, either}
use Rattle.mu_node.proofs.CatchingUp.{catches_reading, made_led, reading_fails}
use Rattle.mu_node.proofs.Turning.{handed_here}
use Rattle.mu_lead.specs.Journal.{due_after, number_due, place_after, tables_at}

-- a place of the background, from the place of the round
pub at_place : (c : Config) (x : ℕ) (mine : List Event) → length mine % cycle c ≡ 2 * x → (is_odd (length mine) ≡ false) × (place_now c mine ≡ x)
at_place c x mine at =
    let whole : 2 * (2 * c.replicas + 22) ≡ cycle c = omega arith in
    let is = places_are_indices.place (2 * c.replicas + 22) x (length mine) (omega arith) (ap (λ z. length mine % z) whole ∙ at) in
    let even = is.0 in
    (ne_eqb (length mine % 2) 1 (λ one. omega (arith, even, one)), is.1)

-- and back
pub place_index : (c : Config) (x : ℕ) (mine : List Event) → is_odd (length mine) ≡ false → place_now c mine ≡ x → length mine % cycle c ≡ 2 * x
place_index c x mine even at =
    let whole : 2 * (2 * c.replicas + 22) ≡ cycle c = omega arith in
    let low = mod-lt (length mine) {m = 2} (omega arith) in
    let none : length mine % 2 ≡ 0 = elim (cases_eq (length mine % 2) 1) [ inl one ↦ absurd (true≢false (sym (eq-eqb (length mine % 2) 1 one) ∙ even)) | inr other ↦ omega (arith, low, other) ] in
    ap (λ z. length mine % z) (sym whole) ∙ places_are_indices.index (2 * c.replicas + 22) x (length mine) (omega arith) none at

-- a place of longer rounds, each of some shorter ones
pub in_longer : (a b t s m : ℕ) → t < a → s < b → m % (a * b) ≡ t * b + s → (m % b ≡ s) × (m / b % a ≡ t)
in_longer a b t s m few low at =
    let whole = div-add-mod m (a * b) in
    let by_parts : a * b * (m / (a * b)) ≡ b * (a * (m / (a * b))) = ap (λ z. z * (m / (a * b))) (swapped a b) ∙ mul_assoc b a (m / (a * b)) in
    let first : t * b ≡ b * t = swapped t b in
    let sum : b * (t + a * (m / (a * b))) ≡ b * t + b * (a * (m / (a * b))) = both b t (a * (m / (a * b))) in
    let is : m ≡ s + b * (t + a * (m / (a * b))) = omega (arith, whole, by_parts, first, sum, at) in
    let some : 0 < b = omega (arith, low) in (
      ap (λ z. z % b) is ∙ (add-mul-mod_self_left s b (t + a * (m / (a * b))) ∙ mod-eq_of_lt low),
      (let over : m / b ≡ t + a * (m / (a * b)) = ap (λ z. z / b) is ∙ (add-mul-div_left s (t + a * (m / (a * b))) some ∙ (ap (λ z. z + (t + a * (m / (a * b)))) (none s b low) ∙ plain (t + a * (m / (a * b))))) in
          ap (λ z. z % a) over ∙ (add-mul-mod_self_left t a (m / (a * b)) ∙ mod-eq_of_lt few)),
    )
  where
    swapped : (x y : ℕ) → x * y ≡ y * x
    swapped x y = mul_comm x y

    both : (x y z : ℕ) → x * (y + z) ≡ x * y + x * z
    both x y z = mul-add x y z

    none : (x y : ℕ) → x < y → x / y ≡ 0
    none x y few = div-eq_of_lt few

    plain : (z : ℕ) → 0 + z ≡ z
    plain z = omega arith

-- what is read at a place before those of the host
pub read_here : (c : Config) (r x : ℕ) (mine : List Event) (e : Event) → WasMade c r mine e → length mine % cycle c ≡ 2 * x → x < 2 * c.replicas → e.verb ≡ read_at c.replicas r x
read_here c r x mine e held at low =
    let here = at_place c x mine at in
    let made = held.made.background here.0 in
    let same = here.1 in
    made.2 ∙ (ap (or_ahead held.zeal c r mine) (made.1.read (omega (arith, same, low))) ∙ ap (λ z. read_at c.replicas r z) same)

-- what the replayer has due is what was made
pub replayed_at : (c : Config) (r f : ℕ) (mine : List Event) (e : Event) (held : WasMade c r mine e) → length mine % cycle c ≡ 2 * (2 * c.replicas + 4 + f)
    → (is_odd (length mine) ≡ false) × (e.verb ≡ or_ahead held.zeal c r mine (replay_due c r mine (handed c r mine) f (leads_at (place_after c r mine))))
replayed_at c r f mine e held at =
    let here = at_place c (2 * c.replicas + 4 + f) mine at in
    let made = held.made.background here.0 in
    let same = here.1 in
    (here.0, made.2 ∙ ap (or_ahead held.zeal c r mine) (made.1.replay f same))

-- the beat
beat_here : (c : Config) (r : ℕ) (mine : List Event) (e : Event) → r < c.replicas → WasMade c r mine e → length mine % cycle c ≡ 2 * 0 → is_beat e ≡ true
beat_here c r mine e inside held at = ap is_beat_verb (read_here c r 0 mine e held at (omega (arith, inside)))

-- the place of q among the others, counted from 1
abbrev pub beat_place : ℕ → ℕ → ℕ
beat_place r q = if nat_lt q r then q + 1 else q

-- a read of a beat at its place, and of asks
read_beat : (n r x : ℕ) → x ≢ 0 → x < n → read_at n r x ≡ Verb.ReadBeat (other_at r x)
read_beat n r x some low = ap (λ s. if s then Verb.Beat else if nat_lt x n then Verb.ReadBeat (other_at r x) else Verb.ReadAsk (x - n)) (ne_eqb x 0 some) ∙ ap (λ t. if t then Verb.ReadBeat (other_at r x) else Verb.ReadAsk (x - n)) (lt-ltb x n low)

read_ask : (n r x : ℕ) → x ≢ 0 → n ≤ x → read_at n r x ≡ Verb.ReadAsk (x - n)
read_ask n r x some high = ap (λ s. if s then Verb.Beat else if nat_lt x n then Verb.ReadBeat (other_at r x) else Verb.ReadAsk (x - n)) (ne_eqb x 0 some) ∙ ap (λ t. if t then Verb.ReadBeat (other_at r x) else Verb.ReadAsk (x - n)) (le-ltb x n high)

-- the place of q is that of q
record IsPlaceOf (n r q x : ℕ) : Type 0 where
  some : x ≢ 0
  low : x < n
  is : other_at r x ≡ q

beat_of : (n r q : ℕ) → q < n → r < n → q ≢ r → IsPlaceOf n r q (beat_place r q)
beat_of n r q low inside other = go (nat_lt q r) refl
  where
    go : (t : Bool) → nat_lt q r ≡ t → IsPlaceOf n r q (if t then q + 1 else q)
    go true below =
        let under = ltb-true q r below in
        record {
          some = λ e. omega (arith, e);
          low = omega (arith, under, inside);
          is = ap (λ t. if t then q + 1 else q + 1 - 1) (le-ltb r (q + 1) (omega (arith, under))) ∙ omega arith;
        }
    go false above =
        let over = ltb-false q r above in
        let far : r < q = elim (cases_lt r q) [ inl l ↦ l | inr l ↦ absurd (other (omega (arith, l, over))) ] in
        record { some = λ e. omega (arith, e, far); low = low; is = ap (λ t. if t then q else q - 1) (lt-ltb r q far) }

place_of_other : (r x q : ℕ) → x ≢ 0 → other_at r x ≡ q → x ≡ beat_place r q
place_of_other r x q some is = go (nat_lt r x) refl is
  where
    go : (t : Bool) → nat_lt r x ≡ t → (if t then x else x - 1) ≡ q → x ≡ (if nat_lt q r then q + 1 else q)
    go true above is = let over = ltb-true r x above in is ∙ sym (ap (λ t. if t then q + 1 else q) (le-ltb q r (omega (arith, over, is))))
    go false below is =
        let under = ltb-false r x below in
        let one : x ≡ q + 1 = from_less x q some is in
        one ∙ sym (ap (λ t. if t then q + 1 else q) (lt-ltb q r (omega (arith, under, one))))
      where
        from_less : (x q : ℕ) → x ≢ 0 → x - 1 ≡ q → x ≡ q + 1
        from_less zero q some is = absurd (some refl)
        from_less (suc x) q some is = omega (arith, is)

beats_here : (c : Config) (r q : ℕ) (mine : List Event) (e : Event) → r < c.replicas → q < c.replicas → q ≢ r → WasMade c r mine e → length mine % cycle c ≡ 2 * beat_place r q → is_beat_read q e ≡ true
beats_here c r q mine e inside low other held at =
    let place = beat_of c.replicas r q low inside other in
    let few = place.low in
    ap (is_beat_read_verb q) (read_here c r (beat_place r q) mine e held at (omega (arith, few)) ∙ (read_beat c.replicas r (beat_place r q) place.some few ∙ ap Verb.ReadBeat place.is)) ∙ same_number q

asks_here : (c : Config) (r w : ℕ) (mine : List Event) (e : Event) → w < c.replicas → WasMade c r mine e → length mine % cycle c ≡ 2 * (c.replicas + w) → is_ask_read w e ≡ true
asks_here c r w mine e low held at =
    let number : c.replicas + w - c.replicas ≡ w = omega arith in
    ap (is_ask_read_verb w) (read_here c r (c.replicas + w) mine e held at (omega (arith, low)) ∙ (read_ask c.replicas r (c.replicas + w) (λ none. omega (arith, none, low)) (omega arith) ∙ ap Verb.ReadAsk number)) ∙ same_number w

-- such is the read of a beat
beat_fails : (q : ℕ) → FailsBackground (is_beat_read_verb q)
beat_fails q = record { replays = record { beat = refl; fuo = λ p. refl; look = λ p i. refl; row = λ v k. refl; raise = λ p u. refl; raise_head = λ h. refl; head = λ q. refl }; host = host }
  where
    host : (d : ℕ) (verb : Verb) → is_of_place d verb ≡ true → is_beat_read_verb q verb ≡ false
    host d (Verb.ReadBeat p) is = absurd (true≢false (sym is))
    host d verb is = refl

-- what a leader has due reads none
led_no_beat : (c : Config) (r q : ℕ) (mine : List Event) → Fails (is_beat_read_verb q) (due_after c r mine)
led_no_beat c r q mine = either (is_beat_read_verb q) (leader c r mine == r) (listed_due c r mine) None (at c (number_due r mine) (known c r mine) (tables_at c r mine).up (tables_at c r mine).written (place_after c r mine)) refl
  where
    at : (c : Config) (b : ℕ) (values up written : List ℕ) (place : Place) → is_beat_read_verb q (verb_or_beat (verb_at c b values up written place)) ≡ false
    at c b values up written Place.Rest = refl
    at c b values up written place = refl

-- a beat is read only at its place
apart_here : (c : Config) (r q : ℕ) (mine : List Event) (e : Event) → WasMade c r mine e → is_beat_read q e ≡ true → length mine % cycle c ≡ 2 * beat_place r q
apart_here c r q mine e held reads = go (is_odd (length mine)) refl
  where
    place : ℕ
    place = place_now c mine

    not_due : (due : Option Verb) → Fails (is_beat_read_verb q) due → e.verb ≡ verb_or_beat due → ⊥
    not_due due no_beat made = true≢false (sym reads ∙ (ap (is_beat_read_verb q) made ∙ no_beat))

    of_read : (s : Bool) → (place == 0) ≡ s → (t : Bool) → is_beat_read_verb q (if s then Verb.Beat else if t then Verb.ReadBeat (other_at r place) else Verb.ReadAsk (place - c.replicas)) ≡ true → place ≡ beat_place r q
    of_read true first t is = absurd (true≢false (sym is))
    of_read false first true is = place_of_other r place q (eqb-false place 0 first) (eqb-true (other_at r place) q is)
    of_read false first false is = absurd (true≢false (sym is))

    go : (t : Bool) → is_odd (length mine) ≡ t → length mine % cycle c ≡ 2 * beat_place r q
    go true odd = elim (made_led held.zeal c r mine e.verb (held.made.replication odd)) [
      | inl listed ↦ absurd (not_due (due_after c r mine) (led_no_beat c r q mine) listed)
      | inr third ↦ elim third [
        | inl caught ↦ absurd (true≢false (sym reads ∙ reading_fails (is_beat_read_verb q) e.verb (catches_reading c r mine e.verb caught.due) (λ p i. refl) (λ v k. refl)))
        | inr out ↦ absurd (true≢false (sym reads ∙ ap (is_beat_read_verb q) out.first))
      ]
    ]
    go false even =
        let made = held.made.background even in
        elim (cases_lt place (host_place c 0)) [
          | inl low ↦ (let is : e.verb ≡ read_at c.replicas r place = made.2 ∙ ap (or_ahead held.zeal c r mine) (made.1.read low) in
              place_index c (beat_place r q) mine even (of_read (place == 0) refl (nat_lt place c.replicas) (sym (ap (is_beat_read_verb q) is) ∙ reads)))
          | inr high ↦ absurd (true≢false (sym reads ∙ (ap (is_beat_read_verb q) made.2 ∙ background_fails (is_beat_read_verb q) (beat_fails q) (λ j k x. refl) held.zeal c r mine (leads_at (place_after c r mine)) made.0 high made.1)))
        ]

-- the place of q among the others, counted from 0
abbrev pub head_turn : ℕ → ℕ → ℕ
head_turn r q = if nat_lt q r then q else q - 1

other_turn : (n r q : ℕ) → q < n → r < n → q ≢ r → (other_of r (head_turn r q) ≡ q) × (head_turn r q < n - 1)
other_turn n r q low inside other = go (nat_lt q r) refl
  where
    go : (t : Bool) → nat_lt q r ≡ t → (other_of r (if t then q else q - 1) ≡ q) × ((if t then q else q - 1) < n - 1)
    go true below = let under = ltb-true q r below in (ap (λ t. if t then q else q + 1) below, omega (arith, under, inside))
    go false above =
        let over = ltb-false q r above in
        let far : r < q = elim (cases_lt r q) [ inl l ↦ l | inr l ↦ absurd (other (omega (arith, l, over))) ] in
        let back : q - 1 + 1 ≡ q = omega (arith, far) in
        (ap (λ t. if t then q - 1 else q - 1 + 1) (le-ltb (q - 1) r (omega (arith, far))) ∙ back, omega (arith, far, low))

-- the place of q's head in rounds of as many cycles as there are others
abbrev pub head_index : Config → ℕ → ℕ → ℕ
head_index c r q = head_turn r q * cycle c + 2 * (2 * c.replicas + 21)

heads_here : (c : Config) (r q : ℕ) (mine : List Event) (e : Event) → r < c.replicas → q < c.replicas → q ≢ r → WasMade c r mine e → length mine % ((c.replicas - 1) * cycle c) ≡ head_index c r q → is_head_of q e ≡ true
heads_here c r q mine e inside low other held at =
    let turn = other_turn c.replicas r q low inside other in
    let split = in_longer (c.replicas - 1) (cycle c) (head_turn r q) (2 * (2 * c.replicas + 21)) (length mine) turn.1 (omega arith) at in
    let here = replayed_at c r 17 mine e held (split.0 ∙ omega arith) in
    let many : c.replicas ≢ 1 = (λ one. other (omega (arith, one, low, inside))) in
    let whole : 2 * (2 * c.replicas + 22) ≡ cycle c = omega arith in
    let rounds : length mine / 2 / (2 * c.replicas + 22) % (c.replicas - 1) ≡ head_turn r q = ap (λ z. z % (c.replicas - 1)) (div-div-eq-div-mul (length mine) 2 (2 * c.replicas + 22) ∙ ap (λ z. length mine / z) whole) ∙ split.1 in
    let due : other_head_due c r mine ≡ Some (Verb.Head q) =
    ap (λ t. if t then None else Some (Verb.Head (other_of r (length mine / 2 / (2 * c.replicas + 22) % (c.replicas - 1))))) (ne_eqb c.replicas 1 many) ∙ ap (λ z. Some (Verb.Head (other_of r z))) rounds ∙ ap (λ z. Some (Verb.Head z)) turn.0 in
    ap (is_head_of_verb q) (here.1 ∙ ap (or_ahead held.zeal c r mine) due) ∙ same_number q

-- the reads of a node stand at places of their own
pub keeps_rounds : (c : Config) (r : ℕ) (mine : List Event) → r < c.replicas → AtEachStep (WasMade c r) mine → KeepsRounds c r mine
keeps_rounds c r mine inside made = record {
  beat = (0, (omega arith, steps_give (WasMade c r) (λ before e. length before % cycle c ≡ 0 → is_beat e ≡ true) (λ before e held at. beat_here c r before e inside held at) mine made));
  beats = λ q low other. (
    2 * beat_place r q,
    (
      (let few = (beat_of c.replicas r q low inside other).low in omega (arith, few)),
      steps_give (WasMade c r) (λ before e. length before % cycle c ≡ 2 * beat_place r q → is_beat_read q e ≡ true) (λ before e held at. beats_here c r q before e inside low other held at) mine made,
    ),
  );
  apart = λ q. (2 * beat_place r q, steps_give (WasMade c r) (λ before e. is_beat_read q e ≡ true → length before % cycle c ≡ 2 * beat_place r q) (λ before e held reads. apart_here c r q before e held reads) mine made);
  asks = λ w low. (
    2 * (c.replicas + w),
    (
      omega (arith, low),
      steps_give (WasMade c r) (λ before e. length before % cycle c ≡ 2 * (c.replicas + w) → is_ask_read w e ≡ true) (λ before e held at. asks_here c r w before e low held at) mine made,
    ),
  );
  heads = λ q low other. (
    head_index c r q,
    (
      in_round c.replicas (cycle c) (head_turn r q) (2 * (2 * c.replicas + 21)) (other_turn c.replicas r q low inside other).1 (omega arith),
      steps_give (WasMade c r) (λ before e. length before % ((c.replicas - 1) * cycle c) ≡ head_index c r q → is_head_of q e ≡ true) (λ before e held at. heads_here c r q before e inside low other held at) mine made,
    ),
  );
}
  where
    in_round : (n b t s : ℕ) → t < n - 1 → s < b → t * b + s < (n - 1) * b
    in_round n b t s few low = let few = mul-add-lt t b s (n - 1) few low in let same = mul_comm b (n - 1) in omega (arith, few, same)

-- the head is raised at its place, if it may be
head_raised : (c : Config) (r : ℕ) (mine : List Event) (e : Event) → WasMade c r mine e → length mine % cycle c ≡ 2 * (2 * c.replicas + 20) → is_head_due c r mine ≡ true → is_head_raise e ≡ true
head_raised c r mine e held at due =
    let here = at_place c (2 * c.replicas + 20) mine at in
    let made = replayed_at c r 16 mine e held (at ∙ omega arith) in
    let all : handed c r mine ≡ length (applied c r mine) = handed_here c r mine here.0 (eq-eqb (place_now c mine) (2 * c.replicas + 20) here.1) in
    let raise : head_due r mine (handed c r mine) ≡ Some (Verb.RaiseHead (min (length (applied c r mine)) (own_fuo r mine))) =
    ap (head_due r mine) all ∙ ap (λ t. if t then Some (Verb.RaiseHead (min (length (applied c r mine)) (own_fuo r mine))) else None) due in
    ap is_head_raise_verb (made.1 ∙ ap (or_ahead held.zeal c r mine) raise)

raises_head : (c : Config) (r : ℕ) (mine : List Event) → AtEachStep (WasMade c r) mine → RaisesHeadAt c r (2 * (2 * c.replicas + 20)) mine
raises_head c r mine made =
    steps_give (WasMade c r) (λ before e. length before % cycle c ≡ 2 * (2 * c.replicas + 20) → is_head_due c r before ≡ true → is_head_raise e ≡ true) (λ before e held at due. head_raised c r before e held at due) mine made

pub raised_in_time : (c : Config) (r : ℕ) (mine : List Event) → AtEachStep (WasMade c r) mine → AtEachMoment (IsInTime (raising_head c r)) mine
raised_in_time c r mine made = heads_rise_in_time c r (2 * (2 * c.replicas + 20)) mine (omega arith) (raises_head c r mine made)
