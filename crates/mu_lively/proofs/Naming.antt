-- What a node's journal shows of its beats, of the counts that it reads, of whom it names and of its asks.
use Rattle.std.proofs.Common.{◌≡◌, ◌∙◌, ◌≢◌, ℕ, ◌+◌, ◌<◌, ◌≤◌, ◌==◌, ◌&&◌, ◌⊎◌, inl, inr, Bool, true, false, cond, None, Some, List, [], ◌∷◌, ◌++◌, ap, append_assoc, arith, drop, eqb-true, eq-eqb, length, refl, subst, sym, take}
use Rattle.std.specs.Prelude.{if◌then◌else◌, not}
use Rattle.std.specs.declared.option.Option.{Option}
use Rattle.std.proofs.Math.Nat.{mod-eq_of_lt}
use Rattle.std.proofs.lemmas.Bool.{cases_eq, cases_lt, ne_eqb, true≢false, and_parts}
use Rattle.std.proofs.lemmas.List.{length-take, take-append-drop}
use Rattle.mu_model.specs.declared.config.Config.{Config}
use Rattle.mu_model.specs.declared.event.Answer.{Answer}
use Rattle.mu_model.specs.declared.event.Event.{Event}
use Rattle.mu_model.specs.declared.event.Verb.{Verb}
use Rattle.mu_model.specs.Answers.{answer_of}
use Rattle.mu_model.specs.Bounds.{cycle}
use Rattle.mu_model.specs.Histories.{has, how_many, newer_or, newest, or_zero, part, since}
use Rattle.mu_model.specs.Regions.{beats, is_beat_by}
use Rattle.mu_model.specs.Scores.{beat_read, leader, next_score, score, score_after_read}
use Rattle.mu_model.specs.Steps.{is_asking, is_asking_verb, is_beat, is_beat_read, is_beat_read_verb, is_beat_verb, is_named}
use Rattle.mu_model.specs.Stretches.{is_odd}
use Rattle.mu_detect.specs.Stands.{last_count}
use Rattle.mu_detect.proofs.Leaders.{alive_leads, may_lead, own_leads}
use Rattle.mu_model.proofs.Least.{least_found}
use Rattle.mu_grant.specs.Pace.{host_place}
use Rattle.mu_grant.specs.Stands.{is_of_place}
use Rattle.mu_lead.specs.Beside.{leads_at}
use Rattle.mu_agree.specs.Moments.{AtEachStep}
use Rattle.mu_pace.proofs.Cycles.{rounds_read_in_time}
use Rattle.mu_pace.proofs.Rounds.{rounds_keep_pace}
use Rattle.mu_lead.specs.declared.place.Place.{Place}
use Rattle.mu_lead.specs.Standing.{verb_at}
use Rattle.mu_model.specs.Knowledge.{known}
use Rattle.mu_node.specs.declared.zeal.Zeal.{Zeal}
use Rattle.mu_node.specs.Watch.{is_beat_read as reads_beat}
use Rattle.mu_node.proofs.Cycled.{cycle_fails, FailsBackground}
use Rattle.mu_lively.proofs.Rounding.{keeps_rounds, read_here}
use Rattle.mu_lead.specs.Ahead.{entry_before, word_after}
use Rattle.mu_node.proofs.CatchingUp.{catches_reading, made_led, reading_fails}
use Rattle.mu_node.specs.Cycle.{place_now}
use Rattle.mu_node.specs.Due.{or_ahead, verb_or_beat, listed_due}
use Rattle.mu_node.specs.Journal.{WasMade}
use Rattle.mu_lively.proofs.Named.{led_named, was_named}
use Rattle.mu_lively.proofs.Asked.{of_lead}
use Rattle.mu_node.proofs.Failing.{Fails, read_fails}
use Rattle.mu_lead.specs.Journal.{place_after, tables_at, number_due}
use Rattle.mu_pace.proofs.Pasts.{how_many-append, some_counted}

-- how often q has beaten is how many beats its part has
pub beats_part : (q : ℕ) (past : List Event) → how_many is_beat (part q past) ≡ beats q past
beats_part q [] = refl
beats_part q (e ∷ past) = go (e.by == q) refl (beats_part q past)
  where
    own : (by : ℕ) (verb : Verb) → (by == q) ≡ true → is_beat_verb verb ≡ is_beat_by q by verb
    own by Verb.Beat is = sym is
    own by verb is = refl

    others : (by : ℕ) (verb : Verb) → (by == q) ≡ false → is_beat_by q by verb ≡ false
    others by Verb.Beat is = is
    others by verb is = refl

    go : (t : Bool) → (e.by == q) ≡ t → how_many is_beat (part q past) ≡ beats q past → how_many is_beat (cond t (e ∷ part q past) (part q past)) ≡ (if is_beat_by q e.by e.verb then beats q past + 1 else beats q past)
    go true is ih = ap (λ n. cond (is_beat e) (n + 1) n) ih ∙ ap (λ t. cond t (beats q past + 1) (beats q past)) (own e.by e.verb is)
    go false is ih = ih ∙ sym (ap (λ t. cond t (beats q past + 1) (beats q past)) (others e.by e.verb is))

-- a node that has taken a step has beaten
pub has_beaten : (c : Config) (r : ℕ) (mine : List Event) → r < c.replicas → AtEachStep (WasMade c r) mine → 1 ≤ length mine → 1 ≤ how_many is_beat mine
has_beaten c r [] inside made some = some
has_beaten c r (e ∷ []) inside made some =
    let long : 0 < cycle c = omega arith in
    first (is_beat e) (ap is_beat_verb (read_here c r 0 [] e made.1 (mod-eq_of_lt long) (omega (arith, inside))))
  where
    first : (t : Bool) → t ≡ true → 1 ≤ cond t (0 + 1) 0
    first true is = omega arith
    first false is = absurd (true≢false (sym is))
has_beaten c r (e ∷ f ∷ mine) inside made some = go (is_beat e) (has_beaten c r (f ∷ mine) inside made.0 (omega arith))
  where
    go : (t : Bool) → 1 ≤ how_many is_beat (f ∷ mine) → 1 ≤ cond t (how_many is_beat (f ∷ mine) + 1) (how_many is_beat (f ∷ mine))
    go true ih = omega arith
    go false ih = ih

-- it beats in each round of its cycle
pub more_beaten : (c : Config) (r : ℕ) (newer older : List Event) → r < c.replicas → AtEachStep (WasMade c r) (newer ++ older) → cycle c ≤ length newer → how_many is_beat older < how_many is_beat (newer ++ older)
more_beaten c r newer older inside made long =
    let window = take (cycle c) newer in
    let rest = drop (cycle c) newer in
    let whole = take-append-drop (cycle c) newer in
    let split : newer ++ older ≡ window ++ (rest ++ older) = ap (λ l. l ++ older) (sym whole) ∙ append_assoc window rest older in
    let taken = length-take (cycle c) newer in
    let full : length window ≡ cycle c = omega (arith, taken, long) in
    let some = some_counted is_beat window ((rounds_read_in_time c r (newer ++ older) (keeps_rounds c r (newer ++ older) inside made)).beat window (rest ++ older) (record { newer = []; is = split }) full) in
    let all = how_many-append is_beat newer older in
    let parts = ap (how_many is_beat) (sym whole) ∙ how_many-append is_beat window rest in
    omega (arith, some, all, parts)

-- it reads no count of beats twice in a round of its cycle
pub reads_apart : (c : Config) (r q : ℕ) (mine : List Event) (e : Event) → r < c.replicas → AtEachStep (WasMade c r) (e ∷ mine) → is_beat_read q e ≡ true → has (is_beat_read q) mine ≡ true → cycle c ≤ length (since (is_beat_read q) mine) + 1
reads_apart c r q mine e inside made reads some = let k = (keeps_rounds c r (e ∷ mine) inside made).apart q in rounds_keep_pace.apart (cycle c) k.0 (is_beat_read q) mine e (omega arith) k.1 reads some

-- an event that reads no count of q tells none
pub reads_no_beat : (r q by : ℕ) (verb : Verb) (answer : Answer) → is_beat_read_verb q verb ≡ false → beat_read r q by verb answer ≡ None
reads_no_beat r q by (Verb.ReadBeat p) (Answer.Number x) none = go (by == r) (p == q) none
  where
    go : (t s : Bool) → s ≡ false → (if t && s then Some x else None) ≡ None
    go true true is = absurd (true≢false is)
    go true false is = refl
    go false s is = refl
reads_no_beat r q by _ _ none = refl

-- and one that r reads tells how often q has beaten
pub reads_beats : (c : Config) (r q by : ℕ) (verb : Verb) (answer : Answer) (past : List Event) → by ≡ r → is_beat_read_verb q verb ≡ true → answer ≡ answer_of c by past verb → beat_read r q by verb answer ≡ Some (beats q past)
reads_beats c r q by (Verb.ReadBeat p) answer past own reads says =
    ap (beat_read r q by (Verb.ReadBeat p)) says
    ∙ (ap (λ t. if t && (p == q) then Some (beats p past) else None) (eq-eqb by r own) ∙ (ap (λ t. if t then Some (beats p past) else None) reads ∙ ap (λ z. Some (beats z past)) (eqb-true p q reads)))
reads_beats c r q by verb answer past own reads says = absurd (true≢false (sym reads))

-- the score and the last count after an event that tells no count
pub score_unread : (r q : ℕ) (mine : List Event) (e : Event) → beat_read r q e.by e.verb e.answer ≡ None → score r q (e ∷ mine) ≡ score r q mine
score_unread r q mine e none = ap (score_after_read (score r q mine) (last_count r q mine)) none

pub count_unread : (r q : ℕ) (mine : List Event) (e : Event) → beat_read r q e.by e.verb e.answer ≡ None → last_count r q (e ∷ mine) ≡ last_count r q mine
count_unread r q mine e none = ap (λ o. or_zero (newer_or o (newest (λ f. beat_read r q f.by f.verb f.answer) mine))) none

-- after one that tells a count
pub count_read : (r q x : ℕ) (mine : List Event) (e : Event) → beat_read r q e.by e.verb e.answer ≡ Some x → last_count r q (e ∷ mine) ≡ x
count_read r q x mine e tells = ap (λ o. or_zero (newer_or o (newest (λ f. beat_read r q f.by f.verb f.answer) mine))) tells

-- another count than the last one keeps a full score
pub full_kept : (r q x : ℕ) (mine : List Event) (e : Event) → beat_read r q e.by e.verb e.answer ≡ Some x → x ≢ last_count r q mine → score r q mine ≡ (15, true) → score r q (e ∷ mine) ≡ (15, true)
full_kept r q x mine e tells other full =
    ap (score_after_read (score r q mine) (last_count r q mine)) tells ∙ (ap (λ s. score_after_read s (last_count r q mine) (Some x)) full ∙ ap (λ t. next_score 15 true (not t)) (ne_eqb x (last_count r q mine) other))

-- replica 0 names itself, and so does each other that holds it to be alive
pub first_named : (c : Config) (r : ℕ) (mine : List Event) → 0 < c.replicas → (r ≢ 0 → (score r 0 mine).1 ≡ true) → leader c r mine ≡ 0
first_named c r mine some alive = least_found (may_lead r mine) c.replicas 0 refl (passes (cases_eq r 0)) some
  where
    passes : (r ≡ 0) ⊎ (r ≢ 0) → may_lead r mine 0 ≡ true
    passes (inl first) = subst (λ s. may_lead s mine 0 ≡ true) (sym first) (own_leads 0 mine)
    passes (inr other) = alive_leads r 0 mine (alive other)

-- an ask is none of the background
asks_fail : (p : ℕ) → FailsBackground (is_asking_verb p)
asks_fail p = record { replays = record { beat = refl; fuo = λ q. refl; look = λ q i. refl; row = λ v k. refl; raise = λ q u. refl; raise_head = λ h. refl; head = λ q. refl }; host = host }
  where
    host : (d : ℕ) (verb : Verb) → is_of_place d verb ≡ true → is_asking_verb p verb ≡ false
    host d (Verb.Ask q) is = absurd (true≢false (sym is))
    host d verb is = refl

-- who asks names itself
pub asker_named : (c : Config) (r p : ℕ) (mine : List Event) (e : Event) → WasMade c r mine e → is_asking p e ≡ true → leader c r mine ≡ r
asker_named c r p mine e held asks = eqb-true (leader c r mine) r (of_lead (is_asking_verb p) c r mine e held (asks_fail p) (λ j k x. refl) refl (λ q. refl) (λ w. refl) asks).named

-- the verb writes a word of a row
abbrev pub is_row_write : Verb → Bool
is_row_write (Verb.WriteRow j k x) = true
is_row_write _ = false

-- which is none of the cycle
writes_fail : FailsBackground is_row_write
writes_fail = record { replays = record { beat = refl; fuo = λ q. refl; look = λ q i. refl; row = λ v k. refl; raise = λ q u. refl; raise_head = λ h. refl; head = λ q. refl }; host = host }
  where
    host : (d : ℕ) (verb : Verb) → is_of_place d verb ≡ true → is_row_write verb ≡ false
    host d (Verb.WriteRow j k x) is = absurd (true≢false (sym is))
    host d verb is = refl

-- no beat is read in a turn of the leader
odd_no_read : (c : Config) (r : ℕ) (mine : List Event) (e : Event) → WasMade c r mine e → is_odd (length mine) ≡ true → reads_beat e.verb ≡ false
odd_no_read c r mine e held odd = elim (made_led held.zeal c r mine e.verb (held.made.replication odd)) [
  | inl listed ↦ ap reads_beat listed ∙ named (leader c r mine == r)
  | inr third ↦ elim third [
    | inl caught ↦ reading_fails reads_beat e.verb (catches_reading c r mine e.verb caught.due) (λ q i. refl) (λ v k. refl)
    | inr out ↦ ap reads_beat out.first
  ]
]
  where
    at : (c : Config) (b : ℕ) (values up written : List ℕ) (place : Place) → reads_beat (verb_or_beat (verb_at c b values up written place)) ≡ false
    at c b values up written Place.Rest = refl
    at c b values up written place = refl

    named : (t : Bool) → reads_beat (verb_or_beat (if t then listed_due c r mine else None)) ≡ false
    named true = at c (number_due r mine) (known c r mine) (tables_at c r mine).up (tables_at c r mine).written (place_after c r mine)
    named false = refl

-- so whom the scores name stays
leader_kept : (c : Config) (r by : ℕ) (verb : Verb) (answer : Answer) (mine : List Event) → reads_beat verb ≡ false → leader c r (record { by = by; verb = verb; answer = answer } ∷ mine) ≡ leader c r mine
leader_kept c r by (Verb.ReadBeat q) answer mine none = absurd (true≢false none)
leader_kept c r by verb answer mine none = refl

still_named : (c : Config) (r : ℕ) (mine : List Event) → AtEachStep (WasMade c r) mine → was_named c r mine ≡ true → leader c r mine ≡ r
still_named c r [] made named = absurd (true≢false (sym named))
still_named c r (e ∷ mine) made named =
    let parts = and_parts (is_odd (length mine)) (is_named c r mine) named in
    leader_kept c r e.by e.verb e.answer mine (odd_no_read c r mine e made.1 parts.0) ∙ eqb-true (leader c r mine) r parts.1

-- who writes a row names itself
pub writer_named : (c : Config) (r : ℕ) (mine : List Event) (e : Event) → AtEachStep (WasMade c r) mine → WasMade c r mine e → is_row_write e.verb ≡ true → leader c r mine ≡ r
writer_named c r mine e before held writes = go (is_odd (length mine)) refl
  where
    not_due : (due : Option Verb) → Fails is_row_write due → e.verb ≡ verb_or_beat due → ⊥
    not_due due fails made = true≢false (sym writes ∙ (ap is_row_write made ∙ fails))

    named : (t : Bool) → (leader c r mine == r) ≡ t → e.verb ≡ verb_or_beat (if t then listed_due c r mine else None) → leader c r mine ≡ r
    named true is made = eqb-true (leader c r mine) r is
    named false is made = absurd (not_due None refl made)

    leads : is_odd (length mine) ≡ false → (t : Bool) → leads_at (place_after c r mine) ≡ t → (other : Option Verb) → e.verb ≡ verb_or_beat (if t then other else None) → leader c r mine ≡ r
    leads even true led other made = still_named c r mine before (led_named c r mine even led)
    leads even false led other made = absurd (not_due None refl made)

    ahead : is_odd (length mine) ≡ false → (zeal : Zeal) (due : Option Verb) → Fails is_row_write due → e.verb ≡ or_ahead zeal c r mine due → leader c r mine ≡ r
    ahead even zeal (Some verb) none made = absurd (not_due (Some verb) none made)
    ahead even Zeal.Plain None none made = absurd (not_due None refl made)
    ahead even Zeal.Eager None none made = leads even (leads_at (place_after c r mine)) refl (word_after c r (tables_at c r mine).written (entry_before (known c r mine) (place_after c r mine))) made

    go : (t : Bool) → is_odd (length mine) ≡ t → leader c r mine ≡ r
    go true odd = elim (made_led held.zeal c r mine e.verb (held.made.replication odd)) [
      | inl listed ↦ named (leader c r mine == r) refl listed
      | inr third ↦ elim third [
        | inl caught ↦ absurd (true≢false (sym writes ∙ reading_fails is_row_write e.verb (catches_reading c r mine e.verb caught.due) (λ q i. refl) (λ v k. refl)))
        | inr out ↦ eqb-true (leader c r mine) r out.named
      ]
    ]
    go false even =
        let made = held.made.background even in
        elim (cases_lt (place_now c mine) (host_place c 0)) [
          | inl low ↦ absurd (true≢false (sym writes ∙ (ap is_row_write (made.2 ∙ ap (or_ahead held.zeal c r mine) (made.1.read low)) ∙ read_fails is_row_write refl (λ q. refl) (λ w. refl) c.replicas r (place_now c mine))))
          | inr high ↦ ahead even held.zeal made.0 (cycle_fails is_row_write writes_fail c r mine (leads_at (place_after c r mine)) made.0 high made.1) made.2
        ]
