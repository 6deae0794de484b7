-- A node raises its head to all that it has applied and that is within its FUO.
use Rattle.std.proofs.Common.{◌≡◌, ◌∙◌, ℕ, ◌+◌, ◌-◌, ◌*◌, ◌/◌, ◌%◌, ◌≤◌, ◌==◌, Bool, true, false, None, Some, List, ap, arith, eqb-true, inl, inr, length, refl, subst, sym}
use Rattle.std.specs.declared.option.Option.{Option}
use Rattle.std.specs.Prelude.{if◌then◌else◌, min, nat_lt}
use Rattle.std.specs.List.{slice_get}
use Rattle.std.proofs.lemmas.Bool.{cases_lt, eq-eqb, true≢false}
use Rattle.mu_model.specs.declared.config.Config.{Config}
use Rattle.mu_model.specs.declared.event.Event.{Event}
use Rattle.mu_model.specs.declared.event.Verb.{Verb}
use Rattle.mu_model.specs.Contents.{is_batch, rest_of, row_count}
use Rattle.mu_model.specs.Knowledge.{applied, is_known_decided, known}
use Rattle.mu_model.specs.Regions.{region_head}
use Rattle.mu_model.specs.Room.{reserve}
use Rattle.mu_model.specs.Scores.{leader}
use Rattle.mu_model.specs.Steps.{is_head_raise_verb}
use Rattle.mu_model.specs.Stretches.{is_odd}
use Rattle.mu_grant.specs.Pace.{host_place}
use Rattle.mu_grant.specs.Stands.{Gives, is_of_place}
use Rattle.mu_follow.specs.Due.{ahead_due, filled_known, first_word_of, fuo_due, head_due, look_due, next_due, next_word_of, other_head_due, other_of, own_fuo, replay_due, row_under_way, rows_had, word_due}
use Rattle.mu_lead.specs.declared.place.Place.{Place}
use Rattle.mu_lead.specs.Beside.{leads_at}
use Rattle.mu_lead.specs.Journal.{due_after, number_due, place_after, tables_at}
use Rattle.mu_lead.specs.Standing.{verb_at}
use Rattle.mu_node.specs.Due.{write_due, or_ahead, verb_or_beat}
use Rattle.mu_node.proofs.Failing.{Fails, ahead_fails, either, read_fails}
use Rattle.mu_node.proofs.CatchingUp.{catches_reading, made_led, reading_fails}
use Rattle.mu_node.specs.Cycle.{handed, place_now}
use Rattle.mu_node.specs.Journal.{WasMade}
use Rattle.mu_node.proofs.Turning.{handed_here}

-- what is due raises no head
abbrev NoRaise : Option Verb → Type 0
NoRaise due = Fails is_head_raise_verb due

not_raised : (due : Option Verb) (h : ℕ) → NoRaise due → verb_or_beat due ≡ Verb.RaiseHead h → ⊥
not_raised due h none is = true≢false (sym (ap is_head_raise_verb is) ∙ none)

same_head : (x y : ℕ) → Verb.RaiseHead x ≡ Verb.RaiseHead y → x ≡ y
same_head x y is = cc

-- the replayer raises it only at one place, to what is handed on and within the FUO
raised_value : (c : Config) (r : ℕ) (mine : List Event) (handed f : ℕ) (leading : Bool) (h : ℕ) → verb_or_beat (replay_due c r mine handed f leading) ≡ Verb.RaiseHead h → (f ≡ 16) × (min handed (own_fuo r mine) ≡ h)
raised_value c r mine handed f leading h is = go (nat_lt f 3) (nat_lt f 15) (f == 15) (f == 16) refl (f == 17) is
  where
    look : NoRaise (look_due c r mine f)
    look =
        either is_head_raise_verb (f == 0) (Some (Verb.Fuo r)) (if f == 1 then ahead_due c r mine else next_due c r mine) refl
        (either is_head_raise_verb (f == 1) (ahead_due c r mine) (next_due c r mine)
        (either is_head_raise_verb (nat_lt (length (known c r mine) + 1) (row_count c + reserve c)) (Some (Verb.Look r (length (known c r mine) + 1))) None refl refl)
        (either is_head_raise_verb (is_known_decided r mine r (length (known c r mine))) (Some (Verb.Look r (length (known c r mine)))) None refl refl))

    first : (o : Option ℕ) → NoRaise (first_word_of c r mine o)
    first None = refl
    first (Some v) =
        either is_head_raise_verb (is_batch c v) (if nat_lt (rows_had c r mine v) (rest_of c (v % 4096) + 1) then Some (Verb.ReadRow (v + rows_had c r mine v) 0) else None) None
        (either is_head_raise_verb (nat_lt (rows_had c r mine v) (rest_of c (v % 4096) + 1)) (Some (Verb.ReadRow (v + rows_had c r mine v) 0)) None refl refl) refl

    next : (k : ℕ) (o : Option ℕ) → NoRaise (next_word_of k o)
    next k None = refl
    next k (Some v) = refl

    word : NoRaise (word_due c r mine handed (f - 3))
    word = either is_head_raise_verb (f - 3 == 0) (first_word_of c r mine (slice_get (known c r mine) handed)) (next_word_of (f - 3) (row_under_way mine)) (first (slice_get (known c r mine) handed)) (next (f - 3) (row_under_way mine))

    fuo : NoRaise (fuo_due c r mine)
    fuo = either is_head_raise_verb (nat_lt (own_fuo r mine) (filled_known c r mine)) (Some (Verb.RaiseFuo r (filled_known c r mine))) None refl refl

    other : NoRaise (other_head_due c r mine)
    other = either is_head_raise_verb (c.replicas == 1) None (Some (Verb.Head (other_of r (length mine / 2 / (2 * c.replicas + 22) % (c.replicas - 1))))) refl refl

    head : (t : Bool) → verb_or_beat (if t then Some (Verb.RaiseHead (min handed (own_fuo r mine))) else None) ≡ Verb.RaiseHead h → min handed (own_fuo r mine) ≡ h
    head true is = same_head (min handed (own_fuo r mine)) h is
    head false is = absurd (not_raised None h refl is)

    go : (a b d s : Bool) → (f == 16) ≡ s → (t : Bool)
        → verb_or_beat (if a then (if leading then None else look_due c r mine f) else if b then word_due c r mine handed (f - 3) else (if d then fuo_due c r mine else if s then head_due r mine handed else if t then other_head_due c r mine else None)) ≡ Verb.RaiseHead h
        → (f ≡ 16) × (min handed (own_fuo r mine) ≡ h)
    go true b d s hs t is = absurd (not_raised (if leading then None else look_due c r mine f) h (either is_head_raise_verb leading None (look_due c r mine f) refl look) is)
    go false true d s hs t is = absurd (not_raised (word_due c r mine handed (f - 3)) h word is)
    go false false true s hs t is = absurd (not_raised (fuo_due c r mine) h fuo is)
    go false false false true hs t is = (eqb-true f 16 hs, head (nat_lt (region_head r mine) (min handed (own_fuo r mine))) is)
    go false false false false hs true is = absurd (not_raised (other_head_due c r mine) h other is)
    go false false false false hs false is = absurd (not_raised None h refl is)

-- a leader raises none in a turn of its own
led_none : (c : Config) (r : ℕ) (mine : List Event) → NoRaise (due_after c r mine)
led_none c r mine = either is_head_raise_verb (leader c r mine == r) (verb_at c (number_due r mine) (known c r mine) (tables_at c r mine).up (tables_at c r mine).written (place_after c r mine)) None (at (number_due r mine) (known c r mine) (tables_at c r mine).up (tables_at c r mine).written (place_after c r mine)) refl
  where
    at : (b : ℕ) (values up written : List ℕ) (place : Place) → is_head_raise_verb (verb_or_beat (verb_at c b values up written place)) ≡ false
    at b values up written Place.Rest = refl
    at b values up written place = refl

-- so the head goes to all that is applied and within the FUO
pub raises_to_all : (c : Config) (r h : ℕ) (mine : List Event) (e : Event) → WasMade c r mine e → e.verb ≡ Verb.RaiseHead h → min (length (applied c r mine)) (own_fuo r mine) ≤ h
raises_to_all c r h mine e held raises = go (is_odd (length mine)) refl
  where
    host : (d : ℕ) (verb : Verb) → is_of_place d verb ≡ true → is_head_raise_verb verb ≡ false
    host d (Verb.RaiseHead x) is = absurd (true≢false (sym is))
    host d verb is = refl

    given : (d : ℕ) (due : Option Verb) → Gives c r mine d due → NoRaise due
    given d None gives = refl
    given d (Some verb) gives = host d verb (gives.given verb refl).0

    raised : (due : Option Verb) → or_ahead held.zeal c r mine due ≡ Verb.RaiseHead h → verb_or_beat due ≡ Verb.RaiseHead h
    raised (Some verb) is = is
    raised None is = absurd (not_raised (write_due held.zeal c r mine) h (ahead_fails is_head_raise_verb refl (λ j k x. refl) held.zeal c r mine) is)

    go : (t : Bool) → is_odd (length mine) ≡ t → min (length (applied c r mine)) (own_fuo r mine) ≤ h
    go true odd = elim (made_led held.zeal c r mine e.verb (held.made.replication odd)) [
      | inl listed ↦ absurd (not_raised (due_after c r mine) h (led_none c r mine) (sym listed ∙ raises))
      | inr third ↦ elim third [
        | inl caught ↦ absurd (true≢false (sym (ap is_head_raise_verb raises) ∙ reading_fails is_head_raise_verb e.verb (catches_reading c r mine e.verb caught.due) (λ p i. refl) (λ v k. refl)))
        | inr out ↦ absurd (true≢false (sym (ap is_head_raise_verb raises) ∙ ap is_head_raise_verb out.first))
      ]
    ]
    go false even =
        let made = held.made.background even in
        elim (cases_lt (place_now c mine) (host_place c 0)) [
          | inl low ↦ absurd (not_raised made.0 h (subst NoRaise (sym (made.1.read low)) (read_fails is_head_raise_verb refl (λ q. refl) (λ w. refl) c.replicas r (place_now c mine))) (raised made.0 (sym made.2 ∙ raises)))
          | inr high ↦ (elim (cases_lt (place_now c mine) (host_place c 4)) [
            | inl near ↦ (let at : place_now c mine ≡ host_place c (place_now c mine - host_place c 0) = omega (arith, high) in
                absurd (not_raised made.0 h (given (place_now c mine - host_place c 0) made.0 (made.1.host (place_now c mine - host_place c 0) (omega (arith, near, high)) at)) (raised made.0 (sym made.2 ∙ raises))))
            | inr far ↦ (let at = made.1.replay (place_now c mine - host_place c 4) (omega (arith, far)) in
                let value = raised_value c r mine (handed c r mine) (place_now c mine - host_place c 4) (leads_at (place_after c r mine)) h (sym (ap verb_or_beat at) ∙ (raised made.0 (sym made.2 ∙ raises))) in
                let place = value.0 in
                let here : place_now c mine ≡ 2 * c.replicas + 20 = omega (arith, place, far) in
                let all = handed_here c r mine even (eq-eqb (place_now c mine) (2 * c.replicas + 20) here) in
                let same = ap (λ n. min n (own_fuo r mine)) all ∙ refl in
                let is = value.1 in
                omega (arith, same, is))
          ])
        ]
