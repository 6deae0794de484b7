-- A listed journal: what stands at the place of its leader, and what the leader keeps with each event.
use Rattle.std.proofs.Common.{◌≡◌, ◌∙◌, ◌==◌, ◌<◌, inl, inr, ℕ, Bool, true, false, None, Some, List, [], ◌∷◌, ap, arith, length, refl, subst, sym, true≢false}
use Rattle.std.specs.Prelude.{if◌then◌else◌, not, replicate}
use Rattle.std.specs.declared.option.Option.{Option}
use Rattle.std.proofs.lemmas.Bool.{cases_lt}
use Rattle.mu_model.specs.Contents.{IsConfig, row_count}
use Rattle.mu_model.specs.Ends.{outrun}
use Rattle.mu_model.specs.Histories.{event_by}
use Rattle.mu_model.specs.Knowledge.{known}
use Rattle.mu_model.specs.Parts.{IsPossible}
use Rattle.mu_model.specs.Steps.{is_named}
use Rattle.mu_model.specs.Stretches.{is_odd}
use Rattle.mu_model.specs.declared.config.Config.{Config}
use Rattle.mu_model.specs.declared.event.Answer.{Answer}
use Rattle.mu_model.specs.declared.event.Event.{Event}
use Rattle.mu_model.specs.declared.event.Verb.{Verb}
use Rattle.mu_model.proofs.Basics.{none_some}
use Rattle.mu_agree.proofs.Possible.{parts_shorten_law}
use Rattle.mu_grant.specs.Pace.{host_place}
use Rattle.mu_pace.specs.Collecting.{LeaderKeepsBy}
use Rattle.mu_agree.specs.Moments.{AtEachStep}
use Rattle.mu_lead.specs.Beside.{is_beside, leads_at, writes_row}
use Rattle.mu_lead.specs.Journal.{due_after, number_due, place_after, tables_at}
use Rattle.mu_lead.specs.Leading.{HoldsTables, most_replicas}
use Rattle.mu_lead.specs.Standing.{verb_at}
use Rattle.mu_lead.specs.declared.place.Place.{Place}
use Rattle.mu_lively.proofs.Causes.{causes_start}
use Rattle.mu_lively.proofs.Elections.{elects_start}
use Rattle.mu_lead.proofs.Folding.{same_number_verb}
use Rattle.mu_lively.proofs.Joins.{joins_anywhere}
use Rattle.mu_lively.proofs.RoomsInTime.{rooms_start}
use Rattle.mu_node.specs.Cycle.{IsBackgroundDue, place_now}
use Rattle.mu_node.specs.Due.{asks_out_of_turn, idle_due, is_eager, or_ahead, turn_due, verb_or_beat, write_due}
use Rattle.mu_node.specs.Journal.{IsListed, WasMade}
use Rattle.mu_node.specs.declared.zeal.Zeal.{Zeal}
use Rattle.mu_node.proofs.AskedAgain.{asks_parts}
use Rattle.mu_node.proofs.CatchingUp.{made_as}
use Rattle.mu_node.proofs.Cycled.{cycle_writes_none}
use Rattle.mu_node.proofs.Failing.{Fails, either, read_fails}
use Rattle.mu_follow.specs.CatchingUp.{or_else}
use Rattle.mu_follow.specs.Due.{ahead_due, filled_known, first_word_of, fuo_due, head_due, look_due, next_due, next_word_of, other_head_due, other_of, own_fuo, raise_due, replay_due, row_under_way, rows_had, word_due}
use Rattle.mu_grant.specs.Stands.{Gives, is_of_place}
use Rattle.mu_model.specs.Contents.{is_batch, rest_of}
use Rattle.mu_model.specs.Knowledge.{is_known_decided}
use Rattle.mu_model.specs.Placing.{is_within_ring}
use Rattle.mu_model.specs.Regions.{region_head}
use Rattle.mu_model.specs.Room.{reserve}
use Rattle.mu_node.specs.Cycle.{handed}
use Rattle.std.specs.List.{slice_get}
use Rattle.std.specs.Prelude.{get_or, min, nat_lt}
use Rattle.std.proofs.lemmas.Bool.{le-ltb}
use Rattle.std.proofs.Common.{zero, suc, ◌+◌, ◌-◌, ◌*◌, ◌%◌, ◌/◌}
use Rattle.mu_lively.proofs.Places.{IsInPlace, first_stood}
use Rattle.mu_lively.proofs.Turns.{GoesOn, ahead_on, asked_on, beside_on, caught_on, led_on, rests_on, unnamed_on}

-- before any event
all_long : {A : Type 0} (n : ℕ) (d : A) → length (replicate n d) ≡ n
all_long zero d = refl
all_long (suc n) d = ap suc (all_long n d)

get_none : {A : Type 0} (d : A) (n p : ℕ) → get_or (replicate n d) p d ≡ d
get_none d zero p = refl
get_none d (suc n) zero = refl
get_none d (suc n) (suc p) = get_none d n p

first_tables : (c : Config) (r : ℕ) → HoldsTables c r [] (tables_at c r []).up (tables_at c r []).reach (tables_at c r []).heads (tables_at c r []).written
first_tables c r = record {
  ups = all_long {A = ℕ} most_replicas 0;
  reaches = all_long {A = Option ℕ} most_replicas None;
  all_heads = all_long {A = ℕ} most_replicas 0;
  rows = all_long {A = ℕ} (row_count c) 0;
  brought = λ p. (let none = nothing p in record { caught_up = λ j low. absurd (omega (arith, low, none)); filled = λ j low. absurd (omega (arith, low, none)) });
  within = λ p. (let none = nothing p in omega (arith, none));
  reached = λ p i ring is. absurd (true≢false (sym is ∙ ap (is_within_ring i ring) (get_none None most_replicas p)));
  read = λ q. (let none = nothing q in omega (arith, none));
  words = λ j k row small. sym (ap (nat_lt k) (get_none {A = ℕ} 0 (row_count c) j) ∙ le-ltb k 0 (omega arith));
}
  where
    nothing : (p : ℕ) → get_or (replicate {A = ℕ} most_replicas 0) p 0 ≡ 0
    nothing p = get_none {A = ℕ} 0 most_replicas p

first_place : (c : Config) (r : ℕ) → 0 < c.replicas → IsInPlace c r [] (tables_at c r []) (place_after c r [])
first_place c r some = record {
  number = 0;
  stood = first_stood c r 0 [] (tables_at c r []) some (first_tables c r);
  paces = record {
    counts = record { rooms = ((λ first. rooms_start c r), λ other. absurd (other refl)); evidence = λ q. refl; raises = λ q. refl; confirms = refl; joins = joins_anywhere c r [] (Place.Ask 0) (λ q. refl) };
    causes = causes_start c r;
    elects = elects_start c r;
  };
}

-- what is made in the background is no verb of the leader
abbrev is_led : Bool → Verb → Bool
is_led leading verb = not (is_beside leading verb)

no_more : (t : Bool) → not t ≡ false → t ≡ true
no_more true is = refl
no_more false is = absurd (true≢false is)

word_beside : (leading : Bool) (c : Config) (r : ℕ) (mine : List Event) (given k : ℕ) → Fails (is_led leading) (word_due c r mine given k)
word_beside leading c r mine given k = either (is_led leading) (k == 0) (first_word_of c r mine (slice_get (known c r mine) given)) (next_word_of k (row_under_way mine)) (first (slice_get (known c r mine) given)) (next (row_under_way mine))
  where
    first : (o : Option ℕ) → Fails (is_led leading) (first_word_of c r mine o)
    first None = refl
    first (Some v) =
        either (is_led leading) (is_batch c v) (if nat_lt (rows_had c r mine v) (rest_of c (v % 4096) + 1) then Some (Verb.ReadRow (v + rows_had c r mine v) 0) else None) None
        (either (is_led leading) (nat_lt (rows_had c r mine v) (rest_of c (v % 4096) + 1)) (Some (Verb.ReadRow (v + rows_had c r mine v) 0)) None refl refl) refl

    next : (o : Option ℕ) → Fails (is_led leading) (next_word_of k o)
    next None = refl
    next (Some v) = refl

raise_beside : (leading : Bool) (c : Config) (r : ℕ) (mine : List Event) (given f : ℕ) → Fails (is_led leading) (raise_due c r mine given f)
raise_beside leading c r mine given f =
    either (is_led leading) (f == 15) (fuo_due c r mine) (if f == 16 then head_due r mine given else if f == 17 then other_head_due c r mine else None)
    (either (is_led leading) (nat_lt (own_fuo r mine) (filled_known c r mine)) (Some (Verb.RaiseFuo r (filled_known c r mine))) None refl refl)
    (either (is_led leading) (f == 16) (head_due r mine given) (if f == 17 then other_head_due c r mine else None)
    (either (is_led leading) (nat_lt (region_head r mine) (min given (own_fuo r mine))) (Some (Verb.RaiseHead (min given (own_fuo r mine)))) None refl refl)
    (either (is_led leading) (f == 17) (other_head_due c r mine) None
    (either (is_led leading) (c.replicas == 1) None (Some (Verb.Head (other_of r (length mine / 2 / (2 * c.replicas + 22) % (c.replicas - 1))))) refl refl) refl))

look_beside : (leading : Bool) (c : Config) (r : ℕ) (mine : List Event) (f : ℕ) → Fails (is_led leading) (if leading then None else look_due c r mine f)
look_beside true c r mine f = refl
look_beside false c r mine f =
    either (is_led false) (f == 0) (Some (Verb.Fuo r)) (if f == 1 then ahead_due c r mine else next_due c r mine) refl
    (either (is_led false) (f == 1) (ahead_due c r mine) (next_due c r mine)
    (either (is_led false) (nat_lt (length (known c r mine) + 1) (row_count c + reserve c)) (Some (Verb.Look r (length (known c r mine) + 1))) None refl refl)
    (either (is_led false) (is_known_decided r mine r (length (known c r mine))) (Some (Verb.Look r (length (known c r mine)))) None refl refl))

replay_beside : (leading : Bool) (c : Config) (r : ℕ) (mine : List Event) (given f : ℕ) → Fails (is_led leading) (replay_due c r mine given f leading)
replay_beside leading c r mine given f =
    either (is_led leading) (nat_lt f 3) (if leading then None else look_due c r mine f) (if nat_lt f 15 then word_due c r mine given (f - 3) else raise_due c r mine given f)
    (look_beside leading c r mine f)
    (either (is_led leading) (nat_lt f 15) (word_due c r mine given (f - 3)) (raise_due c r mine given f) (word_beside leading c r mine given (f - 3)) (raise_beside leading c r mine given f))

background_beside : (c : Config) (r : ℕ) (mine : List Event) (leading : Bool) (due : Option Verb) → IsBackgroundDue c r mine leading due → is_beside leading (verb_or_beat due) ≡ true
background_beside c r mine leading due is = no_more (is_beside leading (verb_or_beat due)) (elim (cases_lt (place_now c mine) (host_place c 0)) [
  | inl low ↦ subst (Fails (is_led leading)) (sym (is.read low)) (read_fails (is_led leading) refl (λ q. refl) (λ w. refl) c.replicas r (place_now c mine))
  | inr high ↦ elim (cases_lt (place_now c mine) (host_place c 4)) [
    | inl near ↦ (let at : place_now c mine ≡ host_place c (place_now c mine - host_place c 0) = omega (arith, high) in
        given (place_now c mine - host_place c 0) due (is.host (place_now c mine - host_place c 0) (omega (arith, near, high)) at))
    | inr far ↦ subst (Fails (is_led leading)) (sym (is.replay (place_now c mine - host_place c 4) (omega (arith, far)))) (replay_beside leading c r mine (handed c r mine) (place_now c mine - host_place c 4))
  ]
])
  where
    host : (d : ℕ) (verb : Verb) → is_of_place d verb ≡ true → is_led leading verb ≡ false
    host d Verb.Close is = refl
    host d Verb.LookTarget is = refl
    host d Verb.Drain is = refl
    host d (Verb.Grant w) is = refl
    host d verb is = absurd (true≢false (sym is))

    given : (d : ℕ) (due : Option Verb) → Gives c r mine d due → Fails (is_led leading) due
    given d None gives = refl
    given d (Some verb) gives = host d verb (gives.given verb refl).0

-- each event of r in the background
even_on : (again : Bool) (c : Config) (r : ℕ) (mine : List Event) (verb : Verb) (answer : Answer) (zeal : Zeal) (due : Option Verb) → IsConfig c → r < c.replicas → length mine < c.budget → is_odd (length mine) ≡ false → IsPossible c r (event_by r verb answer ∷ mine)
    → IsBackgroundDue c r mine (leads_at (place_after c r mine)) due → verb ≡ or_ahead zeal c r mine due → IsInPlace c r mine (tables_at c r mine) (place_after c r mine) → GoesOn again c r mine (event_by r verb answer)
even_on again c r mine verb answer zeal due good inside short even possible background made h = go due refl made
  where
    beside : (o : Option Verb) → due ≡ o → verb ≡ verb_or_beat o → GoesOn again c r mine (event_by r verb answer)
    beside o is made =
        beside_on again c r mine verb answer good even
        (ap writes_row (made ∙ ap verb_or_beat (sym is)) ∙ cycle_writes_none c r mine (leads_at (place_after c r mine)) due background)
        (ap (is_beside (leads_at (place_after c r mine))) (made ∙ ap verb_or_beat (sym is)) ∙ background_beside c r mine (leads_at (place_after c r mine)) due background) possible h

    write : (z : Zeal) → due ≡ None → (o : Option Verb) → write_due z c r mine ≡ o → verb ≡ verb_or_beat o → GoesOn again c r mine (event_by r verb answer)
    write z none None is made = beside None none made
    write Zeal.Plain none (Some word) is made = absurd (none_some word is)
    write Zeal.Eager none (Some word) is made = ahead_on again c r mine verb answer good inside even short (is ∙ ap Some (sym made)) possible h

    go : (o : Option Verb) → due ≡ o → verb ≡ or_ahead zeal c r mine o → GoesOn again c r mine (event_by r verb answer)
    go (Some it) is made = beside (Some it) is made
    go None is made = write zeal is (write_due zeal c r mine) refl made

-- and in a turn of the leader
due_on : (again : Bool) (c : Config) (r : ℕ) (mine : List Event) (verb : Verb) (answer : Answer) → IsConfig c → r < c.replicas → is_odd (length mine) ≡ true → outrun c r mine ≡ None → IsPossible c r (event_by r verb answer ∷ mine)
    → verb ≡ verb_or_beat (due_after c r mine) → IsInPlace c r mine (tables_at c r mine) (place_after c r mine) → GoesOn again c r mine (event_by r verb answer)
due_on again c r mine verb answer good inside odd going possible made h = go (is_named c r mine) refl
  where
    t : Option Verb
    t = verb_at c (number_due r mine) (known c r mine) (tables_at c r mine).up (tables_at c r mine).written (place_after c r mine)

    same : verb_at c h.number (known c r mine) (tables_at c r mine).up (tables_at c r mine).written (place_after c r mine) ≡ t
    same = let few = good.replicas.1 in same_number_verb c r h.number mine (known c r mine) (tables_at c r mine).up (tables_at c r mine).reach (tables_at c r mine).written (place_after c r mine) (omega (arith, few, inside)) h.stood.at

    named : is_named c r mine ≡ true → (o : Option Verb) → t ≡ o → verb ≡ verb_or_beat o → GoesOn again c r mine (event_by r verb answer)
    named own (Some it) is made = subst (λ v. GoesOn again c r mine (event_by r v answer)) (sym made) (led_on again c r mine it answer good inside odd own (subst (λ v. IsPossible c r (event_by r v answer ∷ mine)) made possible) h (same ∙ is))
    named own None is made = subst (λ v. GoesOn again c r mine (event_by r v answer)) (sym made) (rests_on again c r mine answer good odd own going (subst (λ v. IsPossible c r (event_by r v answer ∷ mine)) made possible) h (same ∙ is))

    go : (b : Bool) → is_named c r mine ≡ b → GoesOn again c r mine (event_by r verb answer)
    go true own = named own t refl (made ∙ ap (λ x. verb_or_beat (if x then t else None)) own)
    go false other =
        let beats : verb ≡ Verb.Beat = made ∙ ap (λ x. verb_or_beat (if x then t else None)) other in
        subst (λ v. GoesOn again c r mine (event_by r v answer)) (sym beats) (unnamed_on again c r mine answer good inside odd other (subst (λ v. IsPossible c r (event_by r v answer ∷ mine)) beats possible) h)

odd_on : (zeal : Zeal) (c : Config) (r : ℕ) (mine : List Event) (verb : Verb) (answer : Answer) → IsConfig c → r < c.replicas → is_odd (length mine) ≡ true → outrun c r mine ≡ None → IsPossible c r (event_by r verb answer ∷ mine)
    → verb ≡ verb_or_beat (turn_due zeal c r mine) → IsInPlace c r mine (tables_at c r mine) (place_after c r mine) → GoesOn (is_eager zeal) c r mine (event_by r verb answer)
odd_on zeal c r mine verb answer good inside odd going possible made h = go (asks_out_of_turn zeal c r mine) refl made
  where
    go : (b : Bool) → asks_out_of_turn zeal c r mine ≡ b → verb ≡ verb_or_beat (if b then Some (Verb.Ask 0) else or_else (due_after c r mine) (idle_due zeal c r mine)) → GoesOn (is_eager zeal) c r mine (event_by r verb answer)
    go true asks made =
        let parts = asks_parts zeal c r mine asks in
        subst (λ v. GoesOn (is_eager zeal) c r mine (event_by r v answer)) (sym made)
        (subst (λ z. GoesOn z c r mine (event_by r (Verb.Ask 0) answer)) (sym parts.0) (asked_on c r mine answer good inside odd parts.1.0 parts.1.1 (subst (λ v. IsPossible c r (event_by r v answer ∷ mine)) made possible) h))
    go false calm made = elim (made_as zeal c r mine verb (due_after c r mine) made) [
      | inl due ↦ due_on (is_eager zeal) c r mine verb answer good inside odd going possible due h
      | inr caught ↦ caught_on (is_eager zeal) c r mine verb answer good inside odd caught possible h
    ]

-- so each event of a listed journal leads on
goes_on : (zeal : Zeal) (c : Config) (r : ℕ) (mine : List Event) (e : Event) → IsConfig c → r < c.replicas → IsPossible c r (e ∷ mine) → WasMade c r mine e → IsListed zeal c r mine e → IsInPlace c r mine (tables_at c r mine) (place_after c r mine) → GoesOn (is_eager zeal) c r mine e
goes_on zeal c r mine e good inside possible made listed h = subst (λ i. GoesOn (is_eager zeal) c r mine (event_by i e.verb e.answer)) (sym made.own) (go (is_odd (length mine)) refl)
  where
    short : length mine < c.budget
    short = (parts_shorten_law c r mine e possible).allowed.budget

    may : IsPossible c r (event_by r e.verb e.answer ∷ mine)
    may = subst (λ i. IsPossible c r (event_by i e.verb e.answer ∷ mine)) made.own possible

    go : (t : Bool) → is_odd (length mine) ≡ t → GoesOn (is_eager zeal) c r mine (event_by r e.verb e.answer)
    go true odd = odd_on zeal c r mine e.verb e.answer good inside odd made.going may (listed odd) h
    go false even = let due = made.made.background even in even_on (is_eager zeal) c r mine e.verb e.answer made.zeal due.0 good inside short even may due.1 due.2 h

-- what a listed journal has: also what has to stand at the place
pub record IsLed (again : Bool) (c : Config) (r : ℕ) (mine : List Event) : Type 0 where
  pub here : IsInPlace c r mine (tables_at c r mine) (place_after c r mine)
  pub led : AtEachStep (LeaderKeepsBy again c r) mine

pub listed_is_paced : (zeal : Zeal) (c : Config) (r : ℕ) (mine : List Event) → IsConfig c → r < c.replicas → IsPossible c r mine → AtEachStep (WasMade c r) mine → AtEachStep (IsListed zeal c r) mine → IsLed (is_eager zeal) c r mine
listed_is_paced zeal c r [] good inside possible made listed = record { here = first_place c r (omega (arith, inside)); led = tt }
listed_is_paced zeal c r (e ∷ mine) good inside possible made listed =
    let before = listed_is_paced zeal c r mine good inside (parts_shorten_law c r mine e possible).before made.0 listed.0 in
    let next = goes_on zeal c r mine e good inside possible made.1 listed.1 before.here in
    record { here = next.here; led = (before.led, next.keeps) }
