-- The leader's place, tables and number are those of its journal.
use Rattle.mu_lead.proofs.Asking.{begins_not, begins_now}
use Rattle.mu_lead.proofs.Asks.{is_ask, verb_asks_none}
use Rattle.mu_lead.proofs.Lates.{fence_ends}
use Rattle.mu_lead.proofs.Says.{said_next}
use Rattle.mu_lead.specs.Beside.{leads_at, writes_row}
use Rattle.mu_lead.specs.Going.{begins_at, going_after}
use Rattle.mu_lead.specs.Journal.{HasLeft, IsWhere, PlacesNext, WritesNext, due_after, number_due, number_or, place_after, place_before, tables_at, tables_beside, tables_with}
use Rattle.mu_lead.specs.Lasting.{Follows, tables_of}
use Rattle.mu_lead.specs.Listing.{Tables, next_place}
use Rattle.mu_lead.specs.Losses.{LosesEntering, LosesReading}
use Rattle.mu_lead.specs.Noting.{NotesNext}
use Rattle.mu_lead.specs.Resigning.{IsTold, beat_of}
use Rattle.mu_lead.specs.Saying.{ShowsHigher}
use Rattle.mu_lead.specs.Standing.{At, StandsFor, known_told, verb_at, verb_of}
use Rattle.mu_lead.specs.declared.lead.Lead.{Lead}
use Rattle.mu_lead.specs.declared.note.AbortCause.{AbortCause}
use Rattle.mu_lead.specs.declared.note.Note.{Note}
use Rattle.mu_lead.specs.declared.place.Place.{Place}
use Rattle.mu_model.proofs.Basics.{same_number, same_some}
use Rattle.mu_model.specs.Entering.{any_min_read, number_allowed}
use Rattle.mu_model.specs.Histories.{greatest, or_zero, event_by}
use Rattle.mu_model.specs.Knowledge.{known}
use Rattle.mu_model.specs.Leaderships.{begins_leadership, is_above, is_member, is_over, leadership, number_put, proposal_number}
use Rattle.mu_model.specs.Parts.{IsPossible}
use Rattle.mu_model.specs.Points.{least_number}
use Rattle.mu_model.specs.Scores.{leader}
use Rattle.mu_model.specs.Steps.{is_named}
use Rattle.mu_model.specs.Stretches.{is_replication}
use Rattle.mu_model.specs.declared.config.Config.{Config}
use Rattle.mu_model.specs.declared.event.Answer.{Answer}
use Rattle.mu_model.specs.declared.event.Event.{Event}
use Rattle.mu_model.specs.declared.event.Fence.{Fence}
use Rattle.mu_model.specs.declared.event.Target.{Target}
use Rattle.mu_model.specs.declared.event.Verb.{Verb}
use Rattle.std.proofs.Common.{Bool, List, None, Some, ap, arith, false, get_or, inl, inr, max, refl, subst, sym, true, true≢false, ℕ, ◌%◌, ◌&&◌, ◌*◌, ◌+◌, ◌/◌, ◌<◌, ◌==◌, ◌||◌, ◌∙◌, ◌∷◌, ◌≡◌, ◌≤◌}
use Rattle.std.proofs.lemmas.Bool.{and_from, and_parts, cases_eq, cases_lt, lt-ltb, ltb-true}
use Rattle.std.specs.Prelude.{if◌then◌else◌, nat_lt, not, ◌⊎◌}
use Rattle.std.specs.declared.option.Option.{Option}

-- a number that is allowed is the journal's
least_is : (r x y b : ℕ) → r < 8 → b % 8 ≡ r → 8 ≤ b → x < b → y < b → ((n : ℕ) → n % 8 ≡ r → 8 ≤ n → x < n → y < n → b ≤ n) → b ≡ least_number r (max x y)
least_is r x y b small own from above_x above_y least = go (nat_lt 7 (max x y) && nat_lt (max x y) (max x y / 8 * 8 + r)) refl
  where
    go : (t : Bool) → (nat_lt 7 (max x y) && nat_lt (max x y) (max x y / 8 * 8 + r)) ≡ t → b ≡ (if t then max x y / 8 * 8 + r else max x y / 8 * 8 + r + 8)
    go true is =
        let both = and_parts (nat_lt 7 (max x y)) (nat_lt (max x y) (max x y / 8 * 8 + r)) is in
        let high = ltb-true 7 (max x y) both.0 in
        let low = ltb-true (max x y) (max x y / 8 * 8 + r) both.1 in
        let at_most = least (max x y / 8 * 8 + r) (omega (arith, small)) (omega (arith, high, low)) (omega (arith, low)) (omega (arith, low)) in
        omega (arith, small, own, above_x, above_y, at_most, low)
    go false is =
        let at_most = least (max x y / 8 * 8 + r + 8) (omega (arith, small)) (omega arith) (omega arith) (omega arith) in
        elim (cases_lt 7 (max x y)) [
          | inl high ↦ elim (cases_lt (max x y) (max x y / 8 * 8 + r)) [
            | inl same ↦ absurd (true≢false (sym (and_from _ _ (lt-ltb 7 (max x y) high) (lt-ltb (max x y) (max x y / 8 * 8 + r) same)) ∙ is))
            | inr over ↦ omega (arith, small, own, above_x, above_y, at_most, over)
          ]
          | inr few ↦ omega (arith, small, own, from, at_most, few)
        ]

pub number_is : (r b : ℕ) (mine : List Event) (o : Option ℕ) → r < 8 → number_allowed r mine b o → b ≡ number_or r mine o
number_is r b mine (Some first) small allowed = allowed
number_is r b mine None small allowed = least_is r (greatest (λ e. any_min_read r e.by e.verb e.answer) (leadership r mine)) (greatest (λ e. number_put r e.by e.verb) mine) b small allowed.0 allowed.1 allowed.2 allowed.3 allowed.4

-- the verb of a place names the journal's number, if it names one
pub same_number_verb : (c : Config) (r b : ℕ) (mine : List Event) (values up : List ℕ) (reach : List (Option ℕ)) (written : List ℕ) (place : Place) → r < 8 → At c r b mine up reach written place → verb_at c b values up written place ≡ verb_at c (number_due r mine) values up written place
same_number_verb c r b mine values up reach written place small at = go place at
  where
    led : proposal_number r mine ≡ Some b → b ≡ number_due r mine
    led is = ap (number_or r mine) (sym is)

    go : (place : Place) → At c r b mine up reach written place → verb_at c b values up written place ≡ verb_at c (number_due r mine) values up written place
    go (Place.PutMin p) at = ap (λ n. verb_at c n values up written (Place.PutMin p)) (number_is r b mine (proposal_number r mine) small at.entering.numbered.allowed)
    go (Place.PutBehind p on) at = ap (λ n. verb_at c n values up written (Place.PutBehind p on)) (led at.near.behind.leads.numbered)
    go (Place.LatePut p) at = ap (λ n. verb_at c n values up written (Place.LatePut p)) (led at.entering.told.late.level.leads.numbered)
    go (Place.Put p offer) at = ap (λ n. verb_at c n values up written (Place.Put p offer)) (led at.0.entering.offering.numbered)
    go place at = refl

-- only a late follower's minimum is compared with the number, and there it is the leadership's
pub same_number_place : (c : Config) (r b : ℕ) (mine now : List Event) (up : List ℕ) (reach : List (Option ℕ)) (written : List ℕ) (t : Tables) (a : Answer) (place : Place) → At c r b mine up reach written place
    → next_place c r b now t a place ≡ next_place c r (or_zero (proposal_number r mine)) now t a place
same_number_place c r b mine now up reach written t a (Place.LateMin p) at = ap (λ o. next_place c r (or_zero o) now t a (Place.LateMin p)) (sym at.late.level.leads.numbered)
same_number_place c r b mine now up reach written t a place at = refl

-- a replication step of r, if it is named and if it isn't
pub led_place : (c : Config) (r : ℕ) (mine : List Event) (e : Event) → is_replication mine e ≡ true → is_named c r mine ≡ true → place_after c r (e ∷ mine) ≡ next_place c r (or_zero (proposal_number r mine)) (e ∷ mine) (tables_at c r (e ∷ mine)) e.answer (place_before r e (place_after c r mine))
led_place c r mine e turn named = rw (turn, named) refl

pub unnamed_place : (c : Config) (r : ℕ) (mine : List Event) (e : Event) → is_replication mine e ≡ true → is_named c r mine ≡ false → place_after c r (e ∷ mine) ≡ Place.Ask 0
unnamed_place c r mine e turn other = rw (turn, other) refl

pub turn_tables : (c : Config) (r : ℕ) (mine : List Event) (e : Event) → is_replication mine e ≡ true → tables_at c r (e ∷ mine) ≡ tables_with c r mine (e ∷ mine) (tables_at c r mine) e.verb e.answer
turn_tables c r mine e turn = rw turn refl

-- the background leaves the leader where it is
pub beside_tables : (t : Tables) (verb : Verb) → writes_row verb ≡ false → t ≡ tables_beside t verb
beside_tables t (Verb.WriteRow j k x) none = absurd (true≢false none)
beside_tables t verb none = refl

pub where_beside : (c : Config) (r : ℕ) (mine : List Event) (e : Event) (l : Lead) → is_replication mine e ≡ false → writes_row e.verb ≡ false → IsWhere c r mine l → IsWhere c r (e ∷ mine) l
where_beside c r mine e l off none at = record { place = at.place ∙ same_place; tables = at.tables ∙ (beside_tables (tables_at c r mine) e.verb none ∙ same_tables); idle = at.idle }
  where
    same_place : place_after c r mine ≡ place_after c r (e ∷ mine)
    same_place = rw off refl

    same_tables : tables_beside (tables_at c r mine) e.verb ≡ tables_at c r (e ∷ mine)
    same_tables = rw off refl

-- and so does a word that is written ahead, with its tables
pub where_ahead : (c : Config) (r : ℕ) (mine : List Event) (e : Event) (old new : Lead) → is_replication mine e ≡ false → new.place ≡ old.place → new.under_way ≡ old.under_way → tables_of new ≡ tables_beside (tables_of old) e.verb → IsWhere c r mine old → IsWhere c r (e ∷ mine) new
where_ahead c r mine e old new off place going tables at = record {
  place = place ∙ (at.place ∙ rw off refl);
  tables = tables ∙ (ap (λ t. tables_beside t e.verb) at.tables ∙ same_tables);
  idle = λ none. place ∙ at.idle (sym going ∙ none);
}
  where
    same_tables : tables_beside (tables_at c r mine) e.verb ≡ tables_at c r (e ∷ mine)
    same_tables = rw off refl

-- a lost `Enter` begins anew
enter_anew : (c : Config) (r b p : ℕ) (values up written : List ℕ) (now : List Event) (t : Tables) (f : Fence) (place : Place) (target : Target) → verb_at c b values up written place ≡ Some (Verb.Enter p target) → next_place c r b now t (Answer.Lost f) place ≡ Place.Ask 0
enter_anew c r b p values up written now t f (Place.EnterMin q) target due = refl
enter_anew c r b p values up written now t f (Place.EnterBehind q on) target due = refl
enter_anew c r b p values up written now t f (Place.LateEnter q) target due = refl
enter_anew c r b p values up written now t f (Place.Enter q offer) target due = refl
enter_anew c r b p values up written now t f place target due = cc

-- which region a fence is of
fence_of : {p q : ℕ} → Verb.Fence p ≡ Verb.Fence q → p ≡ q
fence_of is = cc

-- so does a fence that ends the leadership, and a late follower's minimum above the number
fence_anew : (c : Config) (r b p : ℕ) (mine : List Event) (up : List ℕ) (reach : List (Option ℕ)) (written : List ℕ) (t : Tables) (f : Fence) (place : Place) → At c r b mine up reach written place → IsPossible c r (event_by r (Verb.Fence p) (Answer.Seen f) ∷ mine)
    → verb_at c b (known c r mine) up written place ≡ Some (Verb.Fence p) → (place ≡ Place.Evidence p) ⊎ (is_member r p mine ≡ true) → next_place c r b (event_by r (Verb.Fence p) (Answer.Seen f) ∷ mine) t (Answer.Seen f) place ≡ Place.Ask 0
fence_anew c r b p mine up reach written t f (Place.Confirm round q) at possible due (inl evidence) = cc
fence_anew c r b p mine up reach written t f (Place.Confirm round q) at possible due (inr member) = absurd (true≢false (sym member ∙ at.1.fresh.alone p))
fence_anew c r b p mine up reach written t f (Place.FenceBehind q on) at possible due why = over (subst (λ k. is_over r (event_by r (Verb.Fence k) (Answer.Seen f) ∷ mine) ≡ true) same (fence_ends c r q (get_or up q 0) f mine (subst (λ k. IsPossible c r (event_by r (Verb.Fence k) (Answer.Seen f) ∷ mine)) (sym same) possible) at.near.behind.region at.past))
  where
    same : q ≡ p
    same = fence_of (same_some (Verb.Fence q) (Verb.Fence p) due)

    over : is_over r (event_by r (Verb.Fence p) (Answer.Seen f) ∷ mine) ≡ true → (if is_over r (event_by r (Verb.Fence p) (Answer.Seen f) ∷ mine) then Place.Ask 0 else Place.LookBehind q on) ≡ Place.Ask 0
    over is = ap (λ x. if x then Place.Ask 0 else Place.LookBehind q on) is
fence_anew c r b p mine up reach written t f (Place.LateFence q) at possible due (inl evidence) = cc
fence_anew c r b p mine up reach written t f (Place.LateFence q) at possible due (inr member) = absurd (true≢false (sym (subst (λ k. is_member r k mine ≡ true) (sym (fence_of (same_some (Verb.Fence q) (Verb.Fence p) due))) member) ∙ at.stranger))
fence_anew c r b p mine up reach written t f (Place.Evidence q) at possible due why = refl
fence_anew c r b p mine up reach written t f place at possible due why = cc

min_anew : (c : Config) (r b p m : ℕ) (mine : List Event) (up : List ℕ) (reach : List (Option ℕ)) (written : List ℕ) (now : List Event) (t : Tables) (place : Place) → At c r b mine up reach written place
    → verb_at c b (known c r mine) up written place ≡ Some (Verb.Min p) → is_above (proposal_number r mine) m ≡ true → next_place c r b now t (Answer.Number m) place ≡ Place.Ask 0
min_anew c r b p m mine up reach written now t (Place.ReadMin q) at due above = absurd (true≢false (sym above ∙ ap (λ o. is_above o m) at.telling.fresh.unnumbered))
min_anew c r b p m mine up reach written now t (Place.LateMin q) at due above = ap (λ x. if x then Place.Ask 0 else Place.LateFuo q) (sym (ap (λ o. is_above o m) at.late.level.leads.numbered) ∙ above)
min_anew c r b p m mine up reach written now t place at due above = cc

-- whether the note ends the leadership
abbrev is_aborted : Note → Bool
is_aborted (Note.Aborted cause) = true
is_aborted note = false

goes_off : (was : Bool) (note : Note) → going_after was note ≡ false → (is_aborted note ≡ true) ⊎ (was ≡ false)
goes_off was (Note.Aborted cause) off = inl refl
goes_off was note off = inr off

-- if it does, the leader asks anew
aborts_anew : (mine : List Event) (old : Lead) (values : List ℕ) (answer : Answer) (note : Note) (verb : Verb) (t : Tables) → StandsFor mine old → NotesNext mine old values answer note → verb_of old (known old.config old.id mine) ≡ Some verb
    → IsPossible old.config old.id (event_by old.id verb answer ∷ mine) → values ≡ known_told old.config old.id mine old.id verb answer → is_aborted note ≡ true → next_place old.config old.id old.number (event_by old.id verb answer ∷ mine) t answer old.place ≡ Place.Ask 0
aborts_anew mine old values answer note verb t s noted due possible told aborted = go note refl aborted
  where
    Anew : Verb → Answer → Type 0
    Anew w a = next_place old.config old.id old.number (event_by old.id w a ∷ mine) t a old.place ≡ Place.Ask 0

    entering : (p : ℕ) (f : Fence) → LosesEntering old.id mine verb answer p f → Anew verb answer
    entering p f l = subst (λ a. Anew verb a) (sym l.lost) (enter_anew old.config old.id old.number p (known old.config old.id mine) old.up old.written.items (event_by old.id verb (Answer.Lost f) ∷ mine) t f old.place l.target (due ∙ ap (λ v. Some v) l.entered))

    reading : (p : ℕ) (f : Fence) → LosesReading old.id mine old.place verb answer p f → Anew verb answer
    reading p f l =
        let may = subst (λ a. IsPossible old.config old.id (event_by old.id (Verb.Fence p) a ∷ mine)) l.seen (subst (λ v. IsPossible old.config old.id (event_by old.id v answer ∷ mine)) l.read possible) in
        subst (λ v. Anew v answer) (sym l.read) (subst (λ a. Anew (Verb.Fence p) a) (sym l.seen)
        (fence_anew old.config old.id old.number p mine old.up old.reach old.written.items t f old.place s.at may (due ∙ ap (λ v. Some v) l.read) l.why))

    told_higher : (p m : ℕ) → ShowsHigher old.id mine verb answer p m → Anew verb answer
    told_higher p m l = subst (λ a. Anew verb a) (sym l.told) (min_anew old.config old.id old.number p m mine old.up old.reach old.written.items (event_by old.id verb (Answer.Number m) ∷ mine) t old.place s.at (due ∙ ap (λ v. Some v) l.asked) l.above)

    go : (n : Note) → note ≡ n → is_aborted n ≡ true → Anew verb answer
    go (Note.Aborted (AbortCause.Lost p f)) is aborted = elim (((said_next mine old values answer note verb s noted due possible told).lost p f).0 is) [ inl l ↦ entering p f l | inr l ↦ reading p f l ]
    go (Note.Aborted (AbortCause.Higher p m)) is aborted = told_higher p m (((said_next mine old values answer note verb s noted due possible told).reads.higher p m).0 is)
    go n is aborted = absurd (true≢false (sym aborted))

-- the verb of a place begins a leadership only at the first ask
other_begins : (r : ℕ) (verb : Verb) (a : Answer) → is_ask verb ≡ false → begins_leadership r (event_by r verb a) ≡ false
other_begins r (Verb.Ask p) a none = absurd (true≢false none)
other_begins r verb a none = refl

first_before : (r p : ℕ) (a : Answer) → place_before r (event_by r (Verb.Ask p) a) (Place.Ask p) ≡ Place.Ask p
first_before r p a = elim (cases_eq p 0) [
  | inl first ↦ subst (λ q. place_before r (event_by r (Verb.Ask q) a) (Place.Ask q) ≡ Place.Ask q) (sym first) (rw (same_number r) refl)
  | inr other ↦ ap (λ x. if x then Place.Ask 0 else Place.Ask p) (begins_not r p a other)
]

-- so the step is made from the place
pub before_due : (c : Config) (r b : ℕ) (values up written : List ℕ) (place : Place) (verb : Verb) (a : Answer) → verb_at c b values up written place ≡ Some verb → place_before r (event_by r verb a) place ≡ place
before_due c r b values up written (Place.Ask p) verb a due = subst (λ w. place_before r (event_by r w a) (Place.Ask p) ≡ Place.Ask p) (same_some (Verb.Ask p) verb due) (first_before r p a)
before_due c r b values up written (Place.Confirm round p) verb a due = subst (λ w. place_before r (event_by r w a) (Place.Confirm round p) ≡ Place.Confirm round p) (same_some (Verb.Fence p) verb due) refl
before_due c r b values up written (Place.Evidence p) verb a due = subst (λ w. place_before r (event_by r w a) (Place.Evidence p) ≡ Place.Evidence p) (same_some (Verb.Fence p) verb due) refl
before_due c r b values up written place verb a due = ap (λ x. if x then Place.Ask 0 else place) (other_begins r verb a (verb_asks_none c b values up written place verb refl due))

-- a leader that left its leadership makes the first ask, whatever place it left
before_left : (c : Config) (r b : ℕ) (values up written : List ℕ) (place was : Place) (verb : Verb) (a : Answer) → place ≡ Place.Ask 0 → verb_at c b values up written place ≡ Some verb → place_before r (event_by r verb a) was ≡ place
before_left c r b values up written place was verb a left due =
    subst (λ w. place_before r (event_by r w a) was ≡ place) (same_some (Verb.Ask 0) verb (subst (λ p. verb_at c b values up written p ≡ Some verb) left due))
    (ap (λ x. if x then Place.Ask 0 else was) (begins_now r a) ∙ sym left)

-- the leader is where the step is made from
record IsBefore (c : Config) (r : ℕ) (mine : List Event) (e : Event) (l : Lead) : Type 0 where
  pub place : l.place ≡ place_before r e (place_after c r mine)
  pub tables : tables_of l ≡ tables_at c r mine
  pub idle : l.under_way ≡ false → l.place ≡ Place.Ask 0

is_before : (mine : List Event) (old : Lead) (verb : Verb) (a : Answer) → verb_of old (known old.config old.id mine) ≡ Some verb → IsWhere old.config old.id mine old ⊎ HasLeft old.config old.id mine old → IsBefore old.config old.id mine (event_by old.id verb a) old
is_before mine old verb a due at =
    let c = old.config in
    let r = old.id in
    let values = known c r mine in
    elim at [
      | inl here ↦ record {
        place = sym (before_due c r old.number values old.up old.written.items old.place verb a due) ∙ ap (place_before r (event_by r verb a)) here.place;
        tables = here.tables;
        idle = here.idle;
      }
      | inr left ↦ record {
        place = sym (before_left c r old.number values old.up old.written.items old.place (place_after c r mine) verb a left.place due);
        tables = left.tables;
        idle = λ off. left.place;
      }
    ]

-- a step of the leader, in a turn in which r is named
pub where_led : (mine : List Event) (old new : Lead) (values : List ℕ) (answer : Answer) (note : Note) → StandsFor mine old → NotesNext mine old values answer note → WritesNext mine old values answer new → Follows mine old values answer new
    → new.under_way ≡ going_after (begins_at old.place || old.under_way) note → PlacesNext mine old values answer new
where_led mine old new values answer note s noted writes follows going verb due possible told turn named was =
    let c = old.config in
    let r = old.id in
    let e = event_by r verb answer in
    let b = or_zero (proposal_number r mine) in
    let at = is_before mine old verb answer due was in
    let place = follows verb due possible told in
    let tables : tables_of new ≡ tables_at c r (e ∷ mine) = writes verb due possible told ∙ ap (λ t. tables_with c r mine (e ∷ mine) t verb answer) at.tables ∙ sym (turn_tables c r mine e turn) in
    record {
      place = place
          ∙ same_number_place c r old.number mine (e ∷ mine) old.up old.reach old.written.items (tables_of new) answer old.place s.at
          ∙ ap (λ t. next_place c r b (e ∷ mine) t answer old.place) tables
          ∙ ap (next_place c r b (e ∷ mine) (tables_at c r (e ∷ mine)) answer) at.place
          ∙ sym (led_place c r mine e turn named);
      tables = tables;
      idle = λ off. elim (goes_off (begins_at old.place || old.under_way) note (sym going ∙ off)) [
        | inl aborted ↦ place ∙ aborts_anew mine old values answer note verb (tables_of new) s noted due possible told aborted
        | inr none ↦ absurd (begun old.place old.under_way none at.idle)
      ];
    }
  where
    begun : (place : Place) (was : Bool) → (begins_at place || was) ≡ false → (was ≡ false → place ≡ Place.Ask 0) → ⊥
    begun place true off idle = both (begins_at place) off
      where
        both : (t : Bool) → (t || true) ≡ false → ⊥
        both true off = true≢false off
        both false off = true≢false off
    begun place false off idle = true≢false (sym (ap (λ p. begins_at p || false) (idle refl)) ∙ off)

-- the leader was told that r is named, and that a lower replica is
pub where_named : (c : Config) (r named : ℕ) (mine : List Event) (old new : Lead) → IsTold old named new → new.under_way ≡ (old.under_way && not (nat_lt named old.id)) → nat_lt named old.id ≡ false → IsWhere c r mine old → IsWhere c r mine new
where_named c r named mine old new told going low at = record { place = place ∙ at.place; tables = told.tables ∙ at.tables; idle = λ off. place ∙ at.idle (sym (stays old.under_way (nat_lt named old.id) low) ∙ sym going ∙ off) }
  where
    stays : (was t : Bool) → t ≡ false → (was && not t) ≡ was
    stays true t none = rw none refl
    stays false t none = refl

    both : (x t : Bool) → t ≡ false → (if x && t then Place.Ask 0 else old.place) ≡ old.place
    both true t none = rw none refl
    both false t none = refl

    place : new.place ≡ old.place
    place = told.place ∙ both (old.under_way || leads_at old.place) (nat_lt named old.id) low

pub where_left : (c : Config) (r named : ℕ) (mine : List Event) (old new : Lead) → IsTold old named new → nat_lt named old.id ≡ true → IsWhere c r mine old → HasLeft c r mine new
where_left c r named mine old new told low at = record { place = told.place ∙ go old.under_way (nat_lt named old.id) low at.idle; tables = told.tables ∙ at.tables }
  where
    go : (was t : Bool) → t ≡ true → (was ≡ false → old.place ≡ Place.Ask 0) → (if (was || leads_at old.place) && t then Place.Ask 0 else old.place) ≡ Place.Ask 0
    go true t is idle = rw is refl
    go false t is idle = by_place (leads_at old.place) (idle refl)
      where
        by_place : (x : Bool) → old.place ≡ Place.Ask 0 → (if x && t then Place.Ask 0 else old.place) ≡ Place.Ask 0
        by_place true first = rw is refl
        by_place false first = first

-- a beat in its turn leaves it at the first ask, if another is named, and if it rests
pub where_unnamed : (c : Config) (r : ℕ) (mine : List Event) (l : Lead) (answer : Answer) → is_replication mine (beat_of r answer) ≡ true → is_named c r mine ≡ false → HasLeft c r mine l → IsWhere c r (beat_of r answer ∷ mine) l
where_unnamed c r mine l answer turn other left = record {
  place = left.place ∙ sym (unnamed_place c r mine (beat_of r answer) turn other);
  tables = left.tables ∙ sym (turn_tables c r mine (beat_of r answer) turn);
  idle = λ off. left.place;
}

-- a place with nothing due
abbrev pub rests_at : Place → Bool
rests_at Place.Rest = true
rests_at Place.Outrun = true
rests_at place = false

pub where_rests : (c : Config) (r : ℕ) (mine : List Event) (l : Lead) (answer : Answer) → is_replication mine (beat_of r answer) ≡ true → is_named c r mine ≡ true → rests_at l.place ≡ true → IsWhere c r mine l → IsWhere c r (beat_of r answer ∷ mine) l
where_rests c r mine l answer turn named rests at =
    let now = beat_of r answer ∷ mine in
    record {
      place = stays l.place rests ∙ ap (next_place c r (or_zero (proposal_number r mine)) now (tables_at c r now) answer) at.place ∙ sym (led_place c r mine (beat_of r answer) turn named);
      tables = at.tables ∙ sym (turn_tables c r mine (beat_of r answer) turn);
      idle = at.idle;
    }
  where
    stays : (place : Place) → rests_at place ≡ true → place ≡ next_place c r (or_zero (proposal_number r mine)) (beat_of r answer ∷ mine) (tables_at c r (beat_of r answer ∷ mine)) answer place
    stays Place.Rest rests = refl
    stays Place.Outrun rests = refl
    stays place rests = absurd (true≢false (sym rests))

-- what is due is what the journal has due
pub due_is : (mine : List Event) (l : Lead) → StandsFor mine l → IsWhere l.config l.id mine l → (if leader l.config l.id mine == l.id then verb_of l (known l.config l.id mine) else None) ≡ due_after l.config l.id mine
due_is mine l s at =
    let named = leader l.config l.id mine == l.id in
    let few = s.config.replicas.1 in
    let inside = s.inside in
    ap (λ v. if named then v else None)
    (same_number_verb l.config l.id l.number mine (known l.config l.id mine) l.up l.reach l.written.items l.place (omega (arith, few, inside)) s.at
    ∙ ap (λ (t : Tables). verb_at l.config (number_due l.id mine) (known l.config l.id mine) t.up t.written l.place) at.tables
    ∙ ap (λ p. verb_at l.config (number_due l.id mine) (known l.config l.id mine) (tables_at l.config l.id mine).up (tables_at l.config l.id mine).written p) at.place)
