-- What stands at the place that a journal gives its leader, with the counts there, and what each kind of step leaves of it.
use Rattle.std.proofs.Common.{◌≡◌, ◌∙◌, ℕ, ◌+◌, ◌-◌, ◌*◌, ◌/◌, ◌%◌, ◌<◌, ◌≤◌, ◌&&◌, inl, inr, Bool, true, false, None, Some, List, ◌∷◌, arith, get_or, length, max, refl, subst, sym, true≢false}
use Rattle.std.specs.Prelude.{if◌then◌else◌, is_some, nat_lt, set}
use Rattle.std.specs.declared.option.Option.{Option}
use Rattle.std.proofs.lemmas.Bool.{and_from, and_parts, cases_lt, lt-ltb, ltb-true}
use Rattle.std.proofs.lemmas.List.{get_or-set_other, get_or-set_same, length-set}
use Rattle.mu_model.specs.Again.{asks_again}
use Rattle.mu_model.specs.Contents.{IsConfig, config_word, rest_of}
use Rattle.mu_model.specs.Entering.{any_min_read, number_allowed}
use Rattle.mu_model.specs.Histories.{event_by, greatest}
use Rattle.mu_model.specs.Knowledge.{known}
use Rattle.mu_model.specs.Leaderships.{leadership, number_put}
use Rattle.mu_model.specs.Parts.{IsPossible}
use Rattle.mu_model.specs.Points.{greatest_used, least_number}
use Rattle.mu_model.specs.Stretches.{is_replication}
use Rattle.mu_model.specs.declared.config.Config.{Config}
use Rattle.mu_model.specs.declared.event.Answer.{Answer}
use Rattle.mu_model.specs.declared.event.Event.{Event}
use Rattle.mu_model.specs.declared.event.Verb.{Verb}
use Rattle.mu_lead.specs.Ahead.{ahead_at}
use Rattle.mu_lead.specs.Beside.{is_beside, leads_at, writes_row}
use Rattle.mu_lead.specs.Journal.{tables_beside, tables_with}
use Rattle.mu_lead.specs.Lasting.{step_of, verb_or}
use Rattle.mu_lead.specs.Leading.{HoldsTables, end_of}
use Rattle.mu_lead.specs.Listing.{Tables, next_place}
use Rattle.mu_lively.specs.Rooms.{KeepsTables}
use Rattle.mu_lead.specs.Standing.{At, NumberAfter, verb_at}
use Rattle.mu_lead.specs.declared.place.Offer.{Offer}
use Rattle.mu_lead.specs.declared.place.Place.{Place}
use Rattle.mu_lead.proofs.Ahead.{at_written, may_write_ahead}
use Rattle.mu_lively.proofs.Words.{rooms_written}
use Rattle.mu_lively.proofs.AskedAgain.{leaders_ask_again}
use Rattle.mu_lively.proofs.Causes.{asks_have_cause, causes_beside}
use Rattle.mu_lively.proofs.Confirms.{confirms_beside}
use Rattle.mu_lead.proofs.Due.{default_is, last_there}
use Rattle.mu_lively.proofs.Elections.{elects_beside, elects_from, elects_rest}
use Rattle.mu_lively.proofs.Joins.{joins_beside}
use Rattle.mu_lively.proofs.Laws.{followers_join, fuos_are_raised, minima_are_read, misses_are_explained}
use Rattle.mu_lively.proofs.Misses.{explains_beside}
use Rattle.mu_lead.proofs.Offers.{tables_row}
use Rattle.mu_lively.proofs.Onwards.{listing_goes}
use Rattle.mu_lead.proofs.Others.{at_leading, at_on, at_resting, begins_none, beside_leaves}
use Rattle.mu_lively.proofs.Raises.{raises_beside}
use Rattle.mu_lead.proofs.Replies.{answer_is}
use Rattle.mu_lively.proofs.Resigning.{counts_rest}
use Rattle.mu_lively.proofs.RoomsBeside.{rooms_beside}
use Rattle.mu_lively.proofs.RoomsLasting.{rooms_last_along}
use Rattle.mu_lively.proofs.RoomsWriting.{one_word, words_same}
use Rattle.mu_lead.proofs.StandsLasting.{after_step, stands_along}
use Rattle.mu_lead.proofs.StandsOnward.{Stood}
use Rattle.mu_lead.proofs.Tables.{tables_kept}
use Rattle.mu_lively.specs.Paces.{PacesAt}

-- at the place, with these tables, what has to stand there stands, and each count has room
pub record IsInPlace (c : Config) (r : ℕ) (mine : List Event) (t : Tables) (place : Place) : Type 0 where
  pub number : ℕ
  pub stood : Stood c r number mine t place
  pub paces : PacesAt c r mine t.written place

-- the least number of r above all that it read and put is allowed
pub least_allowed : (r : ℕ) (now : List Event) → r < 8 → number_allowed r now (least_number r (greatest_used r now)) None
least_allowed r now small = go (greatest (λ e. any_min_read r e.by e.verb e.answer) (leadership r now)) (greatest (λ e. number_put r e.by e.verb) now)
  where
    go : (x y : ℕ) → (least_number r (max x y) % 8 ≡ r) × (8 ≤ least_number r (max x y)) × (x < least_number r (max x y)) × (y < least_number r (max x y)) × ((n : ℕ) → n % 8 ≡ r → 8 ≤ n → x < n → y < n → least_number r (max x y) ≤ n)
    go x y = by (nat_lt 7 (max x y) && nat_lt (max x y) (max x y / 8 * 8 + r)) refl
      where
        by : (t : Bool) → (nat_lt 7 (max x y) && nat_lt (max x y) (max x y / 8 * 8 + r)) ≡ t
            → ((if t then max x y / 8 * 8 + r else max x y / 8 * 8 + r + 8) % 8 ≡ r) × (8 ≤ (if t then max x y / 8 * 8 + r else max x y / 8 * 8 + r + 8)) × (x < (if t then max x y / 8 * 8 + r else max x y / 8 * 8 + r + 8)) × (y < (if t then max x y / 8 * 8 + r else max x y / 8 * 8 + r + 8))
            × ((n : ℕ) → n % 8 ≡ r → 8 ≤ n → x < n → y < n → (if t then max x y / 8 * 8 + r else max x y / 8 * 8 + r + 8) ≤ n)
        by true is =
            let both = and_parts (nat_lt 7 (max x y)) (nat_lt (max x y) (max x y / 8 * 8 + r)) is in
            let high = ltb-true 7 (max x y) both.0 in
            let low = ltb-true (max x y) (max x y / 8 * 8 + r) both.1 in
            (omega (arith, small), omega (arith, high), omega (arith, low), omega (arith, low), λ n own few above_x above_y. omega (arith, small, own, above_x, above_y))
        by false is = (
          omega (arith, small),
          omega arith,
          omega (arith, small),
          omega (arith, small),
          λ n own few above_x above_y. elim (cases_lt 7 (max x y)) [
            | inl high ↦ elim (cases_lt (max x y) (max x y / 8 * 8 + r)) [
              | inl same ↦ absurd (true≢false (sym (and_from _ _ (lt-ltb 7 (max x y) high) (lt-ltb (max x y) (max x y / 8 * 8 + r) same)) ∙ is))
              | inr over ↦ omega (arith, small, own, above_x, above_y, over)
            ]
            | inr low ↦ omega (arith, small, own, few, low)
          ],
        )

-- so there is a number after each step
pub next_number : (c : Config) (r b : ℕ) (now : List Event) (place : Place) → r < 8 → (d : ℕ) × NumberAfter c r b d now place
next_number c r b now (Place.ReadMin p) small = (least_number r (greatest_used r now), λ none. least_allowed r now small)
next_number c r b now place small = (b, refl)

-- what the counts depend on of the tables is kept by the step of each place
kept_tables : (c : Config) (r b : ℕ) (mine : List Event) (t : Tables) (place : Place) (a : Answer) → IsConfig c → HoldsTables c r mine t.up t.reach t.heads t.written → At c r b mine t.up t.reach t.written place → KeepsTables t (after_step c r b mine t place a) place
kept_tables c r b mine t (Place.RaiseBehind p on) a good tables at = refl
kept_tables c r b mine t (Place.Look p i candidate best) a good tables at = refl
kept_tables c r b mine t (Place.Write j last offer) a good tables at =
    let w = at.0.writing in
    let end = last_there c w.first (rest_of c w.first) good w.batch.row refl in
    let inside = at.0.inside in
    let last_is = w.last_row in
    let rows = tables.rows in
    let there : j < length t.written = omega (arith, end, inside, last_is, rows) in
    let k = get_or t.written j 12 in
    one_word t.written (set t.written j (k + 1)) j (last + 1 - j) (omega (arith, inside)) at.1 (get_or-set_same t.written j (k + 1) 12 there)
    (λ i above below. get_or-set_other t.written j i (k + 1) 12 (λ same. omega (arith, above, same)))
kept_tables c r b mine t place a good tables at = tt

-- a step of the leader from its place
pub led_place : (c : Config) (r : ℕ) (mine : List Event) (t : Tables) (place : Place) (a : Answer) → IsConfig c → r < c.replicas → (h : IsInPlace c r mine t place) → is_some (verb_at c h.number (known c r mine) t.up t.written place) ≡ true → IsPossible c r (step_of c r h.number mine t.up t.written place a ∷ mine)
    → is_replication mine (step_of c r h.number mine t.up t.written place a) ≡ true
    → IsInPlace c r (step_of c r h.number mine t.up t.written place a ∷ mine) (after_step c r h.number mine t place a) (next_place c r h.number (step_of c r h.number mine t.up t.written place a ∷ mine) (after_step c r h.number mine t place a) a place)
led_place c r mine t place a good inside h some possible turn =
    let b = h.number in
    let e = step_of c r b mine t.up t.written place a in
    let new = after_step c r b mine t place a in
    let next = next_place c r b (e ∷ mine) new a place in
    let few = good.replicas.1 in
    let d = next_number c r b (e ∷ mine) place (omega (arith, few, inside)) in
    let at = h.stood.at in
    let stood : Stood c r d.0 (e ∷ mine) new next = stands_along c r b d.0 mine t place a some (record { is = good; inside = inside; tables = h.stood.tables }) at possible d.1 in
    record {
      number = d.0;
      stood = stood;
      paces = record {
        counts = record {
          rooms = rooms_last_along c r b d.0 mine t new place a some (record { is = good; inside = inside; tables = h.stood.tables; at = at; possible = possible; turn = turn; kept = kept_tables c r b mine t place a good h.stood.tables at; held = stood.tables; next = stood.at; rooms = h.paces.counts.rooms });
          evidence = misses_are_explained c r b mine t.up t.reach t.written new place a good inside at possible turn h.paces.counts.evidence;
          raises = fuos_are_raised c r b mine t.up t.reach t.written new place a good inside at possible turn h.paces.counts.raises;
          confirms = minima_are_read c r b mine t.up t.reach t.written new place a good inside at possible turn h.paces.counts.confirms;
          joins = followers_join c r b mine t.up t.reach t.written new place a good inside at possible turn h.paces.counts.joins;
        };
        causes = asks_have_cause c r b mine t.up t.reach t.written new place a good inside at possible turn h.paces.causes;
        elects = elects_from c r b mine t.up t.reach t.written (known c r mine) (verb_or (verb_at c b (known c r mine) t.up t.written place)) a place next inside at (some_is (verb_at c b (known c r mine) t.up t.written place) some) h.paces.elects turn
            (listing_goes c r b mine t.up t.reach t.written new place a at possible) (λ rest. (subst (λ p. At c r d.0 (e ∷ mine) new.up new.reach new.written p) rest stood.at).0);
      };
    }
  where
    some_is : (o : Option Verb) → is_some o ≡ true → o ≡ Some (verb_or o)
    some_is None some = absurd (true≢false (sym some))
    some_is (Some verb) some = refl

-- the counts are left by what another machine does in the background
counts_beside : (c : Config) (r b : ℕ) (mine : List Event) (t : Tables) (place : Place) (verb : Verb) (answer : Answer) → is_replication mine (event_by r verb answer) ≡ false → is_beside (leads_at place) verb ≡ true → At c r b mine t.up t.reach t.written place → PacesAt c r mine t.written place
    → PacesAt c r (event_by r verb answer ∷ mine) t.written place
counts_beside c r b mine t place verb answer even beside at paces = record {
  counts = record {
    rooms = rooms_beside c r b mine t.up t.reach t.written place verb answer even beside at paces.counts.rooms;
    evidence = explains_beside c r mine (leads_at place) place verb answer even beside paces.counts.evidence;
    raises = raises_beside c r mine (leads_at place) place verb answer even beside paces.counts.raises;
    confirms = confirms_beside c r mine (leads_at place) place verb answer even beside paces.counts.confirms;
    joins = joins_beside c r mine (leads_at place) place verb answer even beside paces.counts.joins;
  };
  causes = causes_beside c r mine (leads_at place) place verb answer beside paces.causes;
  elects = elects_beside c r mine (leads_at place) place verb answer even beside paces.elects;
}

-- and so is what stands there, by any verb of another machine
at_beside : (c : Config) (r b : ℕ) (verb : Verb) (answer : Answer) (mine : List Event) (up : List ℕ) (reach : List (Option ℕ)) (written : List ℕ) (place : Place) → writes_row verb ≡ false → is_beside (leads_at place) verb ≡ true → IsPossible c r (event_by r verb answer ∷ mine) → At c r b mine up reach written place
    → At c r b (event_by r verb answer ∷ mine) up reach written place
at_beside c r b verb answer mine up reach written place none beside possible at = go (leads_at place) refl beside
  where
    go : (s : Bool) → leads_at place ≡ s → is_beside s verb ≡ true → At c r b (event_by r verb answer ∷ mine) up reach written place
    go true leads beside = at_leading c r b verb answer mine up reach written place leads (beside_leaves true (end_of c r mine) verb none beside) possible at
    go false rests beside = at_resting c r b (end_of c r mine) verb answer mine up reach written place rests (beside_leaves false (end_of c r mine) verb none beside) at

stood_beside : (c : Config) (r b : ℕ) (verb : Verb) (answer : Answer) (mine : List Event) (t : Tables) (place : Place) → writes_row verb ≡ false → is_beside (leads_at place) verb ≡ true → IsPossible c r (event_by r verb answer ∷ mine) → Stood c r b mine t place → Stood c r b (event_by r verb answer ∷ mine) t place
stood_beside c r b verb answer mine t place none beside possible stood = record {
  tables = tables_kept c r (event_by r verb answer) mine t.up t.reach t.heads t.written possible (begins_none (leads_at place) r verb answer beside) none stood.tables;
  at = at_beside c r b verb answer mine t.up t.reach t.written place none beside possible stood.at;
}

pub beside_place : (c : Config) (r : ℕ) (mine : List Event) (t : Tables) (place : Place) (verb : Verb) (answer : Answer) → is_replication mine (event_by r verb answer) ≡ false → writes_row verb ≡ false → is_beside (leads_at place) verb ≡ true → IsPossible c r (event_by r verb answer ∷ mine) → IsInPlace c r mine t place
    → IsInPlace c r (event_by r verb answer ∷ mine) t place
beside_place c r mine t place verb answer even none beside possible h = record {
  number = h.number;
  stood = stood_beside c r h.number verb answer mine t place none beside possible h.stood;
  paces = counts_beside c r h.number mine t place verb answer even beside h.stood.at h.paces;
}

-- a word that is written ahead
word_place : (c : Config) (r j : ℕ) (mine : List Event) (t : Tables) (place : Place) (answer : Answer) → is_replication mine (event_by r (Verb.WriteRow j (get_or t.written j 12) (config_word c j (get_or t.written j 12))) answer) ≡ false → leads_at place ≡ true → get_or t.written j 12 < 12 → j < length t.written
    → ((u last : ℕ) (offer : Offer) → place ≡ Place.Write u last offer → last < j) → IsPossible c r (event_by r (Verb.WriteRow j (get_or t.written j 12) (config_word c j (get_or t.written j 12))) answer ∷ mine) → IsInPlace c r mine t place
    → IsInPlace c r (event_by r (Verb.WriteRow j (get_or t.written j 12) (config_word c j (get_or t.written j 12))) answer ∷ mine) (tables_beside t (Verb.WriteRow j (get_or t.written j 12) (config_word c j (get_or t.written j 12)))) place
word_place c r j mine t place answer even leads lacks there after possible h =
    let k = get_or t.written j 12 in
    let verb : Verb = Verb.WriteRow j k (config_word c j k) in
    let done : answer ≡ Answer.Done = (answer_is c r verb answer mine possible).1 in
    let may = subst (λ a. IsPossible c r (event_by r verb a ∷ mine)) done possible in
    let b = h.number in
    let words = set t.written j (k + 1) in
    let beside : is_beside (leads_at place) verb ≡ true = leads in
    let paces = counts_beside c r b mine t place verb answer even beside h.stood.at h.paces in
    let stood : Stood c r b (event_by r verb Answer.Done ∷ mine) (tables_beside t verb) place = record {
      tables = tables_row c r j k (config_word c j k) mine t.up t.reach t.heads t.written words may h.stood.tables (sym (default_is t.written j there)) (length-set t.written j (k + 1)) (get_or-set_same t.written j (k + 1) 0 there) (λ q other. get_or-set_other t.written j q (k + 1) 0 other);
      at = at_written c r b (event_by r verb Answer.Done ∷ mine) t.up t.reach t.written words place
          (λ u last offer here. (let low = after u last offer here in
          let inside = (subst (λ p. At c r b mine t.up t.reach t.written p) here h.stood.at).0.inside in
          get_or-set_other t.written j u (k + 1) 12 (λ same. omega (arith, low, same, inside))))
          (at_on c r b verb Answer.Done mine t.up t.reach t.written place leads refl may h.stood.at);
    } in
    record {
      number = b;
      stood = subst (λ a. Stood c r b (event_by r verb a ∷ mine) (tables_beside t verb) place) (sym done) stood;
      paces = record {
        counts = record {
          rooms = rooms_written c r (event_by r verb answer ∷ mine) t.written words place (λ u last offer here. words_same t.written words u (last + 1 - u) (λ i from to.
              (let low = after u last offer here in get_or-set_other t.written j i (k + 1) 12 (λ same. omega (arith, low, same, to, from))))) paces.counts.rooms;
          evidence = paces.counts.evidence;
          raises = paces.counts.raises;
          confirms = paces.counts.confirms;
          joins = paces.counts.joins;
        };
        causes = paces.causes;
        elects = paces.elects;
      };
    }

pub ahead_place : (c : Config) (r : ℕ) (mine : List Event) (t : Tables) (place : Place) (verb : Verb) (answer : Answer) → IsConfig c → r < c.replicas → is_replication mine (event_by r verb answer) ≡ false → length mine < c.budget → ahead_at c r (known c r mine) t.written place ≡ Some verb
    → IsPossible c r (event_by r verb answer ∷ mine) → IsInPlace c r mine t place → IsInPlace c r (event_by r verb answer ∷ mine) (tables_beside t verb) place
ahead_place c r mine t place verb answer good inside even short due possible h =
    let may = may_write_ahead c r h.number mine (known c r mine) t.up t.reach t.heads t.written place verb good inside h.stood.tables h.stood.at short due in
    let rows = h.stood.tables.rows in
    let there = may.there in
    subst (λ v. IsInPlace c r (event_by r v answer ∷ mine) (tables_beside t v) place) (sym may.is)
    (word_place c r may.row mine t place answer (subst (λ v. is_replication mine (event_by r v answer) ≡ false) may.is even) may.leads may.lacks (omega (arith, there, rows)) may.after (subst (λ v. IsPossible c r (event_by r v answer ∷ mine)) may.is possible) h)

-- a beat of a leader with nothing due
pub rest_place : (c : Config) (r : ℕ) (mine : List Event) (t : Tables) (answer : Answer) → IsConfig c → is_replication mine (event_by r Verb.Beat answer) ≡ true → IsPossible c r (event_by r Verb.Beat answer ∷ mine) → IsInPlace c r mine t Place.Rest → IsInPlace c r (event_by r Verb.Beat answer ∷ mine) t Place.Rest
rest_place c r mine t answer good odd possible h = record {
  number = h.number;
  stood = stood_beside c r h.number Verb.Beat answer mine t Place.Rest refl refl possible h.stood;
  paces = record {
    counts = counts_rest c r mine t.written answer good odd h.stood.at.0 h.paces.counts;
    causes = causes_beside c r mine (leads_at Place.Rest) Place.Rest Verb.Beat answer refl h.paces.causes;
    elects = elects_rest c r mine (leads_at Place.Rest) Verb.Beat answer odd refl h.stood.at.0 h.paces.elects;
  };
}

-- at the first ask nothing else stands
pub first_stood : (c : Config) (r b : ℕ) (mine : List Event) (t : Tables) → 0 < c.replicas → HoldsTables c r mine t.up t.reach t.heads t.written → Stood c r b mine t (Place.Ask 0)
first_stood c r b mine t some tables = record { tables = tables; at = record { region = some; asked = inl refl } }

-- the first ask of a leader that asks again, from any place
pub asked_place : (c : Config) (r : ℕ) (mine : List Event) (t : Tables) (place : Place) (a : Answer) → IsConfig c → r < c.replicas → is_replication mine (event_by r (Verb.Ask 0) a) ≡ true → asks_again c r mine ≡ true → IsPossible c r (event_by r (Verb.Ask 0) a ∷ mine) → IsInPlace c r mine t place
    → IsInPlace c r (event_by r (Verb.Ask 0) a ∷ mine) (tables_with c r mine (event_by r (Verb.Ask 0) a ∷ mine) t (Verb.Ask 0) a) (next_place c r 0 (event_by r (Verb.Ask 0) a ∷ mine) (tables_with c r mine (event_by r (Verb.Ask 0) a ∷ mine) t (Verb.Ask 0) a) a (Place.Ask 0))
asked_place c r mine t place a good inside odd asks possible h =
    let new = tables_with c r mine (event_by r (Verb.Ask 0) a ∷ mine) t (Verb.Ask 0) a in
    let some : 0 < c.replicas = omega (arith, inside) in
    let first = first_stood c r 0 mine t some h.stood.tables in
    let keeps = leaders_ask_again.asked c r h.number 0 mine t.up t.reach t.written new.written new place a some odd asks h.stood.at h.paces in
    record {
      number = 0;
      stood = stands_along c r 0 0 mine t (Place.Ask 0) a refl (record { is = good; inside = inside; tables = h.stood.tables }) first.at possible refl;
      paces = keeps;
    }
