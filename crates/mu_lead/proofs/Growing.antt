-- What holds at each place but rest holds with more rows at the end too.
use Rattle.std.proofs.Common.{◌≡◌, ℕ, zero, suc, ◌*◌, ◌+◌, ◌<◌, inl, inr, Bool, true, false, List, [], ◌∷◌, ◌++◌, Some, None, ap, refl, subst, sym, ◌∙◌, arith, get_or, length, length-append, true≢false}
use Rattle.std.specs.Prelude.{if◌then◌else◌, nat_lt}
use Rattle.std.proofs.lemmas.Bool.{cases_lt, false_from_ne_true, ltb-true}
use Rattle.std.proofs.lemmas.List.{get_or_append_left, get_or_past}
use Rattle.mu_model.proofs.Putting.{new_met}
use Rattle.std.specs.declared.option.Option.{Option}
use Rattle.mu_model.specs.declared.config.Config.{Config}
use Rattle.mu_model.specs.declared.config.Row.{Row}
use Rattle.mu_model.specs.declared.event.Event.{Event}
use Rattle.mu_model.specs.declared.event.Verb.{Verb}
use Rattle.mu_model.specs.Contents.{IsConfig, client_of, config_word, holds_all, row_count}
use Rattle.mu_model.specs.Knowledge.{known}
use Rattle.mu_model.specs.Parts.{IsPossible}
use Rattle.mu_model.specs.Room.{reserve}
use Rattle.mu_model.specs.Growing.{with_more}
use Rattle.mu_agree.proofs.Growing.{AllStand, candidate_kept, client_kept, filled_kept, known_kept, lacks_more, legal_kept, marked_kept, more_rows, new_more, new_stands, no_row_written, number_kept, rest_kept, row_batch_kept, session_kept, word_kept}
use Rattle.mu_agree.proofs.Possible.{part_entries_stand_law}
use Rattle.mu_agree.proofs.Sessions.{row_within}
use Rattle.mu_lead.specs.declared.place.Place.{Place}
use Rattle.mu_lead.specs.declared.place.Sight.{Sight}
use Rattle.mu_lead.specs.declared.place.Offer.{Offer}
use Rattle.mu_lead.specs.declared.place.Then.{Then}
use Rattle.mu_lead.specs.Confirming.{AtEnterMin, Confirmed, Numbered, Telling}
use Rattle.mu_lead.specs.Leading.{AtLateEnter, AtLateFuo, Behind, Brought, HoldsTables, IsMember, Late, Leads, Level, Near, end_of}
use Rattle.mu_lead.specs.Offering.{AtEnter, Looked, Looking, LooksShow, MayBeMarked, Offering, Roomy, Writing, leaves_room}
use Rattle.mu_lead.specs.Growing.{PlacesStay, Works, rests}
use Rattle.mu_lead.specs.Beside.{leads_at}
use Rattle.mu_lead.specs.Listing.{Tables, first_member, heads_from, late_from, low_from, next_position, or_else, stranger_from}
use Rattle.mu_lead.proofs.StandsOnward.{late_stands}
use Rattle.mu_lead.specs.Standing.{At, verb_at}

-- while regions are asked and minima are read
confirmed_more : (c : Config) (more : List Row) (r : ℕ) (mine : List Event) → Confirmed c r mine → Confirmed (with_more c more) r mine
confirmed_more c more r mine m = record { own = m.own; many = m.many }

telling_more : (c : Config) (more : List Row) (r : ℕ) (mine : List Event) (p : ℕ) → Telling c r mine p → Telling (with_more c more) r mine p
telling_more c more r mine p m = record { fresh = m.fresh; confirmed = confirmed_more c more r mine m.confirmed; told = m.told; low = m.low }

numbered_more : (c : Config) (more : List Row) (r b : ℕ) (mine : List Event) → Numbered c r b mine → Numbered (with_more c more) r b mine
numbered_more c more r b mine m = record { begun = m.begun; goes_on = m.goes_on; allowed = m.allowed; confirmed = confirmed_more c more r mine m.confirmed; told = m.told; low = m.low; unput = m.unput }

entering_more : (c : Config) (more : List Row) (r b : ℕ) (mine : List Event) (p : ℕ) → AtEnterMin c r b mine p → AtEnterMin (with_more c more) r b mine p
entering_more c more r b mine p m = record { region = m.region; granted = m.granted; numbered = numbered_more c more r b mine m.numbered; below = record { joined = m.below.joined; held = m.below.held } }

-- while a leadership is carried
leads_more : (c : Config) (more : List Row) (r b : ℕ) (mine : List Event) → Leads c r b mine → Leads (with_more c more) r b mine
leads_more c more r b mine m = record { begun = m.begun; goes_on = m.goes_on; numbered = m.numbered; carried = m.carried; held = m.held; unput = rw (known_kept c more r mine) m.unput }

level_more : (c : Config) (more : List Row) (r b : ℕ) (mine : List Event) (up : List ℕ) (reach : List (Option ℕ)) → Level c r b mine up reach → Level (with_more c more) r b mine up reach
level_more c more r b mine up reach m = record { leads = leads_more c more r b mine m.leads; have = rw (known_kept c more r mine) m.have; raised = m.raised; few = rw (known_kept c more r mine) m.few }

member_more : (c : Config) (more : List Row) (r : ℕ) (mine : List Event) (o : Option ℕ) → IsMember c r mine o → IsMember (with_more c more) r mine o
member_more c more r mine None m = m
member_more c more r mine (Some q) m = m

behind_more : (c : Config) (more : List Row) (r b : ℕ) (mine : List Event) (up : List ℕ) (reach : List (Option ℕ)) (p : ℕ) (t : Then) → Behind c r b mine up reach p t → Behind (with_more c more) r b mine up reach p t
behind_more c more r b mine up reach p t m = record {
  region = m.region;
  member = m.member;
  leads = leads_more c more r b mine m.leads;
  raised = m.raised;
  read = m.read;
  clear = m.clear;
  have = rw (known_kept c more r mine) m.have;
  few = rw (known_kept c more r mine) m.few;
  late = m.late;
}

near_more : (c : Config) (more : List Row) (r b : ℕ) (mine : List Event) (up : List ℕ) (reach : List (Option ℕ)) (p : ℕ) (t : Then) → Near c r b mine up reach p t → Near (with_more c more) r b mine up reach p t
near_more c more r b mine up reach p t m = record { behind = behind_more c more r b mine up reach p t m.behind; lacks = rw (known_kept c more r mine) m.lacks; near = m.near }

late_more : (c : Config) (more : List Row) (r b : ℕ) (mine : List Event) (up : List ℕ) (reach : List (Option ℕ)) (p : ℕ) → Late c r b mine up reach p → Late (with_more c more) r b mine up reach p
late_more c more r b mine up reach p m = record { region = m.region; stranger = m.stranger; level = level_more c more r b mine up reach m.level }

late_fuo_more : (c : Config) (more : List Row) (r b : ℕ) (mine : List Event) (up : List ℕ) (reach : List (Option ℕ)) (p : ℕ) → AtLateFuo c r b mine up reach p → AtLateFuo (with_more c more) r b mine up reach p
late_fuo_more c more r b mine up reach p m = record { late = late_more c more r b mine up reach p m.late; granted = m.granted; told = m.told; low = m.low }

late_enter_more : (c : Config) (more : List Row) (r b : ℕ) (mine : List Event) (up : List ℕ) (reach : List (Option ℕ)) (p : ℕ) → AtLateEnter c r b mine up reach p → AtLateEnter (with_more c more) r b mine up reach p
late_enter_more c more r b mine up reach p m = record { told = late_fuo_more c more r b mine up reach p m.told; short = rw (known_kept c more r mine) m.short; raised = m.raised; read = m.read; late = m.late }

-- at a new position
candidate_more : (c : Config) (more : List Row) (r : ℕ) (mine : List Event) (o : Option ℕ) → MayBeMarked c r mine o → MayBeMarked (with_more c more) r mine o
candidate_more c more r mine None m = m
candidate_more c more r mine (Some q) m = record {
  region = m.region;
  other = m.other;
  version = m.version;
  unmarked = rw (known_kept c more r mine, marked_kept c more q (known c r mine)) m.unmarked;
  stuck = rw (known_kept c more r mine) (candidate_kept c more r q (end_of c r mine + reserve c) mine ∙ m.stuck);
}

leaves_same : (c : Config) (more : List Row) (r : ℕ) (mine : List Event) (i free q : ℕ) → leaves_room (with_more c more) r mine i free q ≡ leaves_room c r mine i free q
leaves_same c more r mine i free q = rw (known_kept c more r mine, marked_kept c more q (known c r mine)) refl

roomy_more : (c : Config) (more : List Row) (r : ℕ) (mine : List Event) (q : ℕ) (o : Option ℕ) → IsConfig c → IsConfig (with_more c more) → AllStand c (known c r mine) → Roomy c r mine q o → Roomy (with_more c more) r mine q o
roomy_more c more r mine q o g h s m = record {
  within = rw (known_kept c more r mine) (let low = m.within in let rows = more_rows c more in omega (arith, low, rows));
  lacks = rw (known_kept c more r mine) (lacks_more c more (known c r mine) g h s m.lacks);
  room = λ k l. leaves_same c more r mine (end_of (with_more c more) r mine) 0 k ∙ rw (known_kept c more r mine) (m.room k l);
  free = λ none k l. leaves_same c more r mine (end_of (with_more c more) r mine) (reserve c) k ∙ rw (known_kept c more r mine) (m.free none k l);
  marks = candidate_more c more r mine o m.marks;
}

looked_more : (c : Config) (more : List Row) (r i : ℕ) (mine : List Event) (p : ℕ) → Looked c r i mine p → Looked (with_more c more) r i mine p
looked_more c more r i mine p m = record { good = m.good; last = m.last; clear = m.clear; empty = m.empty }

looking_more : (c : Config) (more : List Row) (r b : ℕ) (mine : List Event) (up : List ℕ) (reach : List (Option ℕ)) (p : ℕ) (o : Option ℕ) (best : Option Sight) → IsConfig c → IsConfig (with_more c more) → AllStand c (known c r mine) → Looking c r b mine up reach p o best → Looking (with_more c more) r b mine up reach p o best
looking_more c more r b mine up reach p o best g h s m = record {
  level = level_more c more r b mine up reach m.level;
  roomy = roomy_more c more r mine c.replicas o g h s m.roomy;
  looked = λ q l member. rw (known_kept c more r mine) (looked_more c more r (end_of c r mine) mine q (m.looked q l member));
  shows = rw (known_kept c more r mine) m.shows;
}

writing_more : (c : Config) (more : List Row) (r b : ℕ) (mine : List Event) (up : List ℕ) (reach : List (Option ℕ)) (j last : ℕ) (offer : Offer) → IsConfig c → IsConfig (with_more c more) → AllStand c (known c r mine) → Writing c r b mine up reach j last offer → Writing (with_more c more) r b mine up reach j last offer
writing_more c more r b mine up reach j last offer g h s m = record {
  looking = looking_more c more r b mine up reach c.replicas None None g h s m.looking;
  first = m.first;
  value = m.value;
  own = m.own;
  batch = record {
    batch = row_batch_kept c more (r * 4096 + m.first) (row_within c (r * 4096 + m.first) m.batch.batch) ∙ m.batch.batch;
    row = (let low = m.batch.row in let rows = more_rows c more in omega (arith, low, rows));
    next = rw (known_kept c more r mine, number_kept c more m.first m.batch.row, client_kept c more m.first m.batch.row, session_kept c more (client_of c m.first) (known c r mine) g h s) m.batch.next;
  };
  last_row = m.last_row ∙ ap (λ k. m.first + k) (sym (rest_kept c more m.first m.batch.row));
  from = m.from;
  to = m.to;
  below = m.below;
}

offering_more : (c : Config) (more : List Row) (r b v : ℕ) (mine : List Event) (up : List ℕ) (reach : List (Option ℕ)) (p : ℕ) → IsConfig c → IsConfig (with_more c more) → IsPossible c r mine → AllStand c (known c r mine) → Offering c r b v mine up reach p → Offering (with_more c more) r b v mine up reach p
offering_more c more r b v mine up reach p g h possible s m = record {
  begun = m.begun;
  goes_on = m.goes_on;
  numbered = m.numbered;
  carried = m.carried;
  held = m.held;
  have = rw (known_kept c more r mine) m.have;
  raised = m.raised;
  few = rw (known_kept c more r mine) m.few;
  within = rw (known_kept c more r mine) (let low = m.within in let rows = more_rows c more in omega (arith, low, rows));
  new = (new_met (with_more c more) r mine (end_of (with_more c more) r mine) v).1 (rw (known_kept c more r mine) (
      let new = (new_met c r mine (end_of c r mine) v).0 m.new in
      new_more c more r (end_of c r mine) v mine g h s (new_stands c r (end_of c r mine) b v mine possible m.numbered new) new));
  below = rw (known_kept c more r mine) m.below;
  above = rw (known_kept c more r mine) m.above;
  unput = rw (known_kept c more r mine) m.unput;
}

enter_more : (c : Config) (more : List Row) (r b v : ℕ) (mine : List Event) (up : List ℕ) (reach : List (Option ℕ)) (p : ℕ) → IsConfig c → IsConfig (with_more c more) → IsPossible c r mine → AllStand c (known c r mine) → AtEnter c r b v mine up reach p → AtEnter (with_more c more) r b v mine up reach p
enter_more c more r b v mine up reach p g h possible s m = record { region = m.region; member = m.member; offering = offering_more c more r b v mine up reach p g h possible s m.offering; looked = rw (known_kept c more r mine) m.looked }

shows_more : (c : Config) (more : List Row) (r : ℕ) (mine : List Event) (i : ℕ) (t : Bool) → LooksShow c r mine i t → LooksShow (with_more c more) r mine i t
shows_more c more r mine i true m = record { region = m.region; within = m.within; member = m.member; shown = m.shown }
shows_more c more r mine i false m = m

pub place_more : (c : Config) (more : List Row) (r b : ℕ) (mine : List Event) (up : List ℕ) (reach : List (Option ℕ)) (written : List ℕ) (place : Place) → IsConfig c → IsConfig (with_more c more) → IsPossible c r mine → Works place → At c r b mine up reach written place → At (with_more c more) r b mine up reach written place
place_more c more r b mine up reach written (Place.Ask p) g h possible w m = record { region = m.region; asked = m.asked }
place_more c more r b mine up reach written (Place.Confirm round p) g h possible w m = (m.0, record { region = m.1.region; fresh = m.1.fresh })
place_more c more r b mine up reach written (Place.ReadMin p) g h possible w m = record { region = m.region; granted = m.granted; telling = telling_more c more r mine p m.telling }
place_more c more r b mine up reach written (Place.EnterMin p) g h possible w m = entering_more c more r b mine p m
place_more c more r b mine up reach written (Place.PutMin p) g h possible w m = record { entering = entering_more c more r b mine p m.entering; entered = m.entered; under = m.under }
place_more c more r b mine up reach written (Place.ReadFuo p source) g h possible w m = record { region = m.region; member = m.member; leads = leads_more c more r b mine m.leads; raised = m.raised; unput = m.unput; from = member_more c more r mine source m.from; few = m.few }
place_more c more r b mine up reach written (Place.Learn p) g h possible w m = record { region = m.region; member = m.member; leads = leads_more c more r b mine m.leads; raised = m.raised; unput = m.unput; lacks = rw (known_kept c more r mine) m.lacks; few = m.few }
place_more c more r b mine up reach written (Place.WidenBehind p t) g h possible w m = record { behind = behind_more c more r b mine up reach p t m.behind; lacks = rw (known_kept c more r mine) m.lacks }
place_more c more r b mine up reach written (Place.LookBehind p t) g h possible w m = near_more c more r b mine up reach p t m
place_more c more r b mine up reach written (Place.EnterBehind p t) g h possible w m = record { near = near_more c more r b mine up reach p t m.near; looked = m.looked }
place_more c more r b mine up reach written (Place.PutBehind p t) g h possible w m = record { near = near_more c more r b mine up reach p t m.near; entered = m.entered; under = m.under; looked = m.looked }
place_more c more r b mine up reach written (Place.RaiseBehind p t) g h possible w m = record { behind = behind_more c more r b mine up reach p t m.behind; done = rw (known_kept c more r mine) m.done }
place_more c more r b mine up reach written (Place.FenceBehind p t) g h possible w m = record { near = near_more c more r b mine up reach p t m.near; past = m.past }
place_more c more r b mine up reach written (Place.LateFence p) g h possible w m = late_more c more r b mine up reach p m
place_more c more r b mine up reach written (Place.LateMin p) g h possible w m = record { late = late_more c more r b mine up reach p m.late; granted = m.granted }
place_more c more r b mine up reach written (Place.LateFuo p) g h possible w m = late_fuo_more c more r b mine up reach p m
place_more c more r b mine up reach written (Place.LateEnter p) g h possible w m = late_enter_more c more r b mine up reach p m
place_more c more r b mine up reach written (Place.LatePut p) g h possible w m = record { entering = late_enter_more c more r b mine up reach p m.entering; entered = m.entered; under = m.under }
place_more c more r b mine up reach written (Place.ReadHead q o) g h possible w m =
    let s : AllStand c (known c r mine) = λ i v k. part_entries_stand_law c r i v mine possible k in
    record { region = m.region; unmarked = rw (known_kept c more r mine, marked_kept c more q (known c r mine)) m.unmarked; level = level_more c more r b mine up reach m.level; roomy = roomy_more c more r mine q o g h s m.roomy }
place_more c more r b mine up reach written (Place.Look p i o best) g h possible w m =
    let s : AllStand c (known c r mine) = λ i v k. part_entries_stand_law c r i v mine possible k in
    record { region = m.region; member = m.member; position = rw (known_kept c more r mine) m.position; looking = looking_more c more r b mine up reach p o best g h s m.looking }
place_more c more r b mine up reach written (Place.Write j last offer) g h possible w m =
    let s : AllStand c (known c r mine) = λ i v k. part_entries_stand_law c r i v mine possible k in
    (record { writing = writing_more c more r b mine up reach j last offer g h s m.0.writing; inside = m.0.inside }, m.1)
place_more c more r b mine up reach written (Place.Enter p offer) g h possible w m =
    let s : AllStand c (known c r mine) = λ i v k. part_entries_stand_law c r i v mine possible k in
    (enter_more c more r b offer.value mine up reach p g h possible s m.0, rw (known_kept c more r mine) (shows_more c more r mine (end_of c r mine) offer.adopted m.1))
place_more c more r b mine up reach written (Place.Put p offer) g h possible w m =
    let s : AllStand c (known c r mine) = λ i v k. part_entries_stand_law c r i v mine possible k in (
      record {
        entering = enter_more c more r b offer.value mine up reach p g h possible s m.0.entering;
        entered = rw (known_kept c more r mine) m.0.entered;
        under = m.0.under;
        looked_before = rw (known_kept c more r mine) m.0.looked_before;
      },
      rw (known_kept c more r mine) (shows_more c more r mine (end_of c r mine) offer.adopted m.1),
    )
place_more c more r b mine up reach written (Place.Raise p) g h possible w m = record { region = m.region; member = m.member; leads = leads_more c more r b mine m.leads; have = rw (known_kept c more r mine) m.have; raised = m.raised; read = m.read }
place_more c more r b mine up reach written (Place.Evidence p) g h possible w m = record { region = m.region; begun = m.begun; missed = m.missed }
place_more c more r b mine up reach written Place.Outrun g h possible w m = record { region = m.region; within = m.within; member = m.member; past = rw (known_kept c more r mine) m.past }
place_more c more r b mine up reach written Place.Rest g h possible w m = absurd w

grown_zero : (xs : List ℕ) (j : ℕ) → get_or (xs ++ 0 ∷ []) j 0 ≡ get_or xs j 0
grown_zero [] zero = refl
grown_zero [] (suc j) = refl
grown_zero (x ∷ xs) zero = refl
grown_zero (x ∷ xs) (suc j) = grown_zero xs j

never_below : (k : ℕ) → nat_lt k 0 ≡ false
never_below k = false_from_ne_true (nat_lt k 0) (λ h. let l = ltb-true k 0 h in absurd (omega (arith, l)))

brought_more : (c : Config) (more : List Row) (r : ℕ) (mine : List Event) (p u : ℕ) → Brought c r mine p u → Brought (with_more c more) r mine p u
brought_more c more r mine p u m = record { caught_up = λ j l. rw (known_kept c more r mine) (m.caught_up j l); filled = λ j l. filled_kept c more r p mine j ∙ m.filled j l }

-- the tables, with no word written of one row more
pub tables_more : (c : Config) (row : Row) (r : ℕ) (mine : List Event) (up : List ℕ) (reach : List (Option ℕ)) (heads written : List ℕ) → IsPossible c r mine → HoldsTables c r mine up reach heads written → HoldsTables (with_more c (row ∷ [])) r mine up reach heads (written ++ 0 ∷ [])
tables_more c row r mine up reach heads written possible m =
    let rows = length-append c.rows (row ∷ []) in
    let long = length-append written (0 ∷ []) in
    let were = m.rows in
    record {
      ups = m.ups;
      reaches = m.reaches;
      all_heads = m.all_heads;
      rows = omega (arith, rows, long, were);
      brought = λ p. brought_more c (row ∷ []) r mine p (get_or up p 0) (m.brought p);
      within = λ p. (let low = m.within p in omega (arith, low, rows));
      reached = m.reached;
      read = m.read;
      words = λ j k l w. elim (cases_lt j (row_count c)) [
        | inl low ↦ m.words j k low w ∙ ap (λ n. nat_lt k n) (sym (grown_zero written j))
        | inr high ↦ no_row_written c r j k mine possible (omega (arith, high)) ∙ sym (never_below k) ∙ ap (λ n. nat_lt k n) (sym (grown_zero written j ∙ get_or_past written j 0 (omega (arith, were, high))))
      ];
    }

-- a place that doesn't rest works
pub works_at : (place : Place) → rests place ≡ false → Works place
works_at Place.Rest h = true≢false h
works_at place h = tt

-- at rest a row more is gone on with, as after a commit
pub wakes : (c : Config) (row : Row) (r b : ℕ) (mine : List Event) (t : Tables) (place : Place) → IsConfig (with_more c (row ∷ [])) → r < c.replicas → IsPossible (with_more c (row ∷ [])) r mine → HoldsTables (with_more c (row ∷ [])) r mine t.up t.reach t.heads t.written → rests place ≡ true → (old : List ℕ) → At c r b mine t.up t.reach old place → At (with_more c (row ∷ [])) r b mine t.up t.reach t.written (late_from (with_more c (row ∷ [])) r mine t.heads 0)
wakes c row r b mine t Place.Rest g inside possible tables h old m =
    late_stands (with_more c (row ∷ [])) r b 0 mine t (record { is = g; inside = inside; possible = possible; tables = tables }) (level_more c (row ∷ []) r b mine t.up t.reach m.1)
wakes c row r b mine t place g inside possible tables h old m = absurd (true≢false (sym h))

-- a part stays possible
pub possible_more : (c : Config) (more : List Row) (r : ℕ) (mine : List Event) → IsConfig c → IsConfig (with_more c more) → IsPossible c r mine → IsPossible (with_more c more) r mine
possible_more c more r mine g h p = record { past = p.past; legal = legal_kept c more p.past g h p.legal; is = p.is }

-- what holds at a place that works doesn't look at what is written of a row more
pub place_grown : (c : Config) (row : Row) (r b : ℕ) (mine : List Event) (up : List ℕ) (reach : List (Option ℕ)) (written : List ℕ) (place : Place) → length written ≡ row_count c → At c r b mine up reach written place → At c r b mine up reach (written ++ 0 ∷ []) place
place_grown c row r b mine up reach written (Place.Write j last offer) long m =
    let within = m.0.writing.batch.row in
    let low : j < length written = not_beyond (m.1) in
    (record { writing = m.0.writing; inside = m.0.inside }, subst (λ n. n < 12) (sym (get_or_append_left written (0 ∷ []) 12 j low)) m.1)
  where
    not_beyond : get_or written j 12 < 12 → j < length written
    not_beyond l = elim (cases_lt j (length written)) [ inl low ↦ low | inr high ↦ absurd (let none = get_or_past written j 12 (omega (arith, high)) in omega (arith, none, l)) ]
place_grown c row r b mine up reach written place long m = m

pub places_stay_law : PlacesStay
places_stay_law c more r b mine up reach written place g h possible w m = place_more c more r b mine up reach written place g h possible w m

-- which word of a row is next is the same
pub next_word_grown : (written : List ℕ) (j : ℕ) → get_or written j 12 < 12 → (j < length written) × (get_or (written ++ 0 ∷ []) j 12 ≡ get_or written j 12)
next_word_grown written j l = elim (cases_lt j (length written)) [ inl low ↦ (low, get_or_append_left written (0 ∷ []) 12 j low) | inr high ↦ absurd (let none = get_or_past written j 12 (omega (arith, high)) in omega (arith, none, l)) ]

-- so the verb that writes it is
pub write_grown : (c : Config) (row : Row) (written : List ℕ) (j : ℕ) → length written ≡ row_count c → get_or written j 12 < 12
    → Verb.WriteRow j (get_or (written ++ 0 ∷ []) j 12) (config_word (with_more c (row ∷ [])) j (get_or (written ++ 0 ∷ []) j 12)) ≡ Verb.WriteRow j (get_or written j 12) (config_word c j (get_or written j 12))
write_grown c row written j long l =
    let next = next_word_grown written j l in
    let low = next.0 in
    ap (λ k. Verb.WriteRow j k (config_word (with_more c (row ∷ [])) j k)) next.1
    ∙ ap (Verb.WriteRow j (get_or written j 12)) (word_kept c (row ∷ []) j (get_or written j 12) (omega (arith, low, long)))

-- and the verb of a place
pub verb_grown : (c : Config) (row : Row) (r b : ℕ) (mine : List Event) (values up : List ℕ) (reach : List (Option ℕ)) (written : List ℕ) (place : Place) → length written ≡ row_count c → At c r b mine up reach written place
    → verb_at (with_more c (row ∷ [])) b values up (written ++ 0 ∷ []) place ≡ verb_at c b values up written place
verb_grown c row r b mine values up reach written (Place.Write j last offer) long m = ap Some (write_grown c row written j long m.1)
verb_grown c row r b mine values up reach written place long m = refl

-- the places at which a leader goes on after a commit
abbrev goes_on : Place → Bool
goes_on (Place.LateFence p) = true
goes_on (Place.ReadHead q o) = true
goes_on (Place.Look p i o best) = true
goes_on Place.Rest = true
goes_on place = false

either_on : (o : Option ℕ) (there : ℕ → Place) (other : Place) → ((q : ℕ) → goes_on (there q) ≡ true) → goes_on other ≡ true → goes_on (or_else o there other) ≡ true
either_on None there other at on = on
either_on (Some q) there other at on = at q

choice_on : (t : Bool) (first second : Place) → goes_on first ≡ true → goes_on second ≡ true → goes_on (if t then first else second) ≡ true
choice_on true first second on other = on
choice_on false first second on other = other

late_on : (c : Config) (r : ℕ) (now : List Event) (heads : List ℕ) (p : ℕ) → goes_on (late_from c r now heads p) ≡ true
late_on c r now heads p =
    let looks = either_on (low_from c r now heads 0) (λ k. Place.ReadHead k None) (Place.Look (first_member c r now) (end_of c r now) None None) (λ k. refl) refl in
    let next = choice_on (holds_all c (known c r now)) (or_else (stranger_from c r now 0) Place.LateFence Place.Rest) (if nat_lt (end_of c r now) (row_count c + reserve c) then heads_from c r now heads 0 None else Place.Rest)
    (either_on (stranger_from c r now 0) Place.LateFence Place.Rest (λ q. refl) refl)
    (choice_on (nat_lt (end_of c r now) (row_count c + reserve c)) (heads_from c r now heads 0 None) Place.Rest looks refl) in
    either_on (stranger_from c r now p) Place.LateFence (next_position c r now heads) (λ q. refl) next

on_leads : (place : Place) → goes_on place ≡ true → leads_at place ≡ true
on_leads (Place.Ask p) on = absurd (true≢false (sym on))
on_leads (Place.Confirm round p) on = absurd (true≢false (sym on))
on_leads (Place.Evidence p) on = absurd (true≢false (sym on))
on_leads place on = refl

-- there it leads, and writes no row
pub late_leads : (c : Config) (r : ℕ) (now : List Event) (heads : List ℕ) (p : ℕ) → leads_at (late_from c r now heads p) ≡ true
late_leads c r now heads p = on_leads (late_from c r now heads p) (late_on c r now heads p)

pub late_writes_none : (c : Config) (r : ℕ) (now : List Event) (heads : List ℕ) (p u last : ℕ) (offer : Offer) → late_from c r now heads p ≡ Place.Write u last offer → ⊥
late_writes_none c r now heads p u last offer same = true≢false (sym (late_on c r now heads p) ∙ ap goes_on same)
