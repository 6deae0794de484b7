-- What stands wherever the listing goes on: to late followers, to the next position, to the members that are behind, and to the value.
use Rattle.mu_knowledge.proofs.Firsts.{first_in_is}
use Rattle.mu_knowledge.specs.Offers.{IsFirst, first_in}
use Rattle.mu_lead.proofs.Bringing.{first_behind, none_behind}
use Rattle.mu_lead.proofs.Copying.{clear_all}
use Rattle.mu_lead.proofs.Looks.{enters_new, may_adopt, may_mark_it, may_offer_own}
use Rattle.mu_lead.proofs.NextRows.{offered_none, offered_row}
use Rattle.mu_lead.proofs.Offers.{own_batch, written_to, wrote_all}
use Rattle.mu_lead.proofs.Rests.{no_end, rests, some_next}
use Rattle.mu_lead.proofs.Rooms.{looks_first, reads_head, roomy_first}
use Rattle.mu_lead.proofs.Sights.{looks_empty, looks_shown}
use Rattle.mu_lead.proofs.Tables.{tables_kept}
use Rattle.mu_lead.specs.Leading.{AtWiden, HasPutNone, HaveAtMost, HaveFew, HoldsTables, IsClear, IsDone, IsMember, Leads, Level, RaisedBelow, end_of}
use Rattle.mu_lead.specs.Listing.{Tables, after_members, behind_from, bring_up, bring_up_from, first_member, heads_from, late_from, learn_from, low_from, member_from, next_position, offer_row, or_else, or_own, own_offer, pick, stranger_from, write_from}
use Rattle.mu_lead.specs.Offering.{Looking, LooksShow, MayOffer, Roomy, Writing}
use Rattle.mu_lead.specs.Standing.{At}
use Rattle.mu_lead.specs.declared.place.Offer.{Offer}
use Rattle.mu_lead.specs.declared.place.Place.{Place}
use Rattle.mu_lead.specs.declared.place.Sight.{Sight}
use Rattle.mu_lead.specs.declared.place.Then.{Then}
use Rattle.mu_model.specs.Contents.{rest_of, IsConfig, holds_all, is_batch, marked, row_count}
use Rattle.mu_model.specs.Histories.{count_below}
use Rattle.mu_model.specs.Knowledge.{known}
use Rattle.mu_model.specs.Leaderships.{begins_leadership, is_member, majority_of}
use Rattle.mu_model.specs.Parts.{IsPossible}
use Rattle.mu_model.specs.Placing.{is_within_ring}
use Rattle.mu_model.specs.Room.{reserve}
use Rattle.mu_model.specs.declared.config.Config.{Config}
use Rattle.mu_model.specs.declared.event.Event.{Event}
use Rattle.std.proofs.Common.{Bool, List, None, Some, ap, arith, false, get_or, inl, refl, subst, sym, true, true≢false, ℕ, ◌&&◌, ◌*◌, ◌+◌, ◌<◌, ◌==◌, ◌||◌, ◌∙◌, ◌∷◌, ◌≡◌, ◌≢◌, ◌≤◌}
use Rattle.std.proofs.lemmas.Bool.{and_parts, ltb-false, ltb-true, not-true}
use Rattle.std.specs.Prelude.{if◌then◌else◌, nat_le, nat_lt, not}
use Rattle.std.specs.declared.option.Option.{Option}
use Rattle.mu_lead.specs.Beside.{writes_row}

-- what a leader has after its events, with these tables
pub record Ready (c : Config) (r : ℕ) (now : List Event) (t : Tables) : Type 0 where
  pub is : IsConfig c
  pub inside : r < c.replicas
  pub possible : IsPossible c r now
  pub tables : HoldsTables c r now t.up t.reach t.heads t.written

-- what stands at a place
abbrev pub StandsAt : Config → ℕ → ℕ → List Event → Tables → Place → Type 0
StandsAt c r b now t place = At c r b now t.up t.reach t.written place

-- what stands after a step: the tables hold, and what holds at the place
pub record Stood (c : Config) (r b : ℕ) (now : List Event) (t : Tables) (place : Place) : Type 0 where
  pub tables : HoldsTables c r now t.up t.reach t.heads t.written
  pub at : StandsAt c r b now t place

-- what stands before a step
pub record Stand (c : Config) (r : ℕ) (mine : List Event) (t : Tables) : Type 0 where
  pub is : IsConfig c
  pub inside : r < c.replicas
  pub tables : HoldsTables c r mine t.up t.reach t.heads t.written

pub ready : (c : Config) (r : ℕ) (mine now : List Event) (old t : Tables) → Stand c r mine old → IsPossible c r now → HoldsTables c r now t.up t.reach t.heads t.written → Ready c r now t
ready c r mine now old t s possible h = record { is = s.is; inside = s.inside; possible = possible; tables = h }

-- a step that writes no table
pub keeps : (c : Config) (r : ℕ) (e : Event) (mine : List Event) (t : Tables) → Stand c r mine t → IsPossible c r (e ∷ mine) → begins_leadership r e ≡ false → writes_row e.verb ≡ false → HoldsTables c r (e ∷ mine) t.up t.reach t.heads t.written
keeps c r e mine t s possible goes_on none = tables_kept c r e mine t.up t.reach t.heads t.written possible goes_on none s.tables

-- r is a member in its leadership
pub own_member : (c : Config) (r b : ℕ) (now : List Event) → Leads c r b now → is_member r r now ≡ true
own_member c r b now leads = (and_parts (is_member r r now) (nat_le (majority_of c.replicas) (count_below c.replicas (λ p. is_member r p now))) leads.carried).0

pub first_is : (c : Config) (r k : ℕ) (now : List Event) → k < c.replicas → is_member r k now ≡ true → IsFirst (λ p. is_member r p now) 0 c.replicas (Some (first_member c r now))
first_is c r k now inside member = go (member_from c r now 0) (first_in_is (λ p. is_member r p now) 0 c.replicas)
  where
    go : (o : Option ℕ) → IsFirst (λ p. is_member r p now) 0 c.replicas o → IsFirst (λ p. is_member r p now) 0 c.replicas (Some (or_own r o))
    go (Some q) first = first
    go None none = absurd (true≢false (sym member ∙ none k (omega arith) inside))

-- the regions are asked anew
pub asks_anew : (c : Config) (r b : ℕ) (now : List Event) (t : Tables) → r < c.replicas → StandsAt c r b now t (Place.Ask 0)
asks_anew c r b now t inside = record { region = omega (arith, inside); asked = inl refl }

-- heads are read, or the position is looked at
pub heads_stand : (c : Config) (r b q : ℕ) (now : List Event) (t : Tables) (candidate : Option ℕ) → Ready c r now t → Level c r b now t.up t.reach → Roomy c r now q candidate → StandsAt c r b now t (heads_from c r now t.heads q candidate)
heads_stand c r b q now t candidate x level roomy = go (low_from c r now t.heads q) (first_in_is (λ k. not (marked c k (known c r now) || nat_lt (end_of c r now + reserve c) (get_or t.heads k 0 + c.ring))) q c.replicas)
  where
    go : (o : Option ℕ) → IsFirst (λ k. not (marked c k (known c r now) || nat_lt (end_of c r now + reserve c) (get_or t.heads k 0 + c.ring))) q c.replicas o
        → StandsAt c r b now t (or_else o (λ k. Place.ReadHead k candidate) (Place.Look (first_member c r now) (end_of c r now) candidate None))
    go (Some p) first = reads_head c r b q p now t.up t.reach t.heads candidate x.tables.read level roomy first
    go None none = looks_first c r b q (first_member c r now) (end_of c r now) now t.up t.reach t.heads candidate x.tables.read level roomy none (first_is c r r now x.inside (own_member c r b now level.leads)) refl

-- the next position, or a late follower, or rest
pub position_stands : (c : Config) (r b : ℕ) (now : List Event) (t : Tables) → Ready c r now t → Level c r b now t.up t.reach → StandsAt c r b now t (next_position c r now t.heads)
position_stands c r b now t x level = go (holds_all c (known c r now)) refl
  where
    stranger : holds_all c (known c r now) ≡ true → (o : Option ℕ) → IsFirst (λ k. not (is_member r k now)) 0 c.replicas o → StandsAt c r b now t (or_else o Place.LateFence Place.Rest)
    stranger all (Some q) first = record { region = first.1; stranger = not-true _ first.2; level = level }
    stranger all None none = (rests c r now all none, level)

    within : holds_all c (known c r now) ≡ false → (y : Bool) → nat_lt (end_of c r now) (row_count c + reserve c) ≡ y → StandsAt c r b now t (if y then heads_from c r now t.heads 0 None else Place.Rest)
    within lacks true low = heads_stand c r b 0 now t None x level (roomy_first c r now (ltb-true (end_of c r now) (row_count c + reserve c) low) lacks)
    within lacks false high = absurd (no_end c r now x.is x.possible lacks (ltb-false (end_of c r now) (row_count c + reserve c) high))

    go : (y : Bool) → holds_all c (known c r now) ≡ y → StandsAt c r b now t (if y then or_else (stranger_from c r now 0) Place.LateFence Place.Rest else (if nat_lt (end_of c r now) (row_count c + reserve c) then heads_from c r now t.heads 0 None else Place.Rest))
    go true all = stranger all (stranger_from c r now 0) (first_in_is (λ k. not (is_member r k now)) 0 c.replicas)
    go false lacks = within lacks (nat_lt (end_of c r now) (row_count c + reserve c)) refl

-- the next late follower
pub late_stands : (c : Config) (r b p : ℕ) (now : List Event) (t : Tables) → Ready c r now t → Level c r b now t.up t.reach → StandsAt c r b now t (late_from c r now t.heads p)
late_stands c r b p now t x level = go (stranger_from c r now p) (first_in_is (λ k. not (is_member r k now)) p c.replicas)
  where
    go : (o : Option ℕ) → IsFirst (λ k. not (is_member r k now)) p c.replicas o → StandsAt c r b now t (or_else o Place.LateFence (next_position c r now t.heads))
    go (Some q) first = record { region = first.1; stranger = not-true _ first.2; level = level }
    go None none = position_stands c r b now t x level

-- a region is brought up
pub bring_stands : (c : Config) (r b p : ℕ) (now : List Event) (t : Tables) (on : Then) → AtWiden c r b now t.up t.reach p on → StandsAt c r b now t (bring_up c t.up t.reach p on)
bring_stands c r b p now t on at = go (c.version == 2) (is_within_ring (get_or t.up p 0) c.ring (get_or t.reach p None)) refl refl
  where
    go : (v y : Bool) → (c.version == 2) ≡ v → is_within_ring (get_or t.up p 0) c.ring (get_or t.reach p None) ≡ y → StandsAt c r b now t (if v && not y then Place.WidenBehind p on else Place.LookBehind p on)
    go true true second near = record { behind = at.behind; lacks = at.lacks; near = λ is. near }
    go true false second far = at
    go false y first within = record { behind = at.behind; lacks = at.lacks; near = λ is. absurd (true≢false (sym (ap (λ n. n == 2) is) ∙ first)) }

-- the members that are behind
pub brought_stand : (c : Config) (r b p : ℕ) (now : List Event) (t : Tables) (on : Then) → Ready c r now t → Leads c r b now → RaisedBelow r now t.up t.reach c.replicas → IsClear r now t.up
    → ((k : ℕ) → k < c.replicas → is_member r k now ≡ true → IsDone on k p → end_of c r now ≤ get_or t.up k 0) → HaveFew c r now t.up on p → on ≢ Then.Joined → StandsAt c r b now t (bring_up_from c r now t p on)
brought_stand c r b p now t on x leads raised clear done few other = go (behind_from c r now t.up p) (first_in_is (λ k. is_member r k now && nat_lt (get_or t.up k 0) (end_of c r now)) p c.replicas)
  where
    members : (way : Then) → Level c r b now t.up t.reach → StandsAt c r b now t (after_members c r now t.heads way)
    members Then.Late level = late_stands c r b 0 now t x level
    members Then.Position level = position_stands c r b now t x level
    members Then.Joined level = position_stands c r b now t x level

    go : (o : Option ℕ) → IsFirst (λ k. is_member r k now && nat_lt (get_or t.up k 0) (end_of c r now)) p c.replicas o → StandsAt c r b now t (or_else o (λ q. bring_up c t.up t.reach q on) (after_members c r now t.heads on))
    go (Some q) first = bring_stands c r b q now t on (first_behind c r b p q now t.up t.reach on leads raised clear done few other first)
    go None none = members on (none_behind c r b p now t.up t.reach on leads raised done few none)

-- what is known elsewhere
pub learn_stands : (c : Config) (r b source : ℕ) (now : List Event) (t : Tables) → Ready c r now t → Leads c r b now → RaisedBelow r now t.up t.reach c.replicas → HasPutNone r now → IsMember c r now (Some source) → HaveAtMost c r now t.up (get_or t.up source 0)
    → StandsAt c r b now t (learn_from c r now t source)
learn_stands c r b source now t x leads raised unput from few = go (nat_lt (end_of c r now) (get_or t.up source 0)) refl
  where
    go : (y : Bool) → nat_lt (end_of c r now) (get_or t.up source 0) ≡ y → StandsAt c r b now t (if y then Place.Learn source else bring_up_from c r now t 0 Then.Late)
    go true more = record { region = from.0; member = from.1; leads = leads; raised = raised; unput = unput; lacks = ltb-true (end_of c r now) (get_or t.up source 0) more; few = few }
    go false less = brought_stand c r b 0 now t Then.Late x leads raised (clear_all r now t.up unput) (λ k region member done. absurd (omega (arith, done)))
        (λ k region member. (let low = few k region member in let all = ltb-false (end_of c r now) (get_or t.up source 0) less in (omega (arith, low, all), λ left. absurd left))) (λ is. cc)

-- the value is put at the first member
pub entering_stands : (c : Config) (r b : ℕ) (now : List Event) (t : Tables) (offer : Offer) (candidate : Option ℕ) (best : Option Sight) → r < c.replicas → Looking c r b now t.up t.reach c.replicas candidate best → MayOffer c r now candidate offer.value → LooksShow c r now (end_of c r now) offer.adopted
    → StandsAt c r b now t (Place.Enter (first_member c r now) offer)
entering_stands c r b now t offer candidate best inside looking may shows = (enters_new c r b offer.value (first_member c r now) now t.up t.reach candidate best looking may (first_is c r r now inside (own_member c r b now looking.level.leads)), shows)

-- the rows are written, and then it is
pub write_stands : (c : Config) (r b first last : ℕ) (now : List Event) (t : Tables) (offer : Offer) → Ready c r now t → Writing c r b now t.up t.reach first last offer → StandsAt c r b now t (write_from c r now t.written first last offer)
write_stands c r b first last now t offer x w = go (first_in (λ j. nat_lt (get_or t.written j 12) 12) first (last + 1)) (first_in_is (λ j. nat_lt (get_or t.written j 12) 12) first (last + 1))
  where
    go : (o : Option ℕ) → IsFirst (λ j. nat_lt (get_or t.written j 12) 12) first (last + 1) o → StandsAt c r b now t (or_else o (λ j. Place.Write j last offer) (Place.Enter (first_member c r now) offer))
    go (Some j) found =
        let high = found.1 in (
          record {
            writing = written_to c r b first j last offer now t.up t.reach t.written x.is x.tables.rows x.tables.words w found.0 (omega (arith, high)) found.3;
            inside = omega (arith, high);
          },
          ltb-true (get_or t.written j 12) 12 found.2,
        )
    go None none =
        let done = written_to c r b first (last + 1) last offer now t.up t.reach t.written x.is x.tables.rows x.tables.words w w.to (omega arith) none in
        entering_stands c r b now t offer None None x.inside done.looking
        (may_offer_own c r b done.first offer.value now t.up t.reach x.is x.inside done.looking done.value (subst (λ v. is_batch c v ≡ true) (sym done.value) done.batch.batch) done.batch.row (wrote_all c r b (last + 1) last offer now t.up t.reach done refl) done.batch.next)
        (subst (LooksShow c r now (end_of c r now)) (sym done.own) (looks_empty c r b now t.up t.reach None done.looking))

-- the value is picked
pub pick_stands : (c : Config) (r b : ℕ) (now : List Event) (t : Tables) (candidate : Option ℕ) (best : Option Sight) → Ready c r now t → Looking c r b now t.up t.reach c.replicas candidate best → StandsAt c r b now t (pick c r now t.written candidate best)
pick_stands c r b now t candidate (Some s) x looking = entering_stands c r b now t (record { value = s.value; adopted = true }) candidate (Some s) x.inside looking (may_adopt c r b 0 s now t.up t.reach candidate looking) (looks_shown c r b now t.up t.reach candidate s looking)
pick_stands c r b now t (Some q) None x looking = entering_stands c r b now t (record { value = r * 4096 + (4080 + q); adopted = false }) (Some q) None x.inside looking (may_mark_it c r b q (r * 4096 + (4080 + q)) now t.up t.reach x.is x.inside looking refl) (looks_empty c r b now t.up t.reach (Some q) looking)
pick_stands c r b now t None None x looking = go (own_offer c r (known c r now) (end_of c r now)) refl
  where
    go : (o : Option ℕ) → own_offer c r (known c r now) (end_of c r now) ≡ o → StandsAt c r b now t (or_else o (offer_row c r now t.written) Place.Rest)
    go (Some j) offered =
        let row = offered_row c r (end_of c r now) j (known c r now) offered in
        write_stands c r b j (j + rest_of c j) now t (record { value = r * 4096 + j; adopted = false }) x
        (record { looking = looking; first = j; value = refl; own = refl; batch = own_batch c r j (r * 4096 + j) now x.is x.inside refl row; last_row = refl; from = omega arith; to = omega arith; below = λ k more less. absurd (omega (arith, more, less)) })
    go None none = absurd (some_next c r now x.is x.possible looking.roomy.lacks (offered_none c r (end_of c r now) (known c r now) none))
