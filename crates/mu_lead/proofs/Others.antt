-- What other machines of the replica do keeps what its leader stands for.
use Rattle.std.proofs.Common.{Bool, List, None, Some, ap, eq-eqb, false, inl, inr, is_some, refl, sym, true, true≢false, ℕ, ◌&&◌, ◌+◌, ◌-◌, ◌/◌, ◌%◌, ◌==◌, ◌||◌, ◌∙◌, ◌∷◌, ◌≡◌, ◌≢◌}
use Rattle.std.specs.Prelude.{not}
use Rattle.std.specs.declared.option.Option.{Option}
use Rattle.std.proofs.lemmas.Bool.{and_from, and_parts}
use Rattle.mu_model.specs.declared.config.Config.{Config}
use Rattle.mu_model.specs.declared.event.Answer.{Answer}
use Rattle.mu_model.specs.declared.event.Event.{Event}
use Rattle.mu_model.specs.declared.event.Verb.{Verb}
use Rattle.mu_model.specs.Points.{AreMet, last_ask, new_values}
use Rattle.mu_model.specs.Contents.{client_of, command_count, is_batch, is_mark, marked, number_of}
use Rattle.mu_model.specs.Histories.{all_below, newest, event_by}
use Rattle.mu_model.specs.Knowledge.{known, wrote_batch}
use Rattle.mu_model.specs.Leaderships.{begins_leadership, is_member, proposal_number}
use Rattle.mu_model.specs.Parts.{IsPossible}
use Rattle.mu_model.specs.Picks.{first_value, highest_accepted, is_mark_offer, is_offer, last_look, may_pick_at, may_propose, pick}
use Rattle.mu_model.specs.Room.{head_read, is_mark_candidate, lacks_room, reserve}
use Rattle.mu_model.specs.Scores.{is_failed}
use Rattle.mu_model.proofs.Basics.{or_true, true_or}
use Rattle.mu_agree.proofs.Sound.{wrote_more}
use Rattle.mu_lead.proofs.Offers.{more_all}
use Rattle.mu_model.proofs.Scans.{all_at, each_all}
use Rattle.mu_lead.specs.declared.place.Place.{Place}
use Rattle.mu_lead.specs.declared.lead.Lead.{Lead}
use Rattle.mu_lead.specs.Beside.{OthersKeep, is_beside, leads_at, leaves_leader, writes_row}
use Rattle.mu_lead.specs.Confirming.{AtEvidence, Fresh}
use Rattle.mu_lead.specs.Leading.{end_of}
use Rattle.mu_lead.specs.Offering.{leaves_room}
use Rattle.mu_lead.specs.Standing.{At, StandsFor}
use Rattle.mu_lead.proofs.Calm.{number_calm, room_more, roomy_more}
use Rattle.mu_lead.proofs.FuosBeside.{at_fuo}
use Rattle.mu_lead.proofs.LooksBeside.{at_looked}
use Rattle.mu_lead.specs.Stepping.{is_calm}
use Rattle.mu_lead.proofs.Keeping.{leading_calm, leads_kept, source_calm, most_on}
use Rattle.mu_lead.proofs.Looks.{head_event}
use Rattle.mu_lead.proofs.Sights.{keeps_looks, shows_kept}
use Rattle.mu_lead.proofs.Tables.{tables_kept}
use Rattle.mu_model.proofs.Putting.{new_met}

-- a mark that may be offered still may
not_all : (n : ℕ) (f g : ℕ → Bool) → ((q : ℕ) → g q ≡ true → f q ≡ true) → not (all_below n f) ≡ true → not (all_below n g) ≡ true
not_all n f g less is = go (all_below n g) refl
  where
    go : (t : Bool) → all_below n g ≡ t → not t ≡ true
    go true all = absurd (true≢false (sym is ∙ ap not (each_all n f (λ q low. less q (all_at n g all q low)))))
    go false all = refl

mark_less : (a b d x y : Bool) → (y ≡ true → x ≡ true) → not (a && (b && (d && x))) ≡ true → not (a && (b && (d && y))) ≡ true
mark_less true true true true y up is = absurd (true≢false (sym is))
mark_less true true true false true up is = absurd (true≢false (sym (up refl)))
mark_less true true true false false up is = refl
mark_less true true false x y up is = refl
mark_less true false d x y up is = refl
mark_less false b d x y up is = refl

picked_head : (c : Config) (r q h v : ℕ) (mine : List Event) (o : Option (ℕ × ℕ)) → pick c r mine v o ≡ true → pick c r (head_event r q h ∷ mine) v o ≡ true
picked_head c r q h v mine (Some entry) is = is
picked_head c r q h v mine None is = go (is_offer c r mine v) is
  where
    marked_more : is_mark_offer c r mine v ≡ true → is_mark_offer c r (head_event r q h ∷ mine) v ≡ true
    marked_more is =
        let parts = and_parts (v / 4096 == r) (not (all_below c.replicas (λ k. not (is_mark c k v && (not (k == r) && (not (marked c k (known c r mine)) && is_mark_candidate c r k (end_of c r mine + reserve c) mine)))))) is in
        and_from (v / 4096 == r) (not (all_below c.replicas (λ k. not (is_mark c k v && (not (k == r) && (not (marked c k (known c r mine)) && is_mark_candidate c r k (end_of c r mine + reserve c) (head_event r q h ∷ mine))))))) parts.0
        (not_all c.replicas (λ k. not (is_mark c k v && (not (k == r) && (not (marked c k (known c r mine)) && is_mark_candidate c r k (end_of c r mine + reserve c) mine)))) (λ k. not (is_mark c k v && (not (k == r) && (not (marked c k (known c r mine)) && is_mark_candidate c r k (end_of c r mine + reserve c) (head_event r q h ∷ mine)))))
        (λ k none. mark_less (is_mark c k v) (not (k == r)) (not (marked c k (known c r mine))) (is_mark_candidate c r k (end_of c r mine + reserve c) (head_event r q h ∷ mine)) (is_mark_candidate c r k (end_of c r mine + reserve c) mine)
        (λ old. or_true (lacks_room c (end_of c r mine + reserve c) (head_read r k r (Verb.Head q) (Answer.Number h)) && is_failed r k (head_event r q h ∷ mine)) (is_mark_candidate c r k (end_of c r mine + reserve c) mine) old) none) parts.1)

    go : (t : Bool) → (t || is_mark_offer c r mine v) ≡ true → (t || is_mark_offer c r (head_event r q h ∷ mine) v) ≡ true
    go true is = refl
    go false is = marked_more is

proposed_head : (c : Config) (r q h i v : ℕ) (mine : List Event) (o : Option ℕ) → may_propose c r mine i v o ≡ true → may_propose c r (head_event r q h ∷ mine) i v o ≡ true
proposed_head c r q h i v mine (Some first) is = is
proposed_head c r q h i v mine None is =
    let parts = and_parts (all_below c.replicas (λ p. not (is_member r p mine) || is_some (last_look r p i mine))) (may_pick_at c r mine i v) is in
    and_from (all_below c.replicas (λ p. not (is_member r p mine) || is_some (last_look r p i mine))) (may_pick_at c r (head_event r q h ∷ mine) i v) parts.0 (picked_head c r q h v mine (highest_accepted r i mine c.replicas) parts.1)

-- a new value may be put after a head that was read in between
new_head : (c : Config) (r q h i v : ℕ) (mine : List Event) → IsPossible c r (head_event r q h ∷ mine) → AreMet c r mine (new_values c r mine i v) → AreMet c r (head_event r q h ∷ mine) (new_values c r (head_event r q h ∷ mine) i v)
new_head c r q h i v mine possible met =
    let n = (new_met c r mine i v).0 met in
    (new_met c r (head_event r q h ∷ mine) i v).1 record {
      next = n.next;
      room = each_all c.replicas (leaves_room c r (head_event r q h ∷ mine) i 0) (λ k low. room_more c r i 0 k (head_event r q h) mine possible refl (all_at c.replicas (leaves_room c r mine i 0) n.room k low));
      reserve_kept = λ fresh. each_all c.replicas (leaves_room c r (head_event r q h ∷ mine) i (reserve c)) (λ k low. room_more c r i (reserve c) k (head_event r q h) mine possible refl (all_at c.replicas (leaves_room c r mine i (reserve c)) (n.reserve_kept fresh) k low));
      none_past = n.none_past;
      value = proposed_head c r q h i v mine (first_value r i mine) n.value;
    }

fresh_beside : (c : Config) (r : ℕ) (verb : Verb) (answer : Answer) (mine : List Event) → is_beside false verb ≡ true → Fresh r mine → Fresh r (event_by r verb answer ∷ mine)
fresh_beside c r (Verb.Ask q) answer mine beside h = absurd (true≢false (sym beside))
fresh_beside c r (Verb.Fence q) answer mine beside h = absurd (true≢false (sym beside))
fresh_beside c r (Verb.Min q) answer mine beside h = absurd (true≢false (sym beside))
fresh_beside c r (Verb.Enter q t) answer mine beside h = absurd (true≢false (sym beside))
fresh_beside c r (Verb.PutMin q n) answer mine beside h = absurd (true≢false (sym beside))
fresh_beside c r (Verb.PutSlot q i n v) answer mine beside h = absurd (true≢false (sym beside))
fresh_beside c r (Verb.WriteRow j k x) answer mine beside h = absurd (true≢false (sym beside))
fresh_beside c r verb answer mine beside h = record { begun = h.begun; goes_on = h.goes_on; unnumbered = h.unnumbered; alone = h.alone; unput = h.unput }

begun_beside : (c : Config) (r : ℕ) (verb : Verb) (answer : Answer) (mine : List Event) (p : ℕ) → is_beside false verb ≡ true → AtEvidence c r mine p → AtEvidence c r (event_by r verb answer ∷ mine) p
begun_beside c r (Verb.Ask q) answer mine p beside h = absurd (true≢false (sym beside))
begun_beside c r (Verb.Fence q) answer mine p beside h = absurd (true≢false (sym beside))
begun_beside c r (Verb.Min q) answer mine p beside h = absurd (true≢false (sym beside))
begun_beside c r (Verb.Enter q t) answer mine p beside h = absurd (true≢false (sym beside))
begun_beside c r (Verb.PutMin q n) answer mine p beside h = absurd (true≢false (sym beside))
begun_beside c r (Verb.PutSlot q i n v) answer mine p beside h = absurd (true≢false (sym beside))
begun_beside c r (Verb.WriteRow j k x) answer mine p beside h = absurd (true≢false (sym beside))
begun_beside c r verb answer mine p beside h =
    let m = h.missed in
    record {
      region = h.region;
      begun = h.begun;
      missed = record { since = event_by r verb answer ∷ m.since; put = m.put; before = m.before; is = ap (λ past. event_by r verb answer ∷ past) m.is; missed = m.missed; under = m.under };
    }

asked_beside : (c : Config) (r : ℕ) (verb : Verb) (answer : Answer) (mine : List Event) (p : ℕ) → is_beside false verb ≡ true → (newest (λ e. last_ask r e.by e.verb) mine ≡ Some p) → (newest (λ e. last_ask r e.by e.verb) (event_by r verb answer ∷ mine) ≡ Some p)
asked_beside c r (Verb.Ask q) answer mine p beside h = absurd (true≢false (sym beside))
asked_beside c r (Verb.Fence q) answer mine p beside h = absurd (true≢false (sym beside))
asked_beside c r (Verb.Min q) answer mine p beside h = absurd (true≢false (sym beside))
asked_beside c r (Verb.Enter q t) answer mine p beside h = absurd (true≢false (sym beside))
asked_beside c r (Verb.PutMin q n) answer mine p beside h = absurd (true≢false (sym beside))
asked_beside c r (Verb.PutSlot q i n v) answer mine p beside h = absurd (true≢false (sym beside))
asked_beside c r (Verb.WriteRow j k x) answer mine p beside h = absurd (true≢false (sym beside))
asked_beside c r verb answer mine p beside h = h

-- and after a word of a row that was written in between
offer_row_more : (c : Config) (r v : ℕ) (e : Event) (mine : List Event) → known c r (e ∷ mine) ≡ known c r mine → is_offer c r mine v ≡ true → is_offer c r (e ∷ mine) v ≡ true
offer_row_more c r v e mine same is =
    let a = and_parts (is_batch c v) ((v / 4096 == r) && (wrote_batch c r (v % 4096) mine && (number_of c (v % 4096) == command_count c (client_of c (v % 4096)) (known c r mine) + 1))) is in
    let b = and_parts (v / 4096 == r) (wrote_batch c r (v % 4096) mine && (number_of c (v % 4096) == command_count c (client_of c (v % 4096)) (known c r mine) + 1)) a.1 in
    let d = and_parts (wrote_batch c r (v % 4096) mine) (number_of c (v % 4096) == command_count c (client_of c (v % 4096)) (known c r mine) + 1) b.1 in
    rw (a.0, b.0, wrote_more c r (v % 4096) e mine d.0) (ap (λ values. number_of c (v % 4096) == command_count c (client_of c (v % 4096)) values + 1) same ∙ d.1)

picked_row : (c : Config) (r v j k x : ℕ) (answer : Answer) (mine : List Event) (o : Option (ℕ × ℕ)) → pick c r mine v o ≡ true → pick c r (event_by r (Verb.WriteRow j k x) answer ∷ mine) v o ≡ true
picked_row c r v j k x answer mine (Some entry) is = is
picked_row c r v j k x answer mine None is = go (is_offer c r mine v) refl (is_mark_offer c r mine v) refl is
  where
    now : List Event
    now = event_by r (Verb.WriteRow j k x) answer ∷ mine

    go : (s : Bool) → is_offer c r mine v ≡ s → (t : Bool) → is_mark_offer c r mine v ≡ t → (s || t) ≡ true → (is_offer c r now v || is_mark_offer c r now v) ≡ true
    go true offered t marked is = true_or (is_offer c r now v) (is_mark_offer c r now v) (offer_row_more c r v (event_by r (Verb.WriteRow j k x) answer) mine refl offered)
    go false offered true marked is = or_true (is_offer c r now v) (is_mark_offer c r now v) marked
    go false offered false marked is = absurd (true≢false (sym is))

proposed_row : (c : Config) (r i v j k x : ℕ) (answer : Answer) (mine : List Event) (o : Option ℕ) → may_propose c r mine i v o ≡ true → may_propose c r (event_by r (Verb.WriteRow j k x) answer ∷ mine) i v o ≡ true
proposed_row c r i v j k x answer mine (Some first) is = is
proposed_row c r i v j k x answer mine None is =
    let parts = and_parts (all_below c.replicas (λ p. not (is_member r p mine) || is_some (last_look r p i mine))) (may_pick_at c r mine i v) is in
    and_from (all_below c.replicas (λ p. not (is_member r p mine) || is_some (last_look r p i mine))) (may_pick_at c r (event_by r (Verb.WriteRow j k x) answer ∷ mine) i v) parts.0 (picked_row c r v j k x answer mine (highest_accepted r i mine c.replicas) parts.1)

new_beside : (c : Config) (r : ℕ) (verb : Verb) (answer : Answer) (mine : List Event) (i v : ℕ) → is_beside true verb ≡ true → IsPossible c r (event_by r verb answer ∷ mine) → AreMet c r mine (new_values c r mine i v) → AreMet c r (event_by r verb answer ∷ mine) (new_values c r (event_by r verb answer ∷ mine) i v)
new_beside c r (Verb.Ask q) answer mine i v beside possible met = absurd (true≢false (sym beside))
new_beside c r (Verb.Fence q) answer mine i v beside possible met = absurd (true≢false (sym beside))
new_beside c r (Verb.Min q) answer mine i v beside possible met = absurd (true≢false (sym beside))
new_beside c r (Verb.Enter q t) answer mine i v beside possible met = absurd (true≢false (sym beside))
new_beside c r (Verb.PutMin q m) answer mine i v beside possible met = absurd (true≢false (sym beside))
new_beside c r (Verb.PutSlot q u m w) answer mine i v beside possible met = absurd (true≢false (sym beside))
new_beside c r (Verb.WriteRow j k x) answer mine i v beside possible met =
    let n = (new_met c r mine i v).0 met in
    (new_met c r (event_by r (Verb.WriteRow j k x) answer ∷ mine) i v).1 record { next = n.next; room = n.room; reserve_kept = n.reserve_kept; none_past = n.none_past; value = proposed_row c r i v j k x answer mine (first_value r i mine) n.value }
new_beside c r (Verb.Fuo q) answer mine i v beside possible met = absurd (true≢false (sym beside))
new_beside c r (Verb.Look q u) answer mine i v beside possible met = absurd (true≢false (sym beside))
new_beside c r (Verb.Head q) (Answer.Number h) mine i v beside possible met = new_head c r q h i v mine possible met
new_beside c r verb answer mine i v beside possible met =
    let n = (new_met c r mine i v).0 met in
    (new_met c r (event_by r verb answer ∷ mine) i v).1 record { next = n.next; room = n.room; reserve_kept = n.reserve_kept; none_past = n.none_past; value = n.value }

keeps_beside : (verb : Verb) → is_beside true verb ≡ true → keeps_looks verb ≡ true
keeps_beside (Verb.Ask q) beside = absurd (true≢false (sym beside))
keeps_beside (Verb.PutMin q n) beside = absurd (true≢false (sym beside))
keeps_beside (Verb.Look q i) beside = absurd (true≢false (sym beside))
keeps_beside verb beside = refl

calm_beside : (leading : Bool) (verb : Verb) → is_beside leading verb ≡ true → is_calm verb ≡ true
calm_beside leading (Verb.Ask q) beside = absurd (true≢false (sym beside))
calm_beside leading (Verb.Fence q) beside = absurd (true≢false (sym beside))
calm_beside leading (Verb.Min q) beside = absurd (true≢false (sym beside))
calm_beside leading (Verb.Enter q t) beside = absurd (true≢false (sym beside))
calm_beside leading (Verb.PutMin q n) beside = absurd (true≢false (sym beside))
calm_beside leading (Verb.PutSlot q i n v) beside = absurd (true≢false (sym beside))
calm_beside leading verb beside = refl

-- while the replica leads
pub at_on : (c : Config) (r b : ℕ) (verb : Verb) (answer : Answer) (mine : List Event) (up : List ℕ) (reach : List (Option ℕ)) (written : List ℕ) (place : Place) → leads_at place ≡ true → is_beside true verb ≡ true → IsPossible c r (event_by r verb answer ∷ mine) → At c r b mine up reach written place → At c r b (event_by r verb answer ∷ mine) up reach written place
at_on c r b (Verb.Ask q) answer mine up reach written place leading beside possible at = absurd (true≢false (sym beside))
at_on c r b (Verb.Fence q) answer mine up reach written place leading beside possible at = absurd (true≢false (sym beside))
at_on c r b (Verb.Min q) answer mine up reach written place leading beside possible at = absurd (true≢false (sym beside))
at_on c r b (Verb.Enter q t) answer mine up reach written place leading beside possible at = absurd (true≢false (sym beside))
at_on c r b (Verb.PutMin q n) answer mine up reach written place leading beside possible at = absurd (true≢false (sym beside))
at_on c r b (Verb.PutSlot q i n v) answer mine up reach written place leading beside possible at = absurd (true≢false (sym beside))
at_on c r b (Verb.Fuo q) answer mine up reach written place leading beside possible at = absurd (true≢false (sym beside))
at_on c r b (Verb.Look q i) answer mine up reach written place leading beside possible at = absurd (true≢false (sym beside))
at_on c r b verb answer mine up reach written (Place.ReadMin p) leading beside possible at = record { region = at.region; granted = at.granted; telling = record { fresh = record { begun = at.telling.fresh.begun; goes_on = at.telling.fresh.goes_on; unnumbered = at.telling.fresh.unnumbered; alone = at.telling.fresh.alone; unput = at.telling.fresh.unput }; confirmed = record { own = at.telling.confirmed.own; many = at.telling.confirmed.many }; told = at.telling.told; low = at.telling.low } }
at_on c r b verb answer mine up reach written (Place.EnterMin p) leading beside possible at = record { region = at.region; granted = at.granted; numbered = record { begun = at.numbered.begun; goes_on = at.numbered.goes_on; allowed = number_calm r verb answer mine b (proposal_number r mine) (calm_beside true verb beside) at.numbered.allowed; confirmed = record { own = at.numbered.confirmed.own; many = at.numbered.confirmed.many }; told = at.numbered.told; low = at.numbered.low; unput = at.numbered.unput }; below = record { joined = at.below.joined; held = λ q region member. (let h = at.below.held q region member in record { grant = h.grant; noted = h.noted; joined = h.joined }) } }
at_on c r b verb answer mine up reach written (Place.PutMin p) leading beside possible at = record { entering = record { region = at.entering.region; granted = at.entering.granted; numbered = record { begun = at.entering.numbered.begun; goes_on = at.entering.numbered.goes_on; allowed = number_calm r verb answer mine b (proposal_number r mine) (calm_beside true verb beside) at.entering.numbered.allowed; confirmed = record { own = at.entering.numbered.confirmed.own; many = at.entering.numbered.confirmed.many }; told = at.entering.numbered.told; low = at.entering.numbered.low; unput = at.entering.numbered.unput }; below = record { joined = at.entering.below.joined; held = λ q region member. (let h = at.entering.below.held q region member in record { grant = h.grant; noted = h.noted; joined = h.joined }) } }; entered = at.entered; under = at.under }
at_on c r b verb answer mine up reach written (Place.ReadFuo p source) leading beside possible at = record { region = at.region; member = at.member; leads = leads_kept c r b r verb answer mine refl at.leads; raised = at.raised; unput = at.unput; from = source_calm c r r verb answer mine source refl at.from; few = most_on r p mine (event_by r verb answer ∷ mine) up source (λ q. refl) at.few }
at_on c r b verb answer mine up reach written (Place.Learn p) leading beside possible at = record { region = at.region; member = at.member; leads = leads_kept c r b r verb answer mine refl at.leads; raised = at.raised; unput = at.unput; lacks = at.lacks; few = at.few }
at_on c r b verb answer mine up reach written (Place.WidenBehind p on) leading beside possible at = record { behind = record { region = at.behind.region; member = at.behind.member; leads = leads_kept c r b r verb answer mine refl at.behind.leads; raised = at.behind.raised; read = at.behind.read; clear = at.behind.clear; have = at.behind.have; few = at.behind.few; late = at.behind.late }; lacks = at.lacks }
at_on c r b verb answer mine up reach written (Place.LookBehind p on) leading beside possible at = record { behind = record { region = at.behind.region; member = at.behind.member; leads = leads_kept c r b r verb answer mine refl at.behind.leads; raised = at.behind.raised; read = at.behind.read; clear = at.behind.clear; have = at.behind.have; few = at.behind.few; late = at.behind.late }; lacks = at.lacks; near = at.near }
at_on c r b verb answer mine up reach written (Place.EnterBehind p on) leading beside possible at = record { near = record { behind = record { region = at.near.behind.region; member = at.near.behind.member; leads = leads_kept c r b r verb answer mine refl at.near.behind.leads; raised = at.near.behind.raised; read = at.near.behind.read; clear = at.near.behind.clear; have = at.near.behind.have; few = at.near.behind.few; late = at.near.behind.late }; lacks = at.near.lacks; near = at.near.near }; looked = rw at.near.behind.member at.looked }
at_on c r b verb answer mine up reach written (Place.PutBehind p on) leading beside possible at = record { near = record { behind = record { region = at.near.behind.region; member = at.near.behind.member; leads = leads_kept c r b r verb answer mine refl at.near.behind.leads; raised = at.near.behind.raised; read = at.near.behind.read; clear = at.near.behind.clear; have = at.near.behind.have; few = at.near.behind.few; late = at.near.behind.late }; lacks = at.near.lacks; near = at.near.near }; entered = at.entered; under = at.under; looked = rw at.near.behind.member at.looked }
at_on c r b verb answer mine up reach written (Place.RaiseBehind p on) leading beside possible at = record { behind = record { region = at.behind.region; member = at.behind.member; leads = leads_kept c r b r verb answer mine refl at.behind.leads; raised = at.behind.raised; read = at.behind.read; clear = at.behind.clear; have = at.behind.have; few = at.behind.few; late = at.behind.late }; done = at.done }
at_on c r b verb answer mine up reach written (Place.FenceBehind p on) leading beside possible at = record { near = record { behind = record { region = at.near.behind.region; member = at.near.behind.member; leads = leads_kept c r b r verb answer mine refl at.near.behind.leads; raised = at.near.behind.raised; read = at.near.behind.read; clear = at.near.behind.clear; have = at.near.behind.have; few = at.near.behind.few; late = at.near.behind.late }; lacks = at.near.lacks; near = at.near.near }; past = record { since = event_by r verb answer ∷ at.past.since; before = at.past.before; is = ap (λ past. event_by r verb answer ∷ past) at.past.is; grant = at.past.grant; noted = at.past.noted; joined = at.past.joined; read = at.past.read; puts = at.past.puts } }
at_on c r b verb answer mine up reach written (Place.LateFence p) leading beside possible at = record { region = at.region; stranger = at.stranger; level = record { leads = leads_kept c r b r verb answer mine refl at.level.leads; have = at.level.have; raised = at.level.raised; few = at.level.few } }
at_on c r b verb answer mine up reach written (Place.LateMin p) leading beside possible at = record { late = record { region = at.late.region; stranger = at.late.stranger; level = record { leads = leads_kept c r b r verb answer mine refl at.late.level.leads; have = at.late.level.have; raised = at.late.level.raised; few = at.late.level.few } }; granted = at.granted }
at_on c r b verb answer mine up reach written (Place.LateFuo p) leading beside possible at = record { late = record { region = at.late.region; stranger = at.late.stranger; level = record { leads = leads_kept c r b r verb answer mine refl at.late.level.leads; have = at.late.level.have; raised = at.late.level.raised; few = at.late.level.few } }; granted = at.granted; told = at.told; low = at.low }
at_on c r b verb answer mine up reach written (Place.LateEnter p) leading beside possible at = record { told = record { late = record { region = at.told.late.region; stranger = at.told.late.stranger; level = record { leads = leads_kept c r b r verb answer mine refl at.told.late.level.leads; have = at.told.late.level.have; raised = at.told.late.level.raised; few = at.told.late.level.few } }; granted = at.told.granted; told = at.told.told; low = at.told.low }; short = at.short; raised = at.raised; read = at.read; late = at.late }
at_on c r b verb answer mine up reach written (Place.LatePut p) leading beside possible at = record { entering = record { told = record { late = record { region = at.entering.told.late.region; stranger = at.entering.told.late.stranger; level = record { leads = leads_kept c r b r verb answer mine refl at.entering.told.late.level.leads; have = at.entering.told.late.level.have; raised = at.entering.told.late.level.raised; few = at.entering.told.late.level.few } }; granted = at.entering.told.granted; told = at.entering.told.told; low = at.entering.told.low }; short = at.entering.short; raised = at.entering.raised; read = at.entering.read; late = at.entering.late }; entered = at.entered; under = at.under }
at_on c r b verb answer mine up reach written (Place.ReadHead p candidate) leading beside possible at = record { region = at.region; unmarked = at.unmarked; level = record { leads = leads_kept c r b r verb answer mine refl at.level.leads; have = at.level.have; raised = at.level.raised; few = at.level.few }; roomy = roomy_more c r p (event_by r verb answer) mine candidate possible refl refl at.roomy }
at_on c r b verb answer mine up reach written (Place.Look p u candidate best) leading beside possible at = record { region = at.region; member = at.member; position = at.position; looking = record { level = record { leads = leads_kept c r b r verb answer mine refl at.looking.level.leads; have = at.looking.level.have; raised = at.looking.level.raised; few = at.looking.level.few }; roomy = roomy_more c r c.replicas (event_by r verb answer) mine candidate possible refl refl at.looking.roomy; looked = λ q low member. (let d = at.looking.looked q low member in record { good = rw member d.good; last = d.last; clear = d.clear; empty = d.empty }); shows = at.looking.shows } }
at_on c r b (Verb.WriteRow j k x) answer mine up reach written (Place.Write u last offer) leading beside possible at = (let w = at.0.writing in (record { writing = record { looking = record { level = record { leads = leads_kept c r b r (Verb.WriteRow j k x) answer mine refl w.looking.level.leads; have = w.looking.level.have; raised = w.looking.level.raised; few = w.looking.level.few }; roomy = roomy_more c r c.replicas (event_by r (Verb.WriteRow j k x) answer) mine None possible refl refl w.looking.roomy; looked = λ q low member. (let d = w.looking.looked q low member in record { good = rw member d.good; last = d.last; clear = d.clear; empty = d.empty }); shows = w.looking.shows }; first = w.first; value = w.value; own = w.own; batch = record { batch = w.batch.batch; row = w.batch.row; next = w.batch.next }; last_row = w.last_row; from = w.from; to = w.to; below = λ i from low. more_all r i j k x mine (w.below i from low) }; inside = at.0.inside }, at.1))
at_on c r b verb answer mine up reach written (Place.Write u last offer) leading beside possible at = (let w = at.0.writing in (record { writing = record { looking = record { level = record { leads = leads_kept c r b r verb answer mine refl w.looking.level.leads; have = w.looking.level.have; raised = w.looking.level.raised; few = w.looking.level.few }; roomy = roomy_more c r c.replicas (event_by r verb answer) mine None possible refl refl w.looking.roomy; looked = λ q low member. (let d = w.looking.looked q low member in record { good = rw member d.good; last = d.last; clear = d.clear; empty = d.empty }); shows = w.looking.shows }; first = w.first; value = w.value; own = w.own; batch = record { batch = w.batch.batch; row = w.batch.row; next = w.batch.next }; last_row = w.last_row; from = w.from; to = w.to; below = w.below }; inside = at.0.inside }, at.1))
at_on c r b verb answer mine up reach written (Place.Enter p offer) leading beside possible at = (record { region = at.0.region; member = at.0.member; offering = record { begun = at.0.offering.begun; goes_on = at.0.offering.goes_on; numbered = at.0.offering.numbered; carried = at.0.offering.carried; held = λ q region member. (let h = at.0.offering.held q region member in record { grant = h.grant; noted = h.noted; joined = h.joined }); have = at.0.offering.have; raised = at.0.offering.raised; few = at.0.offering.few; within = at.0.offering.within; new = new_beside c r verb answer mine (end_of c r mine) offer.value beside possible at.0.offering.new; below = at.0.offering.below; above = at.0.offering.above; unput = at.0.offering.unput }; looked = λ q more region member. rw member (at.0.looked q more region member) }, shows_kept c r (end_of c r mine) r verb answer mine offer.adopted (keeps_beside verb beside) at.1)
at_on c r b verb answer mine up reach written (Place.Put p offer) leading beside possible at = (record { entering = record { region = at.0.entering.region; member = at.0.entering.member; offering = record { begun = at.0.entering.offering.begun; goes_on = at.0.entering.offering.goes_on; numbered = at.0.entering.offering.numbered; carried = at.0.entering.offering.carried; held = λ q region member. (let h = at.0.entering.offering.held q region member in record { grant = h.grant; noted = h.noted; joined = h.joined }); have = at.0.entering.offering.have; raised = at.0.entering.offering.raised; few = at.0.entering.offering.few; within = at.0.entering.offering.within; new = new_beside c r verb answer mine (end_of c r mine) offer.value beside possible at.0.entering.offering.new; below = at.0.entering.offering.below; above = at.0.entering.offering.above; unput = at.0.entering.offering.unput }; looked = λ q more region member. rw member (at.0.entering.looked q more region member) }; entered = at.0.entered; under = at.0.under; looked_before = rw at.0.entering.member at.0.looked_before }, shows_kept c r (end_of c r mine) r verb answer mine offer.adopted (keeps_beside verb beside) at.1)
at_on c r b verb answer mine up reach written (Place.Raise p) leading beside possible at = record { region = at.region; member = at.member; leads = leads_kept c r b r verb answer mine refl at.leads; have = at.have; raised = at.raised; read = at.read }
at_on c r b verb answer mine up reach written Place.Outrun leading beside possible at = record { region = at.region; within = at.within; member = at.member; past = at.past }
at_on c r b verb answer mine up reach written Place.Rest leading beside possible at = (record { all = at.0.all; members = at.0.members }, record { leads = leads_kept c r b r verb answer mine refl at.1.leads; have = at.1.have; raised = at.1.raised; few = at.1.few })
at_on c r b verb answer mine up reach written (Place.Ask p) leading beside possible at = absurd (true≢false (sym leading))
at_on c r b verb answer mine up reach written (Place.Confirm round p) leading beside possible at = absurd (true≢false (sym leading))
at_on c r b verb answer mine up reach written (Place.Evidence p) leading beside possible at = absurd (true≢false (sym leading))

-- while it does not
at_off : (c : Config) (r b : ℕ) (verb : Verb) (answer : Answer) (mine : List Event) (up : List ℕ) (reach : List (Option ℕ)) (written : List ℕ) (place : Place) → leads_at place ≡ false → is_beside false verb ≡ true → At c r b mine up reach written place → At c r b (event_by r verb answer ∷ mine) up reach written place
at_off c r b verb answer mine up reach written (Place.Ask p) leading beside at = record {
  region = at.region;
  asked = elim at.asked [ inl first ↦ inl first | inr asked ↦ inr (asked_beside c r verb answer mine (p - 1) beside asked.0, fresh_beside c r verb answer mine beside asked.1) ];
}
at_off c r b verb answer mine up reach written (Place.Confirm round p) leading beside at = (at.0, record { region = at.1.region; fresh = fresh_beside c r verb answer mine beside at.1.fresh })
at_off c r b verb answer mine up reach written (Place.Evidence p) leading beside at = begun_beside c r verb answer mine p beside at
at_off c r b verb answer mine up reach written place leading beside at = absurd (true≢false leading)

pub begins_none : (leading : Bool) (r : ℕ) (verb : Verb) (answer : Answer) → is_beside leading verb ≡ true → begins_leadership r (event_by r verb answer) ≡ false
begins_none leading r (Verb.Ask q) answer beside = absurd (true≢false (sym beside))
begins_none leading r verb answer beside = refl

pub writes_none : (leading : Bool) (verb : Verb) → leading ≡ false → is_beside leading verb ≡ true → writes_row verb ≡ false
writes_none leading (Verb.WriteRow j k x) unled beside = absurd (true≢false (sym beside ∙ unled))
writes_none leading verb unled beside = refl

-- such a verb leaves the leader
pub beside_leaves : (leading : Bool) (known : ℕ) (verb : Verb) → writes_row verb ≡ false → is_beside leading verb ≡ true → leaves_leader leading known verb ≡ true
beside_leaves leading known (Verb.WriteRow j k x) none beside = absurd (true≢false none)
beside_leaves leading known (Verb.Fuo p) none beside = refl
beside_leaves true known (Verb.Look p i) none beside = absurd (true≢false (sym beside))
beside_leaves false known (Verb.Look p i) none beside = refl
beside_leaves leading known verb none beside = beside

-- a look that leaves the leader is at another position than the first unknown one
looks_apart : (i known : ℕ) → not (i == known) ≡ true → i ≢ known
looks_apart i known apart same = true≢false (sym apart ∙ ap not (eq-eqb i known same))

-- while the replica leads, and while it doesn't
pub at_leading : (c : Config) (r b : ℕ) (verb : Verb) (answer : Answer) (mine : List Event) (up : List ℕ) (reach : List (Option ℕ)) (written : List ℕ) (place : Place) → leads_at place ≡ true → leaves_leader true (end_of c r mine) verb ≡ true → IsPossible c r (event_by r verb answer ∷ mine) → At c r b mine up reach written place → At c r b (event_by r verb answer ∷ mine) up reach written place
at_leading c r b (Verb.WriteRow j k x) answer mine up reach written place leading leaves possible at = absurd (true≢false (sym leaves))
at_leading c r b (Verb.Fuo q) answer mine up reach written place leading leaves possible at = at_fuo c r b q answer mine up reach written place leading possible at
at_leading c r b (Verb.Look q i) answer mine up reach written place leading leaves possible at = at_looked c r b q i answer mine up reach written place leading (looks_apart i (end_of c r mine) leaves) at
at_leading c r b verb answer mine up reach written place leading leaves possible at = at_on c r b verb answer mine up reach written place leading leaves possible at

pub at_resting : (c : Config) (r b known : ℕ) (verb : Verb) (answer : Answer) (mine : List Event) (up : List ℕ) (reach : List (Option ℕ)) (written : List ℕ) (place : Place) → leads_at place ≡ false → leaves_leader false known verb ≡ true → At c r b mine up reach written place → At c r b (event_by r verb answer ∷ mine) up reach written place
at_resting c r b known (Verb.WriteRow j k x) answer mine up reach written place leading leaves at = absurd (true≢false (sym leaves))
at_resting c r b known (Verb.Fuo q) answer mine up reach written place leading leaves at = at_off c r b (Verb.Fuo q) answer mine up reach written place leading refl at
at_resting c r b known (Verb.Look q i) answer mine up reach written place leading leaves at = at_off c r b (Verb.Look q i) answer mine up reach written place leading refl at
at_resting c r b known verb answer mine up reach written place leading leaves at = at_off c r b verb answer mine up reach written place leading leaves at

-- it is a calm verb
leaves_calm : (leading : Bool) (known : ℕ) (verb : Verb) → leaves_leader leading known verb ≡ true → is_beside false verb ≡ true
leaves_calm leading known (Verb.WriteRow j k x) leaves = absurd (true≢false (sym leaves))
leaves_calm leading known (Verb.Fuo p) leaves = refl
leaves_calm leading known (Verb.Look p i) leaves = refl
leaves_calm leading known verb leaves = leaves

pub others_keep_law : OthersKeep
others_keep_law mine lead verb answer leaves possible s =
    let beside = leaves_calm (leads_at lead.place) (end_of lead.config lead.id mine) verb leaves in
    record {
      config = s.config;
      inside = s.inside;
      leading = leading_calm lead.id lead.id verb answer mine lead.leading (calm_beside false verb beside) s.leading;
      tables = tables_kept lead.config lead.id (event_by lead.id verb answer) mine lead.up lead.reach lead.heads lead.written.items possible (begins_none false lead.id verb answer beside) (writes_none false verb refl beside) s.tables;
      at = go (leads_at lead.place) refl leaves;
    }
  where
    go : (t : Bool) → leads_at lead.place ≡ t → leaves_leader t (end_of lead.config lead.id mine) verb ≡ true → At lead.config lead.id lead.number (event_by lead.id verb answer ∷ mine) lead.up lead.reach lead.written.items lead.place
    go true leading leaves = at_leading lead.config lead.id lead.number verb answer mine lead.up lead.reach lead.written.items lead.place leading leaves possible s.at
    go false leading leaves = at_resting lead.config lead.id lead.number (end_of lead.config lead.id mine) verb answer mine lead.up lead.reach lead.written.items lead.place leading leaves s.at

-- so does what the program's other machines do
pub others_kept : (mine : List Event) (lead : Lead) (verb : Verb) (answer : Answer) → writes_row verb ≡ false → is_beside (leads_at lead.place) verb ≡ true → IsPossible lead.config lead.id (event_by lead.id verb answer ∷ mine) → StandsFor mine lead → StandsFor (event_by lead.id verb answer ∷ mine) lead
others_kept mine lead verb answer none beside possible s = others_keep_law mine lead verb answer (beside_leaves (leads_at lead.place) (end_of lead.config lead.id mine) verb none beside) possible s
