-- What holds at the places of a leader stays when another machine of the replica looks at another
-- position than the first unknown one.
use Rattle.std.proofs.Common.{Bool, List, None, Some, ap, cond, false, get_or, is_some, refl, suc, sym, subst, length, true, true≢false, zero, ℕ, ◌%◌, ◌&&◌, ◌+◌, ◌/◌, ◌<◌, ◌==◌, ◌||◌, ◌∙◌, ◌∷◌, ◌≡◌, ◌≢◌, ◌≤◌}
use Rattle.std.specs.Prelude.{is_none, nat_lt, not}
use Rattle.std.specs.declared.option.Option.{Option}
use Rattle.std.proofs.lemmas.Bool.{and_from, and_parts, ne_eqb}
use Rattle.mu_model.specs.declared.config.Config.{Config}
use Rattle.mu_model.specs.declared.event.Answer.{Answer}
use Rattle.mu_model.specs.declared.event.Event.{Event}
use Rattle.mu_model.specs.declared.event.Target.{Target}
use Rattle.mu_model.specs.declared.event.Verb.{Verb}
use Rattle.mu_model.specs.Contents.{client_of, command_count, holds_all, is_batch, is_mark, marked, number_of, row_count}
use Rattle.mu_model.specs.Entering.{last_opened}
use Rattle.mu_model.specs.Histories.{all_below, has, newer_or, since}
use Rattle.mu_model.specs.Knowledge.{known, wrote_batch}
use Rattle.mu_model.specs.Leaderships.{is_member, leadership, proposal_number}
use Rattle.mu_model.specs.Picks.{entry_of, first_value, highest_accepted, is_past_look, larger, last_look, look_answer, may_pick_at, may_propose, pick}
use Rattle.mu_model.specs.Placing.{has_looked_since, is_good_look, is_slot_put_at, looked_before_entering, since_joining}
use Rattle.mu_model.specs.Points.{AreMet, new_values}
use Rattle.mu_model.specs.Room.{is_mark_candidate, last_head, reserve}
use Rattle.mu_model.proofs.Scans.{all_at, each_all}
use Rattle.mu_agree.proofs.Landings.{has_more}
use Rattle.mu_lead.specs.declared.place.Place.{Place}
use Rattle.mu_lead.specs.declared.place.Sight.{Sight}
use Rattle.mu_lead.specs.declared.place.Then.{Then}
use Rattle.mu_lead.specs.Beside.{leads_at}
use Rattle.mu_lead.specs.Confirming.{AtEnterMin}
use Rattle.mu_lead.specs.Leading.{AtLateEnter, AtLateFuo, Late, Near, end_of}
use Rattle.mu_lead.specs.Offering.{AtEnter, Looked, Looking, LooksShow, Offering, entry_in, has_seen_past, is_entry_look, is_full_look, took}
use Rattle.mu_lead.specs.Standing.{At}
use Rattle.mu_lead.proofs.Bringing.{behind_looked, look_event, look_known}
use Rattle.mu_lead.proofs.Calm.{number_calm}
use Rattle.mu_lead.proofs.Keeping.{leads_kept, most_on, source_calm}
use Rattle.mu_lead.proofs.Looks.{level_looked, roomy_looked}
use Rattle.mu_model.proofs.Putting.{new_met}

-- it is no look at the position i
no_look : (s t k : Bool) (a : Answer) → k ≡ false → cond (s && (t && k)) (Some a) None ≡ None
no_look true true k a none = rw none refl
no_look true false k a none = refl
no_look false t k a none = refl

elsewhere : (r p q u i : ℕ) (a : Answer) → u ≢ i → look_answer r p i r (Verb.Look q u) a ≡ None
elsewhere r p q u i a other = no_look (r == r) (q == p) (u == i) a (ne_eqb u i other)

has_else : (test : Option Answer → Bool) (r p q u i : ℕ) (a : Answer) (xs : List Event) → test None ≡ false → u ≢ i → has (λ e. test (look_answer r p i e.by e.verb e.answer)) (look_event r q u a ∷ xs) ≡ has (λ e. test (look_answer r p i e.by e.verb e.answer)) xs
has_else test r p q u i a xs none other =
    ap (λ o. cond (test o) true (has (λ e. test (look_answer r p i e.by e.verb e.answer)) xs)) (elsewhere r p q u i a other)
    ∙ ap (λ t. cond t true (has (λ e. test (look_answer r p i e.by e.verb e.answer)) xs)) none

last_else : (r p q u i : ℕ) (a : Answer) (mine : List Event) → u ≢ i → last_look r p i (look_event r q u a ∷ mine) ≡ last_look r p i mine
last_else r p q u i a mine other = ap (λ o. newer_or o (last_look r p i mine)) (elsewhere r p q u i a other)

shows_else : (r q u i n : ℕ) (a : Answer) (mine : List Event) → u ≢ i → highest_accepted r i (look_event r q u a ∷ mine) n ≡ highest_accepted r i mine n
shows_else r q u i zero a mine other = refl
shows_else r q u i (suc k) a mine other =
    ap (λ x. larger x (cond (is_member r k mine) (entry_of (last_look r k i (look_event r q u a ∷ mine))) None)) (shows_else r q u i k a mine other)
    ∙ ap (λ x. larger (highest_accepted r i mine k) (cond (is_member r k mine) (entry_of x) None)) (last_else r k q u i a mine other)

-- a look at p that wasn't past stays, whatever is looked at then
looked_more : (c : Config) (r p q u i : ℕ) (a : Answer) (mine : List Event) → is_member r p mine ≡ true → has_looked_since c r p i mine ≡ true → has_looked_since c r p i (look_event r q u a ∷ mine) ≡ true
looked_more c r p q u i a mine member good = rw member (has_more (λ e. is_good_look (look_answer r p i e.by e.verb e.answer)) (look_event r q u a) (since (λ e. is_slot_put_at r p c.ring i e.by e.verb) (since_joining r p mine)) good)

looked_else : (c : Config) (r p q u i : ℕ) (a : Answer) (mine : List Event) → u ≢ i → is_member r p mine ≡ true → Looked c r i mine p → Looked c r i (look_event r q u a ∷ mine) p
looked_else c r p q u i a mine other member l = record {
  good = looked_more c r p q u i a mine member l.good;
  last = ap is_some (last_else r p q u i a mine other) ∙ l.last;
  clear = has_else is_past_look r p q u i a (leadership r mine) refl other ∙ l.clear;
  empty = λ none. has_else is_full_look r p q u i a (leadership r mine) refl other ∙ l.empty (sym (ap entry_of (last_else r p q u i a mine other)) ∙ none);
}

-- what the looks there showed, they still do
looks_else : (c : Config) (r q u i : ℕ) (a : Answer) (mine : List Event) (adopted : Bool) → u ≢ i → LooksShow c r mine i adopted → LooksShow c r (look_event r q u a ∷ mine) i adopted
looks_else c r q u i a mine true other s = record { region = s.region; within = s.within; member = s.member; shown = has_else is_entry_look r s.region q u i a (leadership r mine) refl other ∙ s.shown }
looks_else c r q u i a mine false other s = λ p low member. has_else is_full_look r p q u i a (leadership r mine) refl other ∙ s p low member

-- a value that may be picked still may
picked_else : (c : Config) (r q u v : ℕ) (a : Answer) (mine : List Event) (o : Option (ℕ × ℕ)) → known c r (look_event r q u a ∷ mine) ≡ known c r mine → pick c r mine v o ≡ true → pick c r (look_event r q u a ∷ mine) v o ≡ true
picked_else c r q u v a mine (Some entry) same is = is
picked_else c r q u v a mine None same is =
    subst
    (λ values. ((is_batch c v && ((v / 4096 == r) && (wrote_batch c r (v % 4096) mine && (number_of c (v % 4096) == command_count c (client_of c (v % 4096)) values + 1))))
    || ((v / 4096 == r) && not (all_below c.replicas (λ k. not (is_mark c k v && (not (k == r) && (not (marked c k values) && is_mark_candidate c r k (length values + reserve c) mine)))))))
    ≡ true) (sym same) is

proposed_else : (c : Config) (r q u i v : ℕ) (a : Answer) (mine : List Event) (o : Option ℕ) → u ≢ i → known c r (look_event r q u a ∷ mine) ≡ known c r mine → may_propose c r mine i v o ≡ true → may_propose c r (look_event r q u a ∷ mine) i v o ≡ true
proposed_else c r q u i v a mine (Some first) other same is = is
proposed_else c r q u i v a mine None other same is =
    let now = look_event r q u a ∷ mine in
    let parts = and_parts (all_below c.replicas (λ p. not (is_member r p mine) || is_some (last_look r p i mine))) (may_pick_at c r mine i v) is in
    and_from (all_below c.replicas (λ p. not (is_member r p mine) || is_some (last_look r p i now))) (may_pick_at c r now i v)
    (each_all c.replicas (λ p. not (is_member r p mine) || is_some (last_look r p i now)) (λ p low. ap (λ o. not (is_member r p mine) || is_some o) (last_else r p q u i a mine other) ∙ all_at c.replicas (λ k. not (is_member r k mine) || is_some (last_look r k i mine)) parts.0 p low))
    (subst (λ o. pick c r now v o ≡ true) (sym (shows_else r q u i c.replicas a mine other)) (picked_else c r q u v a mine (highest_accepted r i mine c.replicas) same parts.1))

new_else : (c : Config) (r q u i v : ℕ) (a : Answer) (mine : List Event) → u ≢ i → known c r (look_event r q u a ∷ mine) ≡ known c r mine → AreMet c r mine (new_values c r mine i v) → AreMet c r (look_event r q u a ∷ mine) (new_values c r (look_event r q u a ∷ mine) i v)
new_else c r q u i v a mine other same met =
    let n = (new_met c r mine i v).0 met in
    (new_met c r (look_event r q u a ∷ mine) i v).1 record {
      next = n.next ∙ sym (ap length same);
      room = subst (λ values. all_below c.replicas (λ k. marked c k values || nat_lt (i + 0) (last_head r k mine + c.ring)) ≡ true) (sym same) n.room;
      reserve_kept = λ fresh. subst (λ values. all_below c.replicas (λ k. marked c k values || nat_lt (i + reserve c) (last_head r k mine + c.ring)) ≡ true) (sym same)
          (n.reserve_kept (sym (ap (λ o. is_batch c v && is_none o) (shows_else r q u i c.replicas a mine other)) ∙ fresh));
      none_past = each_all c.replicas (λ p. not (is_member r p mine && has_seen_past r p i (look_event r q u a ∷ leadership r mine)))
          (λ p low. ap (λ t. not (is_member r p mine && t)) (has_else is_past_look r p q u i a (leadership r mine) refl other) ∙ all_at c.replicas (λ k. not (is_member r k mine && has_seen_past r k i (leadership r mine))) n.none_past p low);
      value = proposed_else c r q u i v a mine (first_value r i mine) other same n.value;
    }

near_else : (c : Config) (r b q u : ℕ) (a : Answer) (mine : List Event) (up : List ℕ) (reach : List (Option ℕ)) (p : ℕ) (on : Then) → known c r (look_event r q u a ∷ mine) ≡ known c r mine → Near c r b mine up reach p on → Near c r b (look_event r q u a ∷ mine) up reach p on
near_else c r b q u a mine up reach p on same h = record { behind = behind_looked c r b p q u a mine up reach on same h.behind; lacks = subst (λ values. get_or up p 0 < length values) (sym same) h.lacks; near = h.near }

stranger_else : (c : Config) (r b q u : ℕ) (a : Answer) (mine : List Event) (up : List ℕ) (reach : List (Option ℕ)) (p : ℕ) → known c r (look_event r q u a ∷ mine) ≡ known c r mine → Late c r b mine up reach p → Late c r b (look_event r q u a ∷ mine) up reach p
stranger_else c r b q u a mine up reach p same l = record { region = l.region; stranger = l.stranger; level = level_looked c r b q u a mine up reach same l.level }

told_else : (c : Config) (r b q u : ℕ) (a : Answer) (mine : List Event) (up : List ℕ) (reach : List (Option ℕ)) (p : ℕ) → known c r (look_event r q u a ∷ mine) ≡ known c r mine → AtLateFuo c r b mine up reach p → AtLateFuo c r b (look_event r q u a ∷ mine) up reach p
told_else c r b q u a mine up reach p same t = record { late = stranger_else c r b q u a mine up reach p same t.late; granted = t.granted; told = t.told; low = t.low }

entering_else : (c : Config) (r b q u : ℕ) (a : Answer) (mine : List Event) (up : List ℕ) (reach : List (Option ℕ)) (p : ℕ) → known c r (look_event r q u a ∷ mine) ≡ known c r mine → AtLateEnter c r b mine up reach p → AtLateEnter c r b (look_event r q u a ∷ mine) up reach p
entering_else c r b q u a mine up reach p same e = record {
  told = told_else c r b q u a mine up reach p same e.told;
  short = subst (λ values. get_or up p 0 ≤ length values) (sym same) e.short;
  raised = e.raised;
  read = e.read;
  late = e.late;
}

looking_else : (c : Config) (r b q u : ℕ) (a : Answer) (mine : List Event) (up : List ℕ) (reach : List (Option ℕ)) (p : ℕ) (candidate : Option ℕ) (best : Option Sight) → u ≢ end_of c r mine → known c r (look_event r q u a ∷ mine) ≡ known c r mine → Looking c r b mine up reach p candidate best
    → Looking c r b (look_event r q u a ∷ mine) up reach p candidate best
looking_else c r b q u a mine up reach p candidate best other same l = record {
  level = level_looked c r b q u a mine up reach same l.level;
  roomy = roomy_looked c r q u c.replicas a mine candidate same l.roomy;
  looked = λ k low member. subst (λ values. Looked c r (length values) (look_event r q u a ∷ mine) k) (sym same) (looked_else c r k q u (end_of c r mine) a mine other member (l.looked k low member));
  shows = subst (λ values. highest_accepted r (length values) (look_event r q u a ∷ mine) p ≡ entry_in best) (sym same) (shows_else r q u (end_of c r mine) p a mine other ∙ l.shows);
}

offering_else : (c : Config) (r b v q u : ℕ) (a : Answer) (mine : List Event) (up : List ℕ) (reach : List (Option ℕ)) (p : ℕ) → u ≢ end_of c r mine → known c r (look_event r q u a ∷ mine) ≡ known c r mine → Offering c r b v mine up reach p → Offering c r b v (look_event r q u a ∷ mine) up reach p
offering_else c r b v q u a mine up reach p other same o = record {
  begun = o.begun;
  goes_on = o.goes_on;
  numbered = o.numbered;
  carried = o.carried;
  held = λ k region member. (let h = o.held k region member in record { grant = h.grant; noted = h.noted; joined = h.joined });
  have = λ k region member. subst (λ values. length values ≤ get_or up k 0) (sym same) (o.have k region member);
  raised = o.raised;
  few = λ k region member. subst (λ values. get_or up k 0 ≤ length values) (sym same) (o.few k region member);
  within = subst (λ values. length values ≤ row_count c + reserve c) (sym same) o.within;
  new = subst (λ values. AreMet c r (look_event r q u a ∷ mine) (new_values c r (look_event r q u a ∷ mine) (length values) v)) (sym same) (new_else c r q u (end_of c r mine) v a mine other same o.new);
  below = λ k low member. subst (λ values. took r k (length values) b v mine ≡ true) (sym same) (o.below k low member);
  above = λ k more. subst (λ values. took r k (length values) b v mine ≡ false) (sym same) (o.above k more);
  unput = λ i more. o.unput i (subst (λ values. length values < i) same more);
}

enters_else : (c : Config) (r b v q u : ℕ) (a : Answer) (mine : List Event) (up : List ℕ) (reach : List (Option ℕ)) (p : ℕ) → u ≢ end_of c r mine → known c r (look_event r q u a ∷ mine) ≡ known c r mine → AtEnter c r b v mine up reach p → AtEnter c r b v (look_event r q u a ∷ mine) up reach p
enters_else c r b v q u a mine up reach p other same e = record {
  region = e.region;
  member = e.member;
  offering = offering_else c r b v q u a mine up reach p other same e.offering;
  looked = λ k more region member. subst (λ values. has_looked_since c r k (length values) (look_event r q u a ∷ mine) ≡ true) (sym same) (looked_more c r k q u (end_of c r mine) a mine member (e.looked k more region member));
}

-- the region is entered for its minimum
entering_min : (c : Config) (r b q u : ℕ) (a : Answer) (mine : List Event) (p : ℕ) → AtEnterMin c r b mine p → AtEnterMin c r b (look_event r q u a ∷ mine) p
entering_min c r b q u a mine p at = (let n = at.numbered in record {
  region = at.region;
  granted = at.granted;
  numbered = record { begun = n.begun; goes_on = n.goes_on; allowed = number_calm r (Verb.Look q u) a mine b (proposal_number r mine) refl n.allowed; confirmed = record { own = n.confirmed.own; many = n.confirmed.many }; told = n.told; low = n.low; unput = n.unput };
  below = record { joined = at.below.joined; held = λ k region member. (let h = at.below.held k region member in record { grant = h.grant; noted = h.noted; joined = h.joined }) };
})

-- each place
at_else : (c : Config) (r b q u : ℕ) (a : Answer) (mine : List Event) (up : List ℕ) (reach : List (Option ℕ)) (written : List ℕ) (place : Place) → leads_at place ≡ true → u ≢ end_of c r mine → known c r (look_event r q u a ∷ mine) ≡ known c r mine → At c r b mine up reach written place → At c r b (look_event r q u a ∷ mine) up reach written place
at_else c r b q u a mine up reach written (Place.ReadMin p) leading other same at = (let t = at.telling in record { region = at.region; granted = at.granted; telling = record { fresh = record { begun = t.fresh.begun; goes_on = t.fresh.goes_on; unnumbered = t.fresh.unnumbered; alone = t.fresh.alone; unput = t.fresh.unput }; confirmed = record { own = t.confirmed.own; many = t.confirmed.many }; told = t.told; low = t.low } })
at_else c r b q u a mine up reach written (Place.EnterMin p) leading other same at = entering_min c r b q u a mine p at
at_else c r b q u a mine up reach written (Place.PutMin p) leading other same at = record { entering = entering_min c r b q u a mine p at.entering; entered = at.entered; under = at.under }
at_else c r b q u a mine up reach written (Place.ReadFuo p source) leading other same at = record { region = at.region; member = at.member; leads = leads_kept c r b r (Verb.Look q u) a mine refl at.leads; raised = at.raised; unput = at.unput; from = source_calm c r r (Verb.Look q u) a mine source refl at.from; few = most_on r p mine (look_event r q u a ∷ mine) up source (λ k. refl) at.few }
at_else c r b q u a mine up reach written (Place.Learn p) leading other same at = record { region = at.region; member = at.member; leads = leads_kept c r b r (Verb.Look q u) a mine refl at.leads; raised = at.raised; unput = at.unput; lacks = subst (λ values. length values < get_or up p 0) (sym same) at.lacks; few = at.few }
at_else c r b q u a mine up reach written (Place.WidenBehind p on) leading other same at = record { behind = behind_looked c r b p q u a mine up reach on same at.behind; lacks = subst (λ values. get_or up p 0 < length values) (sym same) at.lacks }
at_else c r b q u a mine up reach written (Place.LookBehind p on) leading other same at = near_else c r b q u a mine up reach p on same at
at_else c r b q u a mine up reach written (Place.EnterBehind p on) leading other same at = record { near = near_else c r b q u a mine up reach p on same at.near; looked = looked_more c r p q u (get_or up p 0) a mine at.near.behind.member at.looked }
at_else c r b q u a mine up reach written (Place.PutBehind p on) leading other same at = record { near = near_else c r b q u a mine up reach p on same at.near; entered = at.entered; under = at.under; looked = rw at.near.behind.member at.looked }
at_else c r b q u a mine up reach written (Place.RaiseBehind p on) leading other same at = record { behind = behind_looked c r b p q u a mine up reach on same at.behind; done = at.done ∙ sym (ap length same) }
at_else c r b q u a mine up reach written (Place.FenceBehind p on) leading other same at = (let past = at.past in record { near = near_else c r b q u a mine up reach p on same at.near; past = record { since = look_event r q u a ∷ past.since; before = past.before; is = ap (λ x. look_event r q u a ∷ x) past.is; grant = past.grant; noted = past.noted; joined = past.joined; read = past.read; puts = past.puts } })
at_else c r b q u a mine up reach written (Place.LateFence p) leading other same at = stranger_else c r b q u a mine up reach p same at
at_else c r b q u a mine up reach written (Place.LateMin p) leading other same at = record { late = stranger_else c r b q u a mine up reach p same at.late; granted = at.granted }
at_else c r b q u a mine up reach written (Place.LateFuo p) leading other same at = told_else c r b q u a mine up reach p same at
at_else c r b q u a mine up reach written (Place.LateEnter p) leading other same at = entering_else c r b q u a mine up reach p same at
at_else c r b q u a mine up reach written (Place.LatePut p) leading other same at = record { entering = entering_else c r b q u a mine up reach p same at.entering; entered = at.entered; under = at.under }
at_else c r b q u a mine up reach written (Place.ReadHead p candidate) leading other same at = record { region = at.region; unmarked = subst (λ values. marked c p values ≡ false) (sym same) at.unmarked; level = level_looked c r b q u a mine up reach same at.level; roomy = roomy_looked c r q u p a mine candidate same at.roomy }
at_else c r b q u a mine up reach written (Place.Look p i candidate best) leading other same at = record { region = at.region; member = at.member; position = at.position ∙ sym (ap length same); looking = looking_else c r b q u a mine up reach p candidate best other same at.looking }
at_else c r b q u a mine up reach written (Place.Write j last offer) leading other same at = (let w = at.0.writing in (
  record {
    writing = record {
      looking = looking_else c r b q u a mine up reach c.replicas None None other same w.looking;
      first = w.first;
      value = w.value;
      own = w.own;
      batch = record { batch = w.batch.batch; row = w.batch.row; next = subst (λ values. number_of c w.first ≡ command_count c (client_of c w.first) values + 1) (sym same) w.batch.next };
      last_row = w.last_row;
      from = w.from;
      to = w.to;
      below = w.below;
    };
    inside = at.0.inside;
  },
  at.1,
))
at_else c r b q u a mine up reach written (Place.Enter p offer) leading other same at = (enters_else c r b offer.value q u a mine up reach p other same at.0, subst (λ values. LooksShow c r (look_event r q u a ∷ mine) (length values) offer.adopted) (sym same) (looks_else c r q u (end_of c r mine) a mine offer.adopted other at.1))
at_else c r b q u a mine up reach written (Place.Put p offer) leading other same at = (
  record {
    entering = enters_else c r b offer.value q u a mine up reach p other same at.0.entering;
    entered = subst (λ values. last_opened r p mine ≡ Some (Target.Place (length values % c.ring))) (sym same) at.0.entered;
    under = at.0.under;
    looked_before = subst (λ values. looked_before_entering c r p (length values) (look_event r q u a ∷ mine) ≡ true) (sym same) (rw at.0.entering.member at.0.looked_before);
  },
  subst (λ values. LooksShow c r (look_event r q u a ∷ mine) (length values) offer.adopted) (sym same) (looks_else c r q u (end_of c r mine) a mine offer.adopted other at.1),
)
at_else c r b q u a mine up reach written (Place.Raise p) leading other same at = record { region = at.region; member = at.member; leads = leads_kept c r b r (Verb.Look q u) a mine refl at.leads; have = λ k region member. at.have k region member ∙ sym (ap length same); raised = at.raised; read = at.read }
at_else c r b q u a mine up reach written Place.Outrun leading other same at = record { region = at.region; within = at.within; member = at.member; past = subst (λ values. has_seen_past r at.region (length values) (look_event r q u a ∷ mine) ≡ true) (sym same) (has_more (λ e. is_past_look (look_answer r at.region (end_of c r mine) e.by e.verb e.answer)) (look_event r q u a) mine at.past) }
at_else c r b q u a mine up reach written Place.Rest leading other same at = (record { all = subst (λ values. holds_all c values ≡ true) (sym same) at.0.all; members = at.0.members }, level_looked c r b q u a mine up reach same at.1)
at_else c r b q u a mine up reach written place leading other same at = absurd (true≢false (sym leading))

pub at_looked : (c : Config) (r b q u : ℕ) (a : Answer) (mine : List Event) (up : List ℕ) (reach : List (Option ℕ)) (written : List ℕ) (place : Place) → leads_at place ≡ true → u ≢ end_of c r mine → At c r b mine up reach written place → At c r b (look_event r q u a ∷ mine) up reach written place
at_looked c r b q u a mine up reach written place leading other at = at_else c r b q u a mine up reach written place leading other (look_known c r q u a mine other) at
