-- What holds at the places of a leader stays, whatever FUO another machine of the replica reads.
use Rattle.std.proofs.Common.{Bool, List, None, ap, false, get_or, refl, sym, true, true≢false, ℕ, ◌&&◌, ◌==◌, ◌||◌, ◌∷◌, ◌≡◌}
use Rattle.std.specs.Prelude.{is_some, not}
use Rattle.std.specs.declared.option.Option.{Option}
use Rattle.mu_model.specs.declared.config.Config.{Config}
use Rattle.mu_model.specs.declared.event.Answer.{Answer}
use Rattle.mu_model.specs.declared.event.Event.{Event}
use Rattle.mu_model.specs.declared.event.Verb.{Verb}
use Rattle.mu_model.specs.Leaderships.{is_member, proposal_number}
use Rattle.mu_model.specs.Parts.{IsPossible}
use Rattle.mu_model.specs.Points.{AreMet, new_values}
use Rattle.mu_model.proofs.Putting.{new_met}
use Rattle.mu_model.specs.Histories.{event_by}
use Rattle.mu_lead.specs.declared.place.Place.{Place}
use Rattle.mu_lead.specs.declared.place.Then.{Then}
use Rattle.mu_lead.specs.declared.place.Sight.{Sight}
use Rattle.mu_lead.specs.Beside.{leads_at}
use Rattle.mu_lead.specs.Confirming.{AtEnterMin}
use Rattle.mu_lead.specs.Leading.{AtLateEnter, AtLateFuo, Behind, Late, Level, Near, RaisedBelow, ReadBelow, came_late, end_of}
use Rattle.mu_lead.specs.Offering.{Looking, Offering}
use Rattle.mu_lead.specs.Standing.{At}
use Rattle.mu_lead.proofs.Calm.{number_calm, roomy_more}
use Rattle.mu_lead.proofs.Copying.{read_on}
use Rattle.mu_lead.proofs.Keeping.{leads_kept, most_on, source_calm}
use Rattle.mu_lead.proofs.Sights.{shows_kept}

-- the event of a FUO, whatever the answer
abbrev fuo_of : ℕ → ℕ → Answer → Event
fuo_of r s answer = event_by r (Verb.Fuo s) answer

raised_fuo : (r s n : ℕ) (answer : Answer) (mine : List Event) (up : List ℕ) (reach : List (Option ℕ)) → RaisedBelow r mine up reach n → RaisedBelow r (fuo_of r s answer ∷ mine) up reach n
raised_fuo r s n answer mine up reach raised k low member = (let old = raised k low member in (old.0, read_on r s k (get_or up k 0) answer mine old.1))

read_fuo : (r s n : ℕ) (answer : Answer) (mine : List Event) (up : List ℕ) → ReadBelow r mine up n → ReadBelow r (fuo_of r s answer ∷ mine) up n
read_fuo r s n answer mine up read k low member = read_on r s k (get_or up k 0) answer mine (read k low member)

-- who came late did
late_fuo : (r s p : ℕ) (answer : Answer) (mine : List Event) → came_late r p mine ≡ true → came_late r p (fuo_of r s answer ∷ mine) ≡ true
late_fuo r s p answer mine late = go ((r == r) && (is_some (proposal_number r mine) && not (is_member r p mine)))
  where
    go : (t : Bool) → (t || came_late r p mine) ≡ true
    go true = refl
    go false = late

level_fuo : (c : Config) (r b s : ℕ) (answer : Answer) (mine : List Event) (up : List ℕ) (reach : List (Option ℕ)) → Level c r b mine up reach → Level c r b (fuo_of r s answer ∷ mine) up reach
level_fuo c r b s answer mine up reach l = record {
  leads = leads_kept c r b r (Verb.Fuo s) answer mine refl l.leads;
  have = l.have;
  raised = raised_fuo r s c.replicas answer mine up reach l.raised;
  few = l.few;
}

behind_fuo : (c : Config) (r b s : ℕ) (answer : Answer) (mine : List Event) (up : List ℕ) (reach : List (Option ℕ)) (p : ℕ) (on : Then) → Behind c r b mine up reach p on → Behind c r b (fuo_of r s answer ∷ mine) up reach p on
behind_fuo c r b s answer mine up reach p on h = record {
  region = h.region;
  member = h.member;
  leads = leads_kept c r b r (Verb.Fuo s) answer mine refl h.leads;
  raised = h.raised;
  read = read_fuo r s c.replicas answer mine up h.read;
  clear = h.clear;
  have = h.have;
  few = h.few;
  late = λ joined. late_fuo r s p answer mine (h.late joined);
}

near_fuo : (c : Config) (r b s : ℕ) (answer : Answer) (mine : List Event) (up : List ℕ) (reach : List (Option ℕ)) (p : ℕ) (on : Then) → Near c r b mine up reach p on → Near c r b (fuo_of r s answer ∷ mine) up reach p on
near_fuo c r b s answer mine up reach p on h = record { behind = behind_fuo c r b s answer mine up reach p on h.behind; lacks = h.lacks; near = h.near }

stranger_fuo : (c : Config) (r b s : ℕ) (answer : Answer) (mine : List Event) (up : List ℕ) (reach : List (Option ℕ)) (p : ℕ) → Late c r b mine up reach p → Late c r b (fuo_of r s answer ∷ mine) up reach p
stranger_fuo c r b s answer mine up reach p l = record { region = l.region; stranger = l.stranger; level = level_fuo c r b s answer mine up reach l.level }

told_fuo : (c : Config) (r b s : ℕ) (answer : Answer) (mine : List Event) (up : List ℕ) (reach : List (Option ℕ)) (p : ℕ) → AtLateFuo c r b mine up reach p → AtLateFuo c r b (fuo_of r s answer ∷ mine) up reach p
told_fuo c r b s answer mine up reach p t = record { late = stranger_fuo c r b s answer mine up reach p t.late; granted = t.granted; told = t.told; low = t.low }

entering_fuo : (c : Config) (r b s : ℕ) (answer : Answer) (mine : List Event) (up : List ℕ) (reach : List (Option ℕ)) (p : ℕ) → AtLateEnter c r b mine up reach p → AtLateEnter c r b (fuo_of r s answer ∷ mine) up reach p
entering_fuo c r b s answer mine up reach p e = record {
  told = told_fuo c r b s answer mine up reach p e.told;
  short = e.short;
  raised = e.raised;
  read = read_on r s p (get_or up p 0) answer mine e.read;
  late = late_fuo r s p answer mine e.late;
}

looking_fuo : (c : Config) (r b s : ℕ) (answer : Answer) (mine : List Event) (up : List ℕ) (reach : List (Option ℕ)) (p : ℕ) (candidate : Option ℕ) (best : Option Sight) → IsPossible c r (fuo_of r s answer ∷ mine) → Looking c r b mine up reach p candidate best → Looking c r b (fuo_of r s answer ∷ mine) up reach p candidate best
looking_fuo c r b s answer mine up reach p candidate best possible l = record {
  level = level_fuo c r b s answer mine up reach l.level;
  roomy = roomy_more c r c.replicas (fuo_of r s answer) mine candidate possible refl refl l.roomy;
  looked = λ q low member. (let d = l.looked q low member in record { good = rw member d.good; last = d.last; clear = d.clear; empty = d.empty });
  shows = l.shows;
}

new_fuo : (c : Config) (r s i v : ℕ) (answer : Answer) (mine : List Event) → AreMet c r mine (new_values c r mine i v) → AreMet c r (fuo_of r s answer ∷ mine) (new_values c r (fuo_of r s answer ∷ mine) i v)
new_fuo c r s i v answer mine met =
    let n = (new_met c r mine i v).0 met in
    (new_met c r (fuo_of r s answer ∷ mine) i v).1 record { next = n.next; room = n.room; reserve_kept = n.reserve_kept; none_past = n.none_past; value = n.value }

offering_fuo : (c : Config) (r b v s : ℕ) (answer : Answer) (mine : List Event) (up : List ℕ) (reach : List (Option ℕ)) (p : ℕ) → Offering c r b v mine up reach p → Offering c r b v (fuo_of r s answer ∷ mine) up reach p
offering_fuo c r b v s answer mine up reach p o = record {
  begun = o.begun;
  goes_on = o.goes_on;
  numbered = o.numbered;
  carried = o.carried;
  held = λ q region member. (let h = o.held q region member in record { grant = h.grant; noted = h.noted; joined = h.joined });
  have = o.have;
  raised = raised_fuo r s c.replicas answer mine up reach o.raised;
  few = o.few;
  within = o.within;
  new = new_fuo c r s (end_of c r mine) v answer mine o.new;
  below = o.below;
  above = o.above;
  unput = o.unput;
}

-- the region is entered for its minimum
entering_min : (c : Config) (r b s : ℕ) (answer : Answer) (mine : List Event) (p : ℕ) → AtEnterMin c r b mine p → AtEnterMin c r b (fuo_of r s answer ∷ mine) p
entering_min c r b s answer mine p at = (let n = at.numbered in record {
  region = at.region;
  granted = at.granted;
  numbered = record { begun = n.begun; goes_on = n.goes_on; allowed = number_calm r (Verb.Fuo s) answer mine b (proposal_number r mine) refl n.allowed; confirmed = record { own = n.confirmed.own; many = n.confirmed.many }; told = n.told; low = n.low; unput = n.unput };
  below = record { joined = at.below.joined; held = λ q region member. (let h = at.below.held q region member in record { grant = h.grant; noted = h.noted; joined = h.joined }) };
})

-- each place
pub at_fuo : (c : Config) (r b s : ℕ) (answer : Answer) (mine : List Event) (up : List ℕ) (reach : List (Option ℕ)) (written : List ℕ) (place : Place) → leads_at place ≡ true → IsPossible c r (fuo_of r s answer ∷ mine) → At c r b mine up reach written place → At c r b (fuo_of r s answer ∷ mine) up reach written place
at_fuo c r b s answer mine up reach written (Place.ReadMin p) leading possible at = (let t = at.telling in record { region = at.region; granted = at.granted; telling = record { fresh = record { begun = t.fresh.begun; goes_on = t.fresh.goes_on; unnumbered = t.fresh.unnumbered; alone = t.fresh.alone; unput = t.fresh.unput }; confirmed = record { own = t.confirmed.own; many = t.confirmed.many }; told = t.told; low = t.low } })
at_fuo c r b s answer mine up reach written (Place.EnterMin p) leading possible at = entering_min c r b s answer mine p at
at_fuo c r b s answer mine up reach written (Place.PutMin p) leading possible at = record { entering = entering_min c r b s answer mine p at.entering; entered = at.entered; under = at.under }
at_fuo c r b s answer mine up reach written (Place.ReadFuo p source) leading possible at = record { region = at.region; member = at.member; leads = leads_kept c r b r (Verb.Fuo s) answer mine refl at.leads; raised = raised_fuo r s p answer mine up reach at.raised; unput = at.unput; from = source_calm c r r (Verb.Fuo s) answer mine source refl at.from; few = most_on r p mine (fuo_of r s answer ∷ mine) up source (λ q. refl) at.few }
at_fuo c r b s answer mine up reach written (Place.Learn p) leading possible at = record { region = at.region; member = at.member; leads = leads_kept c r b r (Verb.Fuo s) answer mine refl at.leads; raised = raised_fuo r s c.replicas answer mine up reach at.raised; unput = at.unput; lacks = at.lacks; few = at.few }
at_fuo c r b s answer mine up reach written (Place.WidenBehind p on) leading possible at = record { behind = behind_fuo c r b s answer mine up reach p on at.behind; lacks = at.lacks }
at_fuo c r b s answer mine up reach written (Place.LookBehind p on) leading possible at = near_fuo c r b s answer mine up reach p on at
at_fuo c r b s answer mine up reach written (Place.EnterBehind p on) leading possible at = record { near = near_fuo c r b s answer mine up reach p on at.near; looked = rw at.near.behind.member at.looked }
at_fuo c r b s answer mine up reach written (Place.PutBehind p on) leading possible at = record { near = near_fuo c r b s answer mine up reach p on at.near; entered = at.entered; under = at.under; looked = rw at.near.behind.member at.looked }
at_fuo c r b s answer mine up reach written (Place.RaiseBehind p on) leading possible at = record { behind = behind_fuo c r b s answer mine up reach p on at.behind; done = at.done }
at_fuo c r b s answer mine up reach written (Place.FenceBehind p on) leading possible at = (let past = at.past in record { near = near_fuo c r b s answer mine up reach p on at.near; past = record { since = fuo_of r s answer ∷ past.since; before = past.before; is = ap (λ x. fuo_of r s answer ∷ x) past.is; grant = past.grant; noted = past.noted; joined = past.joined; read = past.read; puts = past.puts } })
at_fuo c r b s answer mine up reach written (Place.LateFence p) leading possible at = stranger_fuo c r b s answer mine up reach p at
at_fuo c r b s answer mine up reach written (Place.LateMin p) leading possible at = record { late = stranger_fuo c r b s answer mine up reach p at.late; granted = at.granted }
at_fuo c r b s answer mine up reach written (Place.LateFuo p) leading possible at = told_fuo c r b s answer mine up reach p at
at_fuo c r b s answer mine up reach written (Place.LateEnter p) leading possible at = entering_fuo c r b s answer mine up reach p at
at_fuo c r b s answer mine up reach written (Place.LatePut p) leading possible at = record { entering = entering_fuo c r b s answer mine up reach p at.entering; entered = at.entered; under = at.under }
at_fuo c r b s answer mine up reach written (Place.ReadHead p candidate) leading possible at = record { region = at.region; unmarked = at.unmarked; level = level_fuo c r b s answer mine up reach at.level; roomy = roomy_more c r p (fuo_of r s answer) mine candidate possible refl refl at.roomy }
at_fuo c r b s answer mine up reach written (Place.Look p u candidate best) leading possible at = record { region = at.region; member = at.member; position = at.position; looking = looking_fuo c r b s answer mine up reach p candidate best possible at.looking }
at_fuo c r b s answer mine up reach written (Place.Write u last offer) leading possible at = (let w = at.0.writing in (record { writing = record { looking = looking_fuo c r b s answer mine up reach c.replicas None None possible w.looking; first = w.first; value = w.value; own = w.own; batch = record { batch = w.batch.batch; row = w.batch.row; next = w.batch.next }; last_row = w.last_row; from = w.from; to = w.to; below = w.below }; inside = at.0.inside }, at.1))
at_fuo c r b s answer mine up reach written (Place.Enter p offer) leading possible at = (let e = at.0 in (record { region = e.region; member = e.member; offering = offering_fuo c r b offer.value s answer mine up reach p e.offering; looked = λ q more region member. rw member (e.looked q more region member) }, shows_kept c r (end_of c r mine) r (Verb.Fuo s) answer mine offer.adopted refl at.1))
at_fuo c r b s answer mine up reach written (Place.Put p offer) leading possible at = (let e = at.0.entering in (record { entering = record { region = e.region; member = e.member; offering = offering_fuo c r b offer.value s answer mine up reach p e.offering; looked = λ q more region member. rw member (e.looked q more region member) }; entered = at.0.entered; under = at.0.under; looked_before = rw e.member at.0.looked_before }, shows_kept c r (end_of c r mine) r (Verb.Fuo s) answer mine offer.adopted refl at.1))
at_fuo c r b s answer mine up reach written (Place.Raise p) leading possible at = record { region = at.region; member = at.member; leads = leads_kept c r b r (Verb.Fuo s) answer mine refl at.leads; have = at.have; raised = raised_fuo r s p answer mine up reach at.raised; read = read_fuo r s c.replicas answer mine up at.read }
at_fuo c r b s answer mine up reach written Place.Outrun leading possible at = record { region = at.region; within = at.within; member = at.member; past = at.past }
at_fuo c r b s answer mine up reach written Place.Rest leading possible at = (record { all = at.0.all; members = at.0.members }, level_fuo c r b s answer mine up reach at.1)
at_fuo c r b s answer mine up reach written place leading possible at = absurd (true≢false (sym leading))
