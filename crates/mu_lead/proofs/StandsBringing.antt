-- What stands lasts along the listing while what is known is learnt and members are brought up.
use Rattle.mu_knowledge.proofs.Firsts.{first_in_is}
use Rattle.mu_knowledge.specs.Offers.{IsFirst}
use Rattle.mu_lead.proofs.Bringing.{behind_put, done_behind, enter_event, enters_behind, fences_behind, look_event, most_all, near_widened, put_event, put_known, puts_behind, raised_before, raised_behind, raised_read, read_all, reads_more}
use Rattle.mu_lead.proofs.Copying.{fuo_read_now}
use Rattle.mu_lead.proofs.Keeping.{fuo_event, leads_kept, most_on, most_up, raise_event, raised_now, source_calm}
use Rattle.mu_lead.proofs.Lates.{fence_ends, fence_event}
use Rattle.mu_lead.proofs.Sights.{outrun_by}
use Rattle.mu_lead.proofs.StandsOnward.{Ready, Stand, StandsAt, Stood, asks_anew, bring_stands, brought_stand, keeps, late_stands, learn_stands, ready}
use Rattle.mu_lead.proofs.StandsTables.{copy_tables, fuo_heads, fuo_others, fuo_rings, fuo_tables, raise_tables, up_others}
use Rattle.mu_lead.proofs.Writes.{four}
use Rattle.mu_lead.specs.Confirming.{IsEnteredNow}
use Rattle.mu_lead.specs.Journal.{fuo_in}
use Rattle.mu_lead.specs.Leading.{AtEnterBehind, AtFenceBehind, AtLearn, AtPutBehind, AtRaiseBehind, AtReadFuo, AtWiden, Behind, HasMost, HasPutNone, HaveFew, IsClear, IsDone, IsMember, Leads, Near, RaisedBelow, end_of}
use Rattle.mu_lead.specs.Listing.{Tables, after_copy, after_fuo, after_region, bring_up, farther, learn_from, member_from, or_else}
use Rattle.mu_lead.specs.declared.place.Place.{Place}
use Rattle.mu_lead.specs.declared.place.Then.{Then}
use Rattle.mu_model.proofs.Basics.{same_number, true_or}
use Rattle.mu_model.specs.Knowledge.{known}
use Rattle.mu_model.specs.Leaderships.{has_begun, is_member, is_over}
use Rattle.mu_model.specs.Parts.{IsPossible}
use Rattle.mu_model.specs.Picks.{is_past}
use Rattle.mu_model.specs.Placing.{is_within_ring}
use Rattle.mu_model.specs.declared.config.Config.{Config}
use Rattle.mu_model.specs.declared.event.Answer.{Answer}
use Rattle.mu_model.specs.declared.event.Event.{Event}
use Rattle.mu_model.specs.declared.event.Fence.{Fence}
use Rattle.mu_model.specs.declared.event.Target.{Target}
use Rattle.mu_model.specs.declared.event.Verb.{Verb}
use Rattle.mu_model.specs.Histories.{event_by}
use Rattle.std.proofs.Common.{Bool, List, None, Some, [], ap, arith, false, get_or, inl, inr, length, refl, subst, sym, true, true≢false, ℕ, ◌%◌, ◌+◌, ◌<◌, ◌∙◌, ◌∷◌, ◌≡◌, ◌≤◌}
use Rattle.std.proofs.lemmas.Bool.{cases_eq, lt-ltb, ltb-false, ltb-true}
use Rattle.std.proofs.lemmas.List.{get_or-set_same}
use Rattle.std.proofs.lemmas.Option.{slice_get-get_or}
use Rattle.std.specs.Prelude.{if◌then◌else◌, nat_lt, set}
use Rattle.std.specs.declared.option.Option.{Option}

-- of two regions the one that has more is a member, and has the most
pub farther_member : (c : Config) (r p : ℕ) (mine : List Event) (up : List ℕ) (source : Option ℕ) → IsMember c r mine source → p < c.replicas → is_member r p mine ≡ true → IsMember c r mine (Some (farther up source p))
farther_member c r p mine up None from region member = (region, member)
farther_member c r p mine up (Some q) from region member = go (nat_lt (get_or up q 0) (get_or up p 0))
  where
    go : (x : Bool) → IsMember c r mine (Some (if x then p else q))
    go true = (region, member)
    go false = from

pub farther_most : (r p : ℕ) (mine : List Event) (up : List ℕ) (source : Option ℕ) → HasMost r mine up p source → HasMost r mine up (p + 1) (Some (farther up source p))
farther_most r p mine up None few = (
  (omega arith),
  λ q low member. elim (cases_eq q p) [
    | inl same ↦ subst (λ x. get_or up x 0 ≤ get_or up p 0) (sym same) (omega arith)
    | inr other ↦ absurd (true≢false (sym member ∙ few q (omega (arith, low, other))))
  ],
)
farther_most r p mine up (Some s) few = go (nat_lt (get_or up s 0) (get_or up p 0)) refl
  where
    go : (x : Bool) → nat_lt (get_or up s 0) (get_or up p 0) ≡ x → HasMost r mine up (p + 1) (Some (if x then p else s))
    go true more = (
      (omega arith),
      λ q low member. elim (cases_eq q p) [
        | inl same ↦ subst (λ x. get_or up x 0 ≤ get_or up p 0) (sym same) (omega arith)
        | inr other ↦ (let at_most = few.1 q (omega (arith, low, other)) member in let above = ltb-true (get_or up s 0) (get_or up p 0) more in omega (arith, at_most, above))
      ],
    )
    go false less = (
      (let below = few.0 in omega (arith, below)),
      λ q low member. elim (cases_eq q p) [
        | inl same ↦ subst (λ x. get_or up x 0 ≤ get_or up s 0) (sym same) (ltb-false (get_or up s 0) (get_or up p 0) less)
        | inr other ↦ few.1 q (omega (arith, low, other)) member
      ],
    )

-- the next FUO is read, or what is known elsewhere is learnt
pub fuos_stand : (c : Config) (r b p source : ℕ) (now : List Event) (t : Tables) → Ready c r now t → Leads c r b now → RaisedBelow r now t.up t.reach (p + 1) → HasPutNone r now → IsMember c r now (Some source) → HasMost r now t.up (p + 1) (Some source)
    → StandsAt c r b now t (after_fuo c r now t p source)
fuos_stand c r b p source now t x leads raised unput from most = go (member_from c r now (p + 1)) (first_in_is (λ k. is_member r k now) (p + 1) c.replicas)
  where
    go : (o : Option ℕ) → IsFirst (λ k. is_member r k now) (p + 1) c.replicas o → StandsAt c r b now t (or_else o (λ q. Place.ReadFuo q (Some source)) (learn_from c r now t source))
    go (Some q) first = reads_more c r b p q (p + 1) source now t.up t.reach refl leads raised unput from most first
    go None none = learn_stands c r b source now t x leads (read_all c r p (p + 1) now t.up t.reach refl raised none) unput from (most_all c r p (p + 1) source now t.up refl most none)

-- the FUO of a member
pub fuo_stands : (c : Config) (r b p u : ℕ) (source : Option ℕ) (mine : List Event) (old : Tables) → Stand c r mine old → AtReadFuo c r b mine old.up old.reach p source → IsPossible c r (fuo_event r p u ∷ mine)
    → Stood c r b (fuo_event r p u ∷ mine) (four (set old.up p u) (fuo_in old.reach p u) old.heads old.written) (after_fuo c r (fuo_event r p u ∷ mine) (four (set old.up p u) (fuo_in old.reach p u) old.heads old.written) p (farther (set old.up p u) source p))
fuo_stands c r b p u source mine old s at possible =
    let now = fuo_event r p u ∷ mine in
    let region = at.region in
    let few = s.is.replicas.1 in
    let ups = s.tables.ups in
    let reaches = s.tables.reaches in
    let up = set old.up p u in
    let reach = fuo_in old.reach p u in
    let tables = fuo_tables c r p u mine old possible (omega (arith, region, few)) s.tables in
    let here : get_or up p 0 ≡ u = get_or-set_same old.up p u 0 (omega (arith, region, few, ups)) in
    let now_raised = raised_now p u up (get_or old.reach p None) reach (omega (arith, here)) (fuo_heads old.reach p u (omega (arith, region, few, reaches))) in
    let raised = raised_read c r b p u now old.up up old.reach reach (get_or old.reach p None) (raised_before r p u mine old.up old.reach at.raised) here (up_others old.up p u) (fuo_others old.reach p u) now_raised (fuo_read_now r p u (get_or up p 0) mine (omega (arith, here))) in
    record {
      tables = tables;
      at = fuos_stand c r b p (farther up source p) now (four up reach old.heads old.written) (ready c r mine now old (four up reach old.heads old.written) s possible tables) (leads_kept c r b r (Verb.Fuo p) (Answer.Number u) mine refl at.leads) raised at.unput
          (farther_member c r p now up source (source_calm c r r (Verb.Fuo p) (Answer.Number u) mine source refl at.from) at.region at.member)
          (farther_most r p now up source (most_up r p now old.up up source (up_others old.up p u) (most_on r p mine now old.up source (λ q. refl) at.few)));
    }

-- a look at the first unknown position
pub learning_stands : (c : Config) (r b p : ℕ) (a : Answer) (mine : List Event) (t : Tables) → Stand c r mine t → AtLearn c r b mine t.up t.reach p → IsPossible c r (look_event r p (end_of c r mine) a ∷ mine)
    → Stood c r b (look_event r p (end_of c r mine) a ∷ mine) t (if is_past a then Place.Outrun else learn_from c r (look_event r p (end_of c r mine) a ∷ mine) t p)
learning_stands c r b p a mine t s at possible =
    let e = look_event r p (end_of c r mine) a in
    let tables = keeps c r e mine t s possible refl refl in
    record { tables = tables; at = go (is_past a) refl (ready c r mine (e ∷ mine) t t s possible tables) }
  where
    go : (x : Bool) → is_past a ≡ x → Ready c r (look_event r p (end_of c r mine) a ∷ mine) t → StandsAt c r b (look_event r p (end_of c r mine) a ∷ mine) t (if x then Place.Outrun else learn_from c r (look_event r p (end_of c r mine) a ∷ mine) t p)
    go true past x = outrun_by c r p (end_of c r mine) a mine at.region at.member past refl
    go false not_past x = learn_stands c r b p (look_event r p (end_of c r mine) a ∷ mine) t x (leads_kept c r b r (Verb.Look p (end_of c r mine)) a mine refl at.leads) at.raised at.unput (at.region, at.member) at.few

-- the FUO of a region that is brought up was raised
pub widening_stands : (c : Config) (r b p : ℕ) (on : Then) (mine : List Event) (old : Tables) → Stand c r mine old → AtWiden c r b mine old.up old.reach p on → IsPossible c r (raise_event r p (get_or old.up p 0) ∷ mine)
    → Stood c r b (raise_event r p (get_or old.up p 0) ∷ mine) (four old.up (fuo_in old.reach p (get_or old.up p 0)) old.heads old.written) (Place.LookBehind p on)
widening_stands c r b p on mine old s at possible =
    let u = get_or old.up p 0 in
    let region = at.behind.region in
    let few = s.is.replicas.1 in
    let reaches = s.tables.reaches in
    let ring = s.is.ring.0 in
    record {
      tables = raise_tables c r p u mine old possible (omega (arith, region, few)) s.tables;
      at = near_widened c r b p mine old.up old.reach (fuo_in old.reach p u) on at (fuo_others old.reach p u)
          (fuo_rings old.reach p u (omega (arith, region, few, reaches)) u c.ring ∙ true_or (is_within_ring u c.ring (Some u)) (is_within_ring u c.ring (get_or old.reach p None)) (lt-ltb u (u + c.ring) (omega (arith, ring))));
    }

-- a look at what it lacks
pub look_behind_stands : (c : Config) (r b p : ℕ) (on : Then) (a : Answer) (mine : List Event) (t : Tables) → Stand c r mine t → Near c r b mine t.up t.reach p on → IsPossible c r (look_event r p (get_or t.up p 0) a ∷ mine)
    → Stood c r b (look_event r p (get_or t.up p 0) a ∷ mine) t (if is_past a then Place.FenceBehind p on else Place.EnterBehind p on)
look_behind_stands c r b p on a mine t s at possible = record { tables = keeps c r (look_event r p (get_or t.up p 0) a) mine t s possible refl refl; at = go (is_past a) refl }
  where
    go : (x : Bool) → is_past a ≡ x → StandsAt c r b (look_event r p (get_or t.up p 0) a ∷ mine) t (if x then Place.FenceBehind p on else Place.EnterBehind p on)
    go true past = fences_behind c r b p a mine t.up t.reach on at past
    go false not_past = enters_behind c r b p a mine t.up t.reach on at not_past

-- an `Enter` of any region that was lost
pub lost_stands : (c : Config) (r b p : ℕ) (target : Target) (f : Fence) (mine : List Event) (t : Tables) → Stand c r mine t → IsPossible c r (event_by r (Verb.Enter p target) (Answer.Lost f) ∷ mine) → Stood c r b (event_by r (Verb.Enter p target) (Answer.Lost f) ∷ mine) t (Place.Ask 0)
lost_stands c r b p target f mine t s possible = record { tables = keeps c r (event_by r (Verb.Enter p target) (Answer.Lost f)) mine t s possible refl refl; at = asks_anew c r b (event_by r (Verb.Enter p target) (Answer.Lost f) ∷ mine) t s.inside }

-- it was entered for what it lacks
pub entered_behind_stands : (c : Config) (r b p : ℕ) (on : Then) (mine : List Event) (t : Tables) → Stand c r mine t → AtEnterBehind c r b mine t.up t.reach p on → IsPossible c r (enter_event r p (get_or t.up p 0 % c.ring) ∷ mine)
    → Stood c r b (enter_event r p (get_or t.up p 0 % c.ring) ∷ mine) t (Place.PutBehind p on)
entered_behind_stands c r b p on mine t s at possible = record { tables = keeps c r (enter_event r p (get_or t.up p 0 % c.ring)) mine t s possible refl refl; at = puts_behind c r b p mine t.up t.reach on at }

-- a put of an entry that missed
pub missed_slot_stands : (c : Config) (r b p i v : ℕ) (mine : List Event) (t : Tables) → Stand c r mine t → p < c.replicas → has_begun r mine ≡ true → IsEnteredNow r p mine → IsPossible c r (event_by r (Verb.PutSlot p i b v) Answer.Missed ∷ mine)
    → Stood c r b (event_by r (Verb.PutSlot p i b v) Answer.Missed ∷ mine) t (Place.Evidence p)
missed_slot_stands c r b p i v mine t s region begun under possible = record {
  tables = keeps c r (event_by r (Verb.PutSlot p i b v) Answer.Missed) mine t s possible refl refl;
  at = record { region = region; begun = begun; missed = record { since = []; put = event_by r (Verb.PutSlot p i b v) Answer.Missed; before = mine; is = refl; missed = same_number p; under = under } };
}

-- the next entry is put, or the FUO is raised
pub after_copy_stands : (c : Config) (r b p : ℕ) (on : Then) (now : List Event) (t : Tables) → Behind c r b now t.up t.reach p on → get_or t.up p 0 ≤ end_of c r now → StandsAt c r b now t (after_copy c r now t.up t.reach p on)
after_copy_stands c r b p on now t behind low = go (nat_lt (get_or t.up p 0) (end_of c r now)) refl
  where
    go : (x : Bool) → nat_lt (get_or t.up p 0) (end_of c r now) ≡ x → StandsAt c r b now t (if x then bring_up c t.up t.reach p on else Place.RaiseBehind p on)
    go true more = bring_stands c r b p now t on (record { behind = behind; lacks = ltb-true (get_or t.up p 0) (end_of c r now) more })
    go false less = record { behind = behind; done = (let high = ltb-false (get_or t.up p 0) (end_of c r now) less in omega (arith, low, high)) }

-- an entry was put there
pub copied_stands : (c : Config) (r b p : ℕ) (on : Then) (mine : List Event) (old : Tables) → Stand c r mine old → AtPutBehind c r b mine old.up old.reach p on → IsPossible c r (put_event r p (get_or old.up p 0) b (get_or (known c r mine) (get_or old.up p 0) 0) ∷ mine)
    → Stood c r b (put_event r p (get_or old.up p 0) b (get_or (known c r mine) (get_or old.up p 0) 0) ∷ mine) (four (set old.up p (get_or old.up p 0 + 1)) old.reach old.heads old.written)
    (after_copy c r (put_event r p (get_or old.up p 0) b (get_or (known c r mine) (get_or old.up p 0) 0) ∷ mine) (set old.up p (get_or old.up p 0 + 1)) old.reach p on)
copied_stands c r b p on mine old s at possible =
    let u = get_or old.up p 0 in
    let v = get_or (known c r mine) u 0 in
    let now = put_event r p u b v ∷ mine in
    let lacks = at.near.lacks in
    let behind = at.near.behind in
    let region = behind.region in
    let few = s.is.replicas.1 in
    let ups = s.tables.ups in
    let up = set old.up p (u + 1) in
    let here : get_or up p 0 ≡ u + 1 = get_or-set_same old.up p (u + 1) 0 (omega (arith, region, few, ups)) in
    let same = ap length (put_known c r p u b v mine lacks) in
    record {
      tables = copy_tables c r b p u v mine old possible (omega (arith, region, few)) lacks (slice_get-get_or (known c r mine) u 0 lacks) refl s.tables;
      at = after_copy_stands c r b p on now (four up old.reach old.heads old.written) (behind_put c r b v p u mine old.up up old.reach on lacks (up_others old.up p (u + 1)) refl here behind) (omega (arith, here, lacks, same));
    }

-- it has all that is known
pub raised_behind_stands : (c : Config) (r b p : ℕ) (on : Then) (mine : List Event) (old : Tables) → Stand c r mine old → AtRaiseBehind c r b mine old.up old.reach p on → IsPossible c r (raise_event r p (get_or old.up p 0) ∷ mine)
    → Stood c r b (raise_event r p (get_or old.up p 0) ∷ mine) (four old.up (fuo_in old.reach p (get_or old.up p 0)) old.heads old.written)
    (after_region c r (raise_event r p (get_or old.up p 0) ∷ mine) (four old.up (fuo_in old.reach p (get_or old.up p 0)) old.heads old.written) p on)
raised_behind_stands c r b p on mine old s at possible =
    let u = get_or old.up p 0 in
    let now = raise_event r p u ∷ mine in
    let region = at.behind.region in
    let few = s.is.replicas.1 in
    let reaches = s.tables.reaches in
    let reach = fuo_in old.reach p u in
    let t = four old.up reach old.heads old.written in
    let tables = raise_tables c r p u mine old possible (omega (arith, region, few)) s.tables in
    let now_raised = raised_now p u old.up (get_or old.reach p None) reach (omega arith) (fuo_heads old.reach p u (omega (arith, region, few, reaches))) in
    let raised = raised_behind c r b p mine old.up old.reach reach on at (fuo_others old.reach p u) now_raised in
    let leads = leads_kept c r b r (Verb.RaiseFuo p u) Answer.Done mine refl at.behind.leads in
    record {
      tables = tables;
      at = region_stands c r b p on now t (ready c r mine now old t s possible tables) leads raised at.behind.clear (done_behind c r b p (p + 1) mine old.up old.reach on refl at) at.behind.few;
    }
  where
    region_stands : (c : Config) (r b p : ℕ) (on : Then) (now : List Event) (t : Tables) → Ready c r now t → Leads c r b now → RaisedBelow r now t.up t.reach c.replicas → IsClear r now t.up
        → ((k : ℕ) → k < c.replicas → is_member r k now ≡ true → IsDone on k (p + 1) → end_of c r now ≤ get_or t.up k 0) → HaveFew c r now t.up on (p + 1) → StandsAt c r b now t (after_region c r now t p on)
    region_stands c r b p Then.Joined now t x leads raised clear done few = late_stands c r b (p + 1) now t x (record { leads = leads; have = λ k region member. done k region member tt; raised = raised; few = λ k region member. (few k region member).0 })
    region_stands c r b p Then.Late now t x leads raised clear done few = brought_stand c r b (p + 1) now t Then.Late x leads raised clear done few (λ is. cc)
    region_stands c r b p Then.Position now t x leads raised clear done few = brought_stand c r b (p + 1) now t Then.Position x leads raised clear done few (λ is. cc)

-- what it lacks was overwritten
pub fenced_behind_stands : (c : Config) (r b p : ℕ) (f : Fence) (on : Then) (mine : List Event) (t : Tables) → Stand c r mine t → AtFenceBehind c r b mine t.up t.reach p on → IsPossible c r (fence_event r p f ∷ mine)
    → Stood c r b (fence_event r p f ∷ mine) t (if is_over r (fence_event r p f ∷ mine) then Place.Ask 0 else Place.LookBehind p on)
fenced_behind_stands c r b p f on mine t s at possible = record {
  tables = keeps c r (fence_event r p f) mine t s possible refl refl;
  at = subst (λ x. StandsAt c r b (fence_event r p f ∷ mine) t (if x then Place.Ask 0 else Place.LookBehind p on)) (sym (fence_ends c r p (get_or t.up p 0) f mine possible at.near.behind.region at.past)) (asks_anew c r b (fence_event r p f ∷ mine) t s.inside);
}
