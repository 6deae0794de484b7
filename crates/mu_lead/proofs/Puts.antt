-- Puts at a new position, and what was committed.
use Rattle.std.proofs.Common.{Bool, List, None, Some, [], ap, arith, cond, eq-eqb, eqb-true, false, get_or, inl, inr, is_some, length, length-append, refl, suc, subst, sym, true, true≢false, zero, ℕ, ◌%◌, ◌&&◌, ◌+◌, ◌++◌, ◌<◌, ◌==◌, ◌||◌, ◌∙◌, ◌∷◌, ◌≡◌, ◌≢◌, ◌≤◌}
use Rattle.std.specs.Prelude.{nat_lt, not}
use Rattle.std.specs.List.{slice_get}
use Rattle.std.specs.declared.option.Option.{Option}
use Rattle.std.proofs.lemmas.Bool.{and_from, and_parts, cases_eq, cases_lt, ne_eqb}
use Rattle.mu_model.specs.declared.config.Config.{Config}
use Rattle.mu_model.specs.declared.event.Answer.{Answer}
use Rattle.mu_model.specs.declared.event.Event.{Event}
use Rattle.mu_model.specs.declared.event.Verb.{Verb}
use Rattle.mu_model.specs.Allowed.{Needs}
use Rattle.mu_model.specs.Contents.{marked, row_count}
use Rattle.mu_model.specs.Histories.{all_below, earlier_or, has, newer_or, oldest, event_by}
use Rattle.mu_model.specs.Knowledge.{fills, greatest_fuo_read, grown, is_accepted_by_all, is_filled, is_number, is_put_done, is_value, known, lands_entry}
use Rattle.mu_model.specs.Leaderships.{begins_leadership, grant_at_joining, has_quorum, is_member, is_over, leadership, noted_grant, proposal_number}
use Rattle.mu_model.specs.Parts.{IsPossible}
use Rattle.mu_model.specs.Picks.{first_value, is_joining, joined_since_first_put, may_propose, value_put}
use Rattle.mu_model.specs.Placing.{is_caught_up_at, is_known_put, has_looked_since}
use Rattle.mu_model.specs.Points.{AreMet, new_values}
use Rattle.mu_model.specs.Room.{last_head, reserve}
use Rattle.mu_model.proofs.Basics.{or_true, same_number, true_or}
use Rattle.mu_model.proofs.Lists.{get_push_here}
use Rattle.mu_model.proofs.Scans.{each_all}
use Rattle.mu_agree.proofs.Landings.{has_implied, has_more}
use Rattle.mu_agree.proofs.Possible.{parts_shorten_law}
use Rattle.mu_lead.specs.Confirming.{HasGrant, HoldsGrants}
use Rattle.mu_lead.specs.Leading.{AtRaise, Brought, HaveAtMost, HaveBelow, HoldsTables, IsRaised, IsRead, Level, end_of}
use Rattle.mu_lead.specs.Offering.{AtEnter, AtPut, Offering, took}
use Rattle.mu_knowledge.specs.Offers.{IsFirst}
use Rattle.mu_lead.proofs.Bringing.{enter_event, looked_then, put_event}
use Rattle.mu_lead.proofs.Copying.{read_less}
use Rattle.mu_lead.proofs.Keeping.{leads_kept, raise_event, raised_other}
use Rattle.mu_lead.proofs.Tables.{brought_kept, caught_up_with}
use Rattle.mu_lead.proofs.Looks.{four, either_way, earlier_none}
use Rattle.mu_model.proofs.Putting.{new_met}

held_same : (c : Config) (r : ℕ) (e : Event) (mine : List Event) → HoldsGrants c r mine → ((q : ℕ) → HasGrant r q mine → HasGrant r q (e ∷ mine)) → ((q : ℕ) → is_member r q (e ∷ mine) ≡ true → is_member r q mine ≡ true) → HoldsGrants c r (e ∷ mine)
held_same c r e mine held on was q region member = on q (held q region (was q member))

new_entered : (c : Config) (r p s i v : ℕ) (mine : List Event) → AreMet c r mine (new_values c r mine i v) → AreMet c r (enter_event r p s ∷ mine) (new_values c r (enter_event r p s ∷ mine) i v)
new_entered c r p s i v mine met =
    let n = (new_met c r mine i v).0 met in
    (new_met c r (enter_event r p s ∷ mine) i v).1 record { next = n.next; room = n.room; reserve_kept = n.reserve_kept; none_past = n.none_past; value = n.value }

looked_on : (c : Config) (r p s q i : ℕ) (mine : List Event) → is_member r q mine ≡ true → has_looked_since c r q i mine ≡ true → has_looked_since c r q i (enter_event r p s ∷ mine) ≡ true
looked_on c r p s q i mine member looked = rw member looked

-- the region is entered for the offer
pub puts_new : (c : Config) (r b v p : ℕ) (mine : List Event) (up : List ℕ) (reach : List (Option ℕ)) → AtEnter c r b v mine up reach p → AtPut c r b v (enter_event r p (end_of c r mine % c.ring) ∷ mine) up reach p
puts_new c r b v p mine up reach at =
    let o = at.offering in
    let s = end_of c r mine % c.ring in
    record {
      entering = record {
        region = at.region;
        member = at.member;
        offering = record {
          begun = o.begun;
          goes_on = o.goes_on;
          numbered = o.numbered;
          carried = o.carried;
          held = held_same c r (enter_event r p s) mine o.held (λ q h. record { grant = h.grant; noted = h.noted; joined = h.joined }) (λ q member. member);
          have = o.have;
          raised = o.raised;
          few = o.few;
          within = o.within;
          new = new_entered c r p s (end_of c r mine) v mine o.new;
          below = o.below;
          above = o.above;
          unput = o.unput;
        };
        looked = λ q from region member. looked_on c r p s q (end_of c r mine) mine member (at.looked q from region member);
      };
      entered = rw (same_number r, same_number p) refl;
      under = rw (same_number r, same_number p) refl;
      looked_before = looked_then c r p s (end_of c r mine) mine at.member (at.looked p (omega arith) at.region at.member);
    }

pub all_fails : (n q : ℕ) (f : ℕ → Bool) → q < n → f q ≡ false → all_below n f ≡ false
all_fails zero q f low fails = absurd (omega arith)
all_fails (suc n) q f low fails = elim (cases_lt q n) [
  | inl less ↦ rw (all_fails n q f less fails) (and_none (f n))
  | inr more ↦ (let same : q ≡ n = omega arith in rw (subst (λ x. f x ≡ false) same fails) refl)
]
  where
    and_none : (t : Bool) → (t && false) ≡ false
    and_none true = refl
    and_none false = refl

took_now : (r p i b v : ℕ) (mine : List Event) → took r p i b v (put_event r p i b v ∷ mine) ≡ true
took_now r p i b v mine = rw (same_number r, same_number p, same_number i, same_number b, same_number v) refl

took_other : (r p q i b v : ℕ) (mine : List Event) → p ≢ q → took r q i b v (put_event r p i b v ∷ mine) ≡ took r q i b v mine
took_other r p q i b v mine other = rw (same_number r, ne_eqb p q other) refl

took_still : (r p q i b v : ℕ) (mine : List Event) → took r q i b v mine ≡ true → took r q i b v (put_event r p i b v ∷ mine) ≡ true
took_still r p q i b v mine is = has_more (lands_entry r q i b v) (put_event r p i b v) (leadership r mine) is

and_three : (a b d e : Bool) → e ≡ false → (a && (b && (d && e))) ≡ false
and_three true true true e none = none
and_three true true false e none = refl
and_three true false d e none = refl
and_three false b d e none = refl

-- a member that took nothing keeps the entry from being known
pub not_accepted : (c : Config) (r p q i b v : ℕ) (mine : List Event) → q < c.replicas → is_member r q mine ≡ true → p ≢ q → took r q i b v mine ≡ false → is_accepted_by_all c r (put_event r p i b v ∷ mine) i b v ≡ false
not_accepted c r p q i b v mine region member other none =
    and_three (not (is_over r mine)) (is_number (proposal_number r mine) b) (has_quorum c r mine) (all_below c.replicas (λ k. not (is_member r k mine) || took r k i b v (put_event r p i b v ∷ mine)))
    (all_fails c.replicas q (λ k. not (is_member r k mine) || took r k i b v (put_event r p i b v ∷ mine)) region (rw (member, took_other r p q i b v mine other) none))

none_learnt : (values : List ℕ) (v : ℕ) (t s u : Bool) → u ≡ false → grown values (cond (t && (s && u)) (Some v) None) ≡ values
none_learnt values v true true u none = rw none refl
none_learnt values v true false u none = refl
none_learnt values v false s u none = refl

one_learnt : (values : List ℕ) (v : ℕ) (t s u : Bool) → t ≡ true → s ≡ true → u ≡ true → grown values (cond (t && (s && u)) (Some v) None) ≡ values ++ v ∷ []
one_learnt values v t s u a b d = rw (a, b, d) refl

pub known_same : (c : Config) (r p q i b v : ℕ) (mine : List Event) → q < c.replicas → is_member r q mine ≡ true → p ≢ q → took r q i b v mine ≡ false → known c r (put_event r p i b v ∷ mine) ≡ known c r mine
known_same c r p q i b v mine region member other none =
    none_learnt (known c r mine) v (r == r) (i == length (known c r mine)) (is_accepted_by_all c r (put_event r p i b v ∷ mine) i b v) (not_accepted c r p q i b v mine region member other none)

is_number_at : (o : Option ℕ) (b : ℕ) → o ≡ Some b → is_number o b ≡ true
is_number_at o b is = rw is (same_number b)

-- the last put makes the entry known
pub known_more : (c : Config) (r b v p : ℕ) (mine : List Event) (up : List ℕ) (reach : List (Option ℕ)) → Offering c r b v mine up reach p
    → ((q : ℕ) → q < c.replicas → is_member r q mine ≡ true → took r q (end_of c r mine) b v (put_event r p (end_of c r mine) b v ∷ mine) ≡ true)
    → known c r (put_event r p (end_of c r mine) b v ∷ mine) ≡ known c r mine ++ v ∷ []
known_more c r b v p mine up reach o all =
    let i = end_of c r mine in
    one_learnt (known c r mine) v (r == r) (i == length (known c r mine)) (is_accepted_by_all c r (put_event r p i b v ∷ mine) i b v) (same_number r) (same_number i)
    (four (not (is_over r mine)) (is_number (proposal_number r mine) b) (has_quorum c r mine) (all_below c.replicas (λ q. not (is_member r q mine) || took r q i b v (put_event r p i b v ∷ mine)))
    (ap not o.goes_on) (is_number_at (proposal_number r mine) b o.numbered) o.carried
    (each_all c.replicas (λ q. not (is_member r q mine) || took r q i b v (put_event r p i b v ∷ mine)) (λ q region. either_way (is_member r q mine) (took r q i b v (put_event r p i b v ∷ mine)) (all q region))))

-- without a put no region joined since the first one
none_joined : (r i : ℕ) (mine : List Event) → first_value r i mine ≡ None → joined_since_first_put r i mine ≡ false
none_joined r i [] is = refl
none_joined r i (e ∷ mine) is = go (begins_leadership r e) refl is (none_joined r i mine)
  where
    go : (t : Bool) → begins_leadership r e ≡ t → oldest (λ f. value_put r i f.by f.verb) (cond t [] (e ∷ leadership r mine)) ≡ None → (first_value r i mine ≡ None → joined_since_first_put r i mine ≡ false)
        → cond t false (cond (is_joining r mine e.by e.verb e.answer && is_some (first_value r i mine)) true (joined_since_first_put r i mine)) ≡ false
    go true at is before = refl
    go false at is before =
        let none = earlier_none (value_put r i e.by e.verb) (first_value r i mine) is in
        rw none (and_none (is_joining r mine e.by e.verb e.answer) (before none))
      where
        and_none : (t : Bool) → joined_since_first_put r i mine ≡ false → cond (t && false) true (joined_since_first_put r i mine) ≡ false
        and_none true is = is
        and_none false is = is

proposed_on : (c : Config) (r p i b v : ℕ) (mine : List Event) (o : Option ℕ) → first_value r i mine ≡ o → may_propose c r mine i v o ≡ true → may_propose c r (put_event r p i b v ∷ mine) i v (earlier_or (Some v) o) ≡ true
proposed_on c r p i b v mine None is may = rw (same_number v) (ap not (none_joined r i mine is))
proposed_on c r p i b v mine (Some f) is may = may

leaves_as : (c : Config) (r : ℕ) (mine : List Event) (values : List ℕ) (i free : ℕ) → known c r mine ≡ values → all_below c.replicas (λ q. marked c q (known c r mine) || nat_lt (i + free) (last_head r q mine + c.ring)) ≡ true
    → all_below c.replicas (λ q. marked c q values || nat_lt (i + free) (last_head r q mine + c.ring)) ≡ true
leaves_as c r mine values i free same is = subst (λ xs. all_below c.replicas (λ q. marked c q xs || nat_lt (i + free) (last_head r q mine + c.ring)) ≡ true) same is

new_put : (c : Config) (r p i b v : ℕ) (mine : List Event) → known c r (put_event r p i b v ∷ mine) ≡ known c r mine → AreMet c r mine (new_values c r mine i v) → AreMet c r (put_event r p i b v ∷ mine) (new_values c r (put_event r p i b v ∷ mine) i v)
new_put c r p i b v mine same met =
    let n = (new_met c r mine i v).0 met in
    (new_met c r (put_event r p i b v ∷ mine) i v).1 record {
      next = n.next ∙ sym (ap length same);
      room = leaves_as c r mine (known c r (put_event r p i b v ∷ mine)) i 0 (sym same) n.room;
      reserve_kept = λ fresh. leaves_as c r mine (known c r (put_event r p i b v ∷ mine)) i (reserve c) (sym same) (n.reserve_kept fresh);
      none_past = n.none_past;
      value = rw (same_number r, same_number i) (proposed_on c r p i b v mine (first_value r i mine) refl n.value);
    }

looked_put : (c : Config) (r p i b v q : ℕ) (mine : List Event) → is_member r q mine ≡ true → p ≢ q → has_looked_since c r q i mine ≡ true → has_looked_since c r q i (put_event r p i b v ∷ mine) ≡ true
looked_put c r p i b v q mine member other looked = rw (member, same_number r, ne_eqb p q other) looked

below_put : (c : Config) (r b v p q : ℕ) (mine : List Event) (up : List ℕ) (reach : List (Option ℕ)) → Offering c r b v mine up reach p → ((k : ℕ) → p + 1 ≤ k → k < q → is_member r k mine ≡ false)
    → (k : ℕ) → k < q → is_member r k mine ≡ true → took r k (end_of c r mine) b v (put_event r p (end_of c r mine) b v ∷ mine) ≡ true
below_put c r b v p q mine up reach o none k low member = elim (cases_eq k p) [
  | inl same ↦ subst (λ x. took r x (end_of c r mine) b v (put_event r p (end_of c r mine) b v ∷ mine) ≡ true) (sym same) (took_now r p (end_of c r mine) b v mine)
  | inr other ↦ elim (cases_lt k p) [
    | inl less ↦ took_still r p k (end_of c r mine) b v mine (o.below k less member)
    | inr more ↦ absurd (true≢false (sym member ∙ none k (omega (arith, more, other)) low))
  ]
]

-- the next member is entered
pub enters_next : (c : Config) (r b v p q from : ℕ) (mine : List Event) (up : List ℕ) (reach : List (Option ℕ)) → AtPut c r b v mine up reach p → from ≡ p + 1 → IsFirst (λ k. is_member r k mine) from c.replicas (Some q)
    → AtEnter c r b v (put_event r p (end_of c r mine) b v ∷ mine) up reach q
enters_next c r b v p q from mine up reach at is first =
    let o = at.entering.offering in
    let i = end_of c r mine in
    let other : p ≢ q = (λ same. (let low = first.0 in omega (arith, low, is, same))) in
    let same = known_same c r p q i b v mine first.1 first.2 other (o.above q (let low = first.0 in omega (arith, low, is))) in
    let none = λ (k : ℕ) (more : p + 1 ≤ k) (low : k < q). first.3 k (omega (arith, more, is)) low in
    record {
      region = first.1;
      member = first.2;
      offering = record {
        begun = o.begun;
        goes_on = o.goes_on;
        numbered = o.numbered;
        carried = o.carried;
        held = held_same c r (put_event r p i b v) mine o.held (λ k h. record { grant = h.grant; noted = h.noted; joined = h.joined }) (λ k member. member);
        have = subst (λ values. HaveBelow r mine up c.replicas (length values)) (sym same) o.have;
        raised = o.raised;
        few = subst (λ values. HaveAtMost c r mine up (length values)) (sym same) o.few;
        within = subst (λ values. length values ≤ row_count c + reserve c) (sym same) o.within;
        new = subst (λ x. AreMet c r (put_event r p i b v ∷ mine) (new_values c r (put_event r p i b v ∷ mine) x v)) (sym (ap length same)) (new_put c r p i b v mine same o.new);
        below = subst (λ x. (k : ℕ) → k < q → is_member r k mine ≡ true → took r k x b v (put_event r p i b v ∷ mine) ≡ true) (sym (ap length same)) (below_put c r b v p q mine up reach o none);
        above = subst (λ x. (k : ℕ) → q ≤ k → took r k x b v (put_event r p i b v ∷ mine) ≡ false) (sym (ap length same))
            (λ k more. took_other r p k i b v mine (λ e. (let low = first.0 in omega (arith, low, is, e, more))) ∙ o.above k (let low = first.0 in omega (arith, low, is, more)));
        unput = subst (λ x. (k : ℕ) → x < k → first_value r k (put_event r p i b v ∷ mine) ≡ None) (sym (ap length same))
            (λ k more. rw (same_number r, ne_eqb i k (λ e. absurd (omega (arith, more, e)))) (o.unput k more));
      };
      looked = subst (λ x. (k : ℕ) → q ≤ k → k < c.replicas → is_member r k mine ≡ true → has_looked_since c r k x (put_event r p i b v ∷ mine) ≡ true) (sym (ap length same))
          (λ k more region member. looked_put c r p i b v k mine member (λ e. (let low = first.0 in omega (arith, low, is, e, more))) (at.entering.looked k (let low = first.0 in omega (arith, low, is, more)) region member));
    }

-- all members took the value
pub took_all : (c : Config) (r b v p from : ℕ) (mine : List Event) (up : List ℕ) (reach : List (Option ℕ)) → AtPut c r b v mine up reach p → from ≡ p + 1 → IsFirst (λ k. is_member r k mine) from c.replicas None
    → (k : ℕ) → k < c.replicas → is_member r k mine ≡ true → took r k (end_of c r mine) b v (put_event r p (end_of c r mine) b v ∷ mine) ≡ true
took_all c r b v p from mine up reach at is none = below_put c r b v p c.replicas mine up reach at.entering.offering (λ k more low. none k (omega (arith, more, is)) low)

put_is_known : (values : List ℕ) (r q i b v by : ℕ) (verb : Verb) (answer : Answer) → is_value (slice_get values i) v ≡ true → is_put_done r q i b v by verb answer ≡ true → is_known_put values r q i by verb answer ≡ true
put_is_known values r q i b v by (Verb.PutSlot p j n x) Answer.Done at is =
    let f = and_parts (by == r) ((p == q) && ((j == i) && ((n == b) && (x == v)))) is in
    let g = and_parts (p == q) ((j == i) && ((n == b) && (x == v))) f.1 in
    let k = and_parts (j == i) ((n == b) && (x == v)) g.1 in
    let l = and_parts (n == b) (x == v) k.1 in
    rw (f.0, g.0, k.0) (subst (λ y. is_value (slice_get values i) y ≡ true) (sym (eqb-true x v l.1)) at)
put_is_known values r q i b v by verb answer at is = absurd (true≢false (sym is))

-- each member has the entry that was committed
pub brought_committed : (c : Config) (r b v p q : ℕ) (mine : List Event) → known c r (put_event r p (end_of c r mine) b v ∷ mine) ≡ known c r mine ++ v ∷ [] → Brought c r mine q (end_of c r mine)
    → took r q (end_of c r mine) b v (put_event r p (end_of c r mine) b v ∷ mine) ≡ true → Brought c r (put_event r p (end_of c r mine) b v ∷ mine) q (end_of c r mine + 1)
brought_committed c r b v p q mine more old took_it =
    let i = end_of c r mine in
    let e = put_event r p i b v in
    let still = brought_kept c r q i e mine refl old in
    let long : length (known c r (e ∷ mine)) ≡ i + 1 = ap length more ∙ length-append (known c r mine) (v ∷ []) in
    let value : is_value (slice_get (known c r mine ++ v ∷ []) i) v ≡ true = ap (λ o. is_value o v) (get_push_here (known c r mine) i v refl) ∙ same_number v in
    record {
      caught_up = λ j low. elim (cases_eq j i) [
        | inl same ↦ subst (λ x. is_caught_up_at c r q (e ∷ mine) x ≡ true) (sym same)
            (subst (λ values. caught_up_with values r q (e ∷ leadership r mine) i ≡ true) (sym more)
            (or_true (nat_lt i (greatest_fuo_read r q (leadership r mine))) (has (λ f. is_known_put (known c r mine ++ v ∷ []) r q i f.by f.verb f.answer) (e ∷ leadership r mine))
            (has_implied (lands_entry r q i b v) (λ f. is_known_put (known c r mine ++ v ∷ []) r q i f.by f.verb f.answer) (λ f lands. put_is_known (known c r mine ++ v ∷ []) r q i b v f.by f.verb f.answer value lands) (e ∷ leadership r mine) took_it)))
        | inr other ↦ still.caught_up j (omega (arith, low, other))
      ];
      filled = λ j low. elim (cases_eq j i) [
        | inl same ↦ subst (λ x. is_filled c r q (e ∷ mine) x ≡ true) (sym same)
            (true_or (fills c r q i mine r (Verb.PutSlot p i b v) Answer.Done (e ∷ mine)) (is_filled c r q mine i) (fills_now long))
        | inr other ↦ still.filled j (omega (arith, low, other))
      ];
    }
  where
    fills_now : length (known c r (put_event r p (end_of c r mine) b v ∷ mine)) ≡ end_of c r mine + 1
        → fills c r q (end_of c r mine) mine r (Verb.PutSlot p (end_of c r mine) b v) Answer.Done (put_event r p (end_of c r mine) b v ∷ mine) ≡ true
    fills_now long =
        let i = end_of c r mine in
        and_from (r == r) (((p == q) && ((i == i) && is_value (slice_get (known c r mine) i) v)) || ((length (known c r mine) == i) && ((length (known c r (put_event r p i b v ∷ mine)) == i + 1) && took r q i b v (put_event r p i b v ∷ mine)))) (same_number r)
        (or_true ((p == q) && ((i == i) && is_value (slice_get (known c r mine) i) v)) ((length (known c r mine) == i) && ((length (known c r (put_event r p i b v ∷ mine)) == i + 1) && took r q i b v (put_event r p i b v ∷ mine)))
        (and_from (length (known c r mine) == i) ((length (known c r (put_event r p i b v ∷ mine)) == i + 1) && took r q i b v (put_event r p i b v ∷ mine)) (same_number i)
        (and_from (length (known c r (put_event r p i b v ∷ mine)) == i + 1) (took r q i b v (put_event r p i b v ∷ mine)) (eq-eqb (length (known c r (put_event r p i b v ∷ mine))) (i + 1) long) took_it)))

-- if each member has the entry the tables have it
pub tables_committed : (c : Config) (r u : ℕ) (now : List Event) (up up' : List ℕ) (reach : List (Option ℕ)) (heads written : List ℕ) → HoldsTables c r now up reach heads written → length up' ≡ 7
    → ((q : ℕ) → is_member r q now ≡ false → get_or up' q 0 ≡ get_or up q 0) → ((q : ℕ) → is_member r q now ≡ true → (get_or up' q 0 ≡ u) × Brought c r now q u) → u ≤ row_count c + reserve c + 1
    → HoldsTables c r now up' reach heads written
tables_committed c r u now up up' reach heads written t long others members low = record {
  ups = long;
  reaches = t.reaches;
  all_heads = t.all_heads;
  rows = t.rows;
  brought = λ q. brought_by q (is_member r q now) refl;
  within = λ q. within_by q (is_member r q now) refl;
  reached = t.reached;
  read = t.read;
  words = t.words;
}
  where
    brought_by : (q : ℕ) (m : Bool) → is_member r q now ≡ m → Brought c r now q (get_or up' q 0)
    brought_by q true member = let b = members q member in subst (λ x. Brought c r now q x) (sym b.0) b.1
    brought_by q false stranger = subst (λ x. Brought c r now q x) (sym (others q stranger)) (t.brought q)

    within_by : (q : ℕ) (m : Bool) → is_member r q now ≡ m → get_or up' q 0 ≤ row_count c + reserve c + 1
    within_by q true member = let b = members q member in let at = b.0 in omega (arith, at, low)
    within_by q false stranger = let at = others q stranger in let old = t.within q in omega (arith, at, old)

-- what was committed is raised at the first member
pub raises_first : (c : Config) (r b v p first : ℕ) (mine : List Event) (up up' : List ℕ) (reach : List (Option ℕ)) → AtPut c r b v mine up reach p → known c r (put_event r p (end_of c r mine) b v ∷ mine) ≡ known c r mine ++ v ∷ []
    → ((q : ℕ) → q < c.replicas → is_member r q mine ≡ true → get_or up' q 0 ≡ end_of c r mine + 1) → IsFirst (λ k. is_member r k mine) 0 c.replicas (Some first) → AtRaise c r b (put_event r p (end_of c r mine) b v ∷ mine) up' reach first
raises_first c r b v p first mine up up' reach at more members is =
    let o = at.entering.offering in
    let i = end_of c r mine in
    let long : length (known c r (put_event r p i b v ∷ mine)) ≡ i + 1 = ap length more ∙ length-append (known c r mine) (v ∷ []) in
    record {
      region = is.1;
      member = is.2;
      leads = record {
        begun = o.begun;
        goes_on = o.goes_on;
        numbered = o.numbered;
        carried = o.carried;
        held = held_same c r (put_event r p i b v) mine o.held (λ k h. record { grant = h.grant; noted = h.noted; joined = h.joined }) (λ k member. member);
        unput = λ k low. (let above : i < k = omega (arith, low, long) in rw (same_number r, ne_eqb i k (λ e. absurd (omega (arith, above, e)))) (o.unput k above));
      };
      have = λ q region member. members q region member ∙ sym long;
      raised = λ q low member. absurd (true≢false (sym member ∙ is.3 q (omega arith) low));
      read = λ q region member. read_less r q (get_or up q 0) (get_or up' q 0) mine (let now = members q region member in let before = o.few q region member in omega (arith, now, before)) (o.raised q region member).1;
    }

-- the FUO of p is raised over what was committed
raised_more : (c : Config) (r b p q : ℕ) (mine : List Event) (up : List ℕ) (reach reach' : List (Option ℕ)) → AtRaise c r b mine up reach p → ((k : ℕ) → k ≢ p → get_or reach' k None ≡ get_or reach k None) → IsRaised up reach' p
    → ((k : ℕ) → p + 1 ≤ k → k < q → is_member r k mine ≡ false) → (k : ℕ) → k < q → k < c.replicas → is_member r k mine ≡ true → IsRaised up reach' k × IsRead r mine k (get_or up k 0)
raised_more c r b p q mine up reach reach' at reaches now none k low region member = (
  elim (cases_eq k p) [
    | inl same ↦ subst (λ x. IsRaised up reach' x) (sym same) now
    | inr other ↦ elim (cases_lt k p) [
      | inl less ↦ raised_other p k up up reach reach' other (λ j differs. refl) reaches (at.raised k less member).0
      | inr more ↦ absurd (true≢false (sym member ∙ none k (omega (arith, more, other)) low))
    ]
  ],
  at.read k region member,
)

pub raises_next : (c : Config) (r b p q from : ℕ) (mine : List Event) (up : List ℕ) (reach reach' : List (Option ℕ)) → AtRaise c r b mine up reach p → ((k : ℕ) → k ≢ p → get_or reach' k None ≡ get_or reach k None) → IsRaised up reach' p
    → from ≡ p + 1 → IsFirst (λ k. is_member r k mine) from c.replicas (Some q) → AtRaise c r b (raise_event r p (end_of c r mine) ∷ mine) up reach' q
raises_next c r b p q from mine up reach reach' at reaches now is first = record {
  region = first.1;
  member = first.2;
  leads = leads_kept c r b r (Verb.RaiseFuo p (end_of c r mine)) Answer.Done mine refl at.leads;
  have = at.have;
  raised = λ k low. raised_more c r b p q mine up reach reach' at reaches now (λ j more below. first.3 j (omega (arith, more, is)) below) k low (let within = first.1 in omega (arith, low, within));
  read = at.read;
}

pub raised_all : (c : Config) (r b p from : ℕ) (mine : List Event) (up : List ℕ) (reach reach' : List (Option ℕ)) → AtRaise c r b mine up reach p → ((k : ℕ) → k ≢ p → get_or reach' k None ≡ get_or reach k None) → IsRaised up reach' p
    → from ≡ p + 1 → IsFirst (λ k. is_member r k mine) from c.replicas None → Level c r b (raise_event r p (end_of c r mine) ∷ mine) up reach'
raised_all c r b p from mine up reach reach' at reaches now is none = record {
  leads = leads_kept c r b r (Verb.RaiseFuo p (end_of c r mine)) Answer.Done mine refl at.leads;
  have = λ k region member. (let same = at.have k region member in omega (arith, same));
  few = λ k region member. (let same = at.have k region member in omega (arith, same));
  raised = λ k low. raised_more c r b p c.replicas mine up reach reach' at reaches now (λ j more below. none j (omega (arith, more, is)) below) k low low;
}

-- less is brought if more is
pub brought_less : (c : Config) (r p u w : ℕ) (mine : List Event) → u ≤ w → Brought c r mine p w → Brought c r mine p u
brought_less c r p u w mine low b = record { caught_up = λ j less. b.caught_up j (omega (arith, less, low)); filled = λ j less. b.filled j (omega (arith, less, low)) }

-- members are regions that there are
pub member_within : (c : Config) (r q : ℕ) (mine : List Event) → IsPossible c r mine → is_member r q mine ≡ true → q < c.replicas
member_within c r q [] possible member = absurd (true≢false (sym member))
member_within c r q (e ∷ mine) possible member =
    let s = parts_shorten_law c r mine e possible in
    go e.by e.verb e.answer s.allowed.may member (member_within c r q mine s.before)
  where
    go : (by : ℕ) (verb : Verb) (answer : Answer) → Needs c r mine verb → is_member r q (event_by by verb answer ∷ mine) ≡ true → (is_member r q mine ≡ true → q < c.replicas) → q < c.replicas
    go by (Verb.Ask p) answer needs member before = by_test ((by == r) && (p == 0)) member
      where
        by_test : (t : Bool) → is_some (cond t None (grant_at_joining r q mine)) ≡ true → q < c.replicas
        by_test true member = absurd (true≢false (sym member))
        by_test false member = before member
    go by (Verb.PutMin p b) Answer.Done needs member before = by_test (by == r) (p == q) refl member
      where
        by_test : (x y : Bool) → (p == q) ≡ y → is_some (cond (x && y) (newer_or (grant_at_joining r q mine) (Some (noted_grant r q mine))) (grant_at_joining r q mine)) ≡ true → q < c.replicas
        by_test true true same member = subst (λ k. k < c.replicas) (eqb-true p q same) needs.0
        by_test true false same member = before member
        by_test false y same member = before member
    go by verb answer needs member before = before member
