-- Minima, the number, and the regions that join.
use Rattle.std.proofs.Common.{Bool, List, None, Some, ap, arith, cond, eq-eqb, false, inl, inr, is_some, max, refl, subst, sym, true, true≢false, ℕ, ◌&&◌, ◌+◌, ◌<◌, ◌==◌, ◌||◌, ◌∙◌, ◌∷◌, ◌≡◌, ◌≢◌, ◌≤◌}
use Rattle.std.specs.Prelude.{nat_le}
use Rattle.std.specs.declared.option.Option.{Option}
use Rattle.std.proofs.lemmas.Bool.{and_from, cases_eq, cases_lt, le-leb, ne_eqb}
use Rattle.mu_model.specs.declared.config.Config.{Config}
use Rattle.mu_model.specs.declared.event.Answer.{Answer}
use Rattle.mu_model.specs.declared.event.Event.{Event}
use Rattle.mu_model.specs.declared.event.Target.{Target}
use Rattle.mu_model.specs.declared.event.Verb.{Verb}
use Rattle.mu_model.specs.Entering.{grant_seen, has_read_min, min_read, min_read_since, min_read_under, number_allowed}
use Rattle.mu_model.specs.Histories.{count_below, earlier_or, has, newer_or, newest, or_zero, event_by}
use Rattle.mu_model.specs.Leaderships.{begins_leadership, grant_at_joining, is_above, is_member, is_over, leadership, majority_of, noted_grant, proposal_number}
use Rattle.mu_model.proofs.Basics.{none_some, or_true, same_number, same_some}
use Rattle.mu_agree.proofs.Counting.{count_more}
use Rattle.mu_agree.proofs.Landings.{has_since}
use Rattle.mu_lead.specs.Confirming.{AtEnterMin, AtPutMin, AtReadMin, HasGrant, HoldsGrants, Numbered, Telling, greatest_min}
use Rattle.mu_lead.specs.Leading.{AtReadFuo, HasPutNone, Leads}
use Rattle.mu_knowledge.specs.Offers.{IsFirst}
use Rattle.mu_lead.proofs.Copying.{seen_noted}
use Rattle.mu_lead.proofs.Allowing.{allowed_put}

granted : (t : Bool) (x g : ℕ) → cond t (Some x) None ≡ Some g → (x == g) ≡ true
granted true x g is = eq-eqb x g (same_some x g is)
granted false x g is = absurd (none_some g is)

-- a noted grant was seen
noted_shown : (r p g : ℕ) (mine : List Event) → noted_grant r p mine ≡ Some g → has (λ e. grant_seen r p g e.by e.verb e.answer) mine ≡ true
noted_shown r p g mine is = has_since (λ e. grant_seen r p g e.by e.verb e.answer) (begins_leadership r) mine (seen_noted r p g (leadership r mine) is)

told_now : (r p m : ℕ) (mine : List Event) (o : Option ℕ) → ((g : ℕ) → o ≡ Some g → has (λ e. grant_seen r p g e.by e.verb e.answer) mine ≡ true) → is_some o ≡ true
    → min_read_since r p (event_by r (Verb.Min p) (Answer.Number m) ∷ mine) o ≡ true
told_now r p m mine None shown some = absurd (true≢false (sym some))
told_now r p m mine (Some g) shown some = rw (same_number r, same_number p, shown g refl) refl

told_still : (r q p m : ℕ) (mine : List Event) (o : Option ℕ) → min_read_since r q mine o ≡ true → min_read_since r q (event_by r (Verb.Min p) (Answer.Number m) ∷ mine) o ≡ true
told_still r q p m mine None told = told
told_still r q p m mine (Some g) told = or_true (is_some (cond ((r == r) && (p == q)) (Some m) None) && has (λ f. grant_seen r q g f.by f.verb f.answer) mine) (min_read_under r q g mine) told

-- a noted region tells its minimum
pub read_now : (r p m : ℕ) (mine : List Event) → is_some (noted_grant r p mine) ≡ true → has_read_min r p (event_by r (Verb.Min p) (Answer.Number m) ∷ mine) ≡ true
read_now r p m mine noted = told_now r p m mine (noted_grant r p mine) (λ g is. noted_shown r p g mine is) noted

-- what was told stays told
pub read_still : (r q p m : ℕ) (mine : List Event) → has_read_min r q mine ≡ true → has_read_min r q (event_by r (Verb.Min p) (Answer.Number m) ∷ mine) ≡ true
read_still r q p m mine told = told_still r q p m mine (noted_grant r q mine) told

calm : (m : ℕ) (o : Option ℕ) (by over : Bool) → o ≡ None → over ≡ false → (by && is_above o m || over) ≡ false
calm m None true over none on = on
calm m None false over none on = on
calm m (Some x) by over none on = absurd (none_some x (sym none))

low_now : (m g : ℕ) (t : Bool) (o : Option ℕ) → (t ≡ false → or_zero o ≤ g) → or_zero (newer_or (cond t (Some m) None) o) ≤ max m g
low_now m g true o low = omega arith
low_now m g false o low = let k : or_zero o ≤ g = low refl in omega arith

-- after the minimum of p was read, the noted regions up to p told theirs
telling_on : (c : Config) (r p m : ℕ) (mine : List Event) → AtReadMin c r mine p → Telling c r (event_by r (Verb.Min p) (Answer.Number m) ∷ mine) (p + 1)
telling_on c r p m mine at =
    let t = at.telling in
    let f = t.fresh in
    record {
      fresh = record { begun = f.begun; goes_on = calm m (proposal_number r mine) (r == r) (is_over r mine) f.unnumbered f.goes_on; unnumbered = f.unnumbered; alone = f.alone; unput = f.unput };
      confirmed = record { own = t.confirmed.own; many = t.confirmed.many };
      told = λ q low noted. elim (cases_eq q p) [
        | inl same ↦ subst (λ x. has_read_min r x (event_by r (Verb.Min p) (Answer.Number m) ∷ mine) ≡ true) (sym same) (read_now r p m mine at.granted)
        | inr other ↦ read_still r q p m mine (t.told q (omega (arith, low, other)) noted)
      ];
      low = λ q low noted. rw (same_number r) (low_now m (greatest_min r mine) (p == q) (newest (λ e. min_read r q e.by e.verb e.answer) mine)
          (λ other. t.low q (let k : q ≢ p = (λ same. let x : true ≡ false = sym (eq-eqb p q (sym same)) ∙ other in cc) in omega (arith, low, k)) noted));
    }

none_of : (r k : ℕ) (mine : List Event) → is_some (noted_grant r k mine) ≡ true → is_some (noted_grant r k mine) ≡ false → ⊥
none_of r k mine noted none = true≢false (sym noted ∙ none)

-- with none noted up to q, the same holds up to q
telling_to : (c : Config) (r p q : ℕ) (mine : List Event) → Telling c r mine p → ((k : ℕ) → p ≤ k → k < q → is_some (noted_grant r k mine) ≡ false) → Telling c r mine q
telling_to c r p q mine t none = record {
  fresh = t.fresh;
  confirmed = t.confirmed;
  told = λ k low noted. elim (cases_lt k p) [ inl below ↦ t.told k below noted | inr above ↦ absurd (none_of r k mine noted (none k above low)) ];
  low = λ k low noted. elim (cases_lt k p) [ inl below ↦ t.low k below noted | inr above ↦ absurd (none_of r k mine noted (none k above low)) ];
}

-- the next noted region tells its minimum
pub reads_next : (c : Config) (r p q from m : ℕ) (mine : List Event) → AtReadMin c r mine p → from ≡ p + 1 → IsFirst (λ k. is_some (noted_grant r k mine)) from c.replicas (Some q) → AtReadMin c r (event_by r (Verb.Min p) (Answer.Number m) ∷ mine) q
reads_next c r p q from m mine at is first = record {
  region = first.1;
  granted = first.2;
  telling = telling_to c r (p + 1) q (event_by r (Verb.Min p) (Answer.Number m) ∷ mine) (telling_on c r p m mine at) (λ k above low. first.3 k (omega (arith, above, is)) low);
}

-- all noted regions told their minimum
pub told_all : (c : Config) (r p from m : ℕ) (mine : List Event) → AtReadMin c r mine p → from ≡ p + 1 → IsFirst (λ k. is_some (noted_grant r k mine)) from c.replicas None → Telling c r (event_by r (Verb.Min p) (Answer.Number m) ∷ mine) c.replicas
told_all c r p from m mine at is none = telling_to c r (p + 1) c.replicas (event_by r (Verb.Min p) (Answer.Number m) ∷ mine) (telling_on c r p m mine at) (λ k above low. none k (omega (arith, above, is)) low)

number_for : (r b : ℕ) (mine : List Event) (o : Option ℕ) → o ≡ None → number_allowed r mine b None → number_allowed r mine b o
number_for r b mine None is allowed = allowed
number_for r b mine (Some x) is allowed = absurd (none_some x (sym is))

above_greatest : (r b : ℕ) (mine : List Event) → number_allowed r mine b None → greatest_min r mine < b
above_greatest r b mine allowed = allowed.2

-- the number is picked
pub numbered_now : (c : Config) (r b : ℕ) (mine : List Event) → Telling c r mine c.replicas → number_allowed r mine b None → Numbered c r b mine
numbered_now c r b mine t allowed = record {
  begun = t.fresh.begun;
  goes_on = t.fresh.goes_on;
  allowed = number_for r b mine (proposal_number r mine) t.fresh.unnumbered allowed;
  confirmed = t.confirmed;
  told = λ p region noted. t.told p region noted;
  low = λ p region noted. (let low = t.low p region noted in let up = above_greatest r b mine allowed in omega (arith, low, up));
  unput = t.fresh.unput;
}

-- the region is entered
pub puts_now : (c : Config) (r b p : ℕ) (mine : List Event) → AtEnterMin c r b mine p → AtPutMin c r b (event_by r (Verb.Enter p Target.Min) Answer.Entered ∷ mine) p
puts_now c r b p mine at =
    let n = at.numbered in
    record {
      entering = record {
        region = at.region;
        granted = at.granted;
        numbered = record { begun = n.begun; goes_on = n.goes_on; allowed = allowed_entered (proposal_number r mine) n.allowed; confirmed = record { own = n.confirmed.own; many = n.confirmed.many }; told = n.told; low = n.low; unput = n.unput };
        below = record { joined = at.below.joined; held = λ k region member. (let h = at.below.held k region member in record { grant = h.grant; noted = h.noted; joined = h.joined }) };
      };
      entered = rw (same_number r, same_number p) refl;
      under = rw (same_number r, same_number p) refl;
    }
  where
    allowed_entered : (o : Option ℕ) → number_allowed r mine b o → number_allowed r (event_by r (Verb.Enter p Target.Min) Answer.Entered ∷ mine) b o
    allowed_entered None a = a
    allowed_entered (Some x) a = a

-- a minimum that landed
abbrev pub landed_min : ℕ → ℕ → ℕ → Event
landed_min r p b = event_by r (Verb.PutMin p b) Answer.Done

first_put : (r b : ℕ) (mine : List Event) (o : Option ℕ) → number_allowed r mine b o → earlier_or (Some b) o ≡ Some b
first_put r b mine None allowed = refl
first_put r b mine (Some x) allowed = ap Some (sym allowed)

pub number_now : (c : Config) (r b p : ℕ) (mine : List Event) → Numbered c r b mine → proposal_number r (landed_min r p b ∷ mine) ≡ Some b
number_now c r b p mine n = rw (same_number r) (first_put r b mine (proposal_number r mine) n.allowed)

numbered_on : (c : Config) (r b p : ℕ) (mine : List Event) → Numbered c r b mine → Numbered c r b (landed_min r p b ∷ mine)
numbered_on c r b p mine n = record {
  begun = n.begun;
  goes_on = n.goes_on;
  allowed = allowed_put r b (landed_min r p b ∷ mine) (proposal_number r (landed_min r p b ∷ mine)) (number_now c r b p mine n);
  confirmed = record { own = n.confirmed.own; many = n.confirmed.many };
  told = n.told;
  low = n.low;
  unput = n.unput;
}

newer_some : {A : Type 0} (o : Option A) (x : A) → is_some (newer_or o (Some x)) ≡ true
newer_some None x = refl
newer_some (Some y) x = refl

-- p is a member now, and no other region became one
pub member_now : (r p b : ℕ) (mine : List Event) → is_member r p (landed_min r p b ∷ mine) ≡ true
member_now r p b mine = rw (same_number r, same_number p) (newer_some (grant_at_joining r p mine) (noted_grant r p mine))

pub joining_other : (r p q b : ℕ) (mine : List Event) → p ≢ q → grant_at_joining r q (landed_min r p b ∷ mine) ≡ grant_at_joining r q mine
joining_other r p q b mine other = rw (same_number r, ne_eqb p q other) refl

pub member_still : (r p q b : ℕ) (mine : List Event) → is_member r q mine ≡ true → is_member r q (landed_min r p b ∷ mine) ≡ true
member_still r p q b mine member = elim (cases_eq p q) [
  | inl same ↦ subst (λ x. is_member r x (landed_min r p b ∷ mine) ≡ true) same (member_now r p b mine)
  | inr other ↦ ap is_some (joining_other r p q b mine other) ∙ member
]

-- the members hold the grants of their joining, p among them
pub held_joined : (c : Config) (r p b : ℕ) (mine : List Event) → p < c.replicas → is_some (noted_grant r p mine) ≡ true → HoldsGrants c r mine → HoldsGrants c r (landed_min r p b ∷ mine)
held_joined c r p b mine low noted held q region member = elim (cases_eq p q) [
  | inl same ↦ subst (λ x. HasGrant r x (landed_min r p b ∷ mine)) same (joined_here (grant_at_joining r p mine) refl (noted_grant r p mine) refl noted)
  | inr other ↦ (let h = held q region (sym (ap is_some (joining_other r p q b mine other)) ∙ member) in record { grant = h.grant; noted = h.noted; joined = joining_other r p q b mine other ∙ h.joined })
]
  where
    joined_again : HasGrant r p mine → HasGrant r p (landed_min r p b ∷ mine)
    joined_again h = record { grant = h.grant; noted = h.noted; joined = rw (same_number r, same_number p, h.joined) refl }

    joined_here : (o : Option (Option ℕ)) → grant_at_joining r p mine ≡ o → (n : Option ℕ) → noted_grant r p mine ≡ n → is_some n ≡ true → HasGrant r p (landed_min r p b ∷ mine)
    joined_here o is None none some = absurd (true≢false (sym some))
    joined_here None is (Some g) noted some = record { grant = g; noted = noted; joined = rw (same_number r, same_number p, is) (ap Some noted) }
    joined_here (Some old) is (Some g) noted some = joined_again (held p low (ap is_some is))

joined_on : (c : Config) (r b p : ℕ) (mine : List Event) → AtPutMin c r b mine p → (q : ℕ) → q < p + 1 → is_some (noted_grant r q mine) ≡ true → is_member r q (landed_min r p b ∷ mine) ≡ true
joined_on c r b p mine at q low noted = elim (cases_eq q p) [
  | inl same ↦ subst (λ x. is_member r x (landed_min r p b ∷ mine) ≡ true) (sym same) (member_now r p b mine)
  | inr other ↦ member_still r p q b mine (at.entering.below.joined q (omega (arith, low, other)) noted)
]

joined_to : (c : Config) (r b p q : ℕ) (mine : List Event) → AtPutMin c r b mine p → ((k : ℕ) → p + 1 ≤ k → k < q → is_some (noted_grant r k mine) ≡ false) → (k : ℕ) → k < q → is_some (noted_grant r k mine) ≡ true → is_member r k (landed_min r p b ∷ mine) ≡ true
joined_to c r b p q mine at none k low noted = elim (cases_lt k (p + 1)) [
  | inl below ↦ joined_on c r b p mine at k below noted
  | inr above ↦ absurd (none_of r k mine noted (none k above low))
]

-- the next noted region joins
pub joins_next : (c : Config) (r b p q from : ℕ) (mine : List Event) → AtPutMin c r b mine p → from ≡ p + 1 → IsFirst (λ k. is_some (noted_grant r k mine)) from c.replicas (Some q) → AtEnterMin c r b (landed_min r p b ∷ mine) q
joins_next c r b p q from mine at is first =
    let e = at.entering in
    record {
      region = first.1;
      granted = first.2;
      numbered = numbered_on c r b p mine e.numbered;
      below = record {
        joined = joined_to c r b p q mine at (λ k above low. first.3 k (omega (arith, above, is)) low);
        held = held_joined c r p b mine e.region e.granted e.below.held;
      };
    }

-- all noted regions joined: they carry the leadership
pub joins_all : (c : Config) (r b p from : ℕ) (mine : List Event) → r < c.replicas → AtPutMin c r b mine p → from ≡ p + 1 → IsFirst (λ k. is_some (noted_grant r k mine)) from c.replicas None → Leads c r b (landed_min r p b ∷ mine)
joins_all c r b p from mine own at is none =
    let e = at.entering in
    let n = e.numbered in
    let all = joined_to c r b p c.replicas mine at (λ k above low. none k (omega (arith, above, is)) low) in
    let more = count_more c.replicas (λ k. is_some (noted_grant r k mine)) (λ k. is_member r k (landed_min r p b ∷ mine)) all in
    let many = n.confirmed.many in
    record {
      begun = n.begun;
      goes_on = n.goes_on;
      numbered = number_now c r b p mine n;
      carried = and_from (is_member r r (landed_min r p b ∷ mine)) (nat_le (majority_of c.replicas) (count_below c.replicas (λ k. is_member r k (landed_min r p b ∷ mine)))) (all r own n.confirmed.own)
          (le-leb (majority_of c.replicas) (count_below c.replicas (λ k. is_member r k (landed_min r p b ∷ mine))) (omega (arith, more, many)));
      held = held_joined c r p b mine e.region e.granted e.below.held;
      unput = λ i low. n.unput i;
    }

-- the first member's FUO is read first
pub reads_first : (c : Config) (r b q : ℕ) (mine : List Event) (up : List ℕ) (reach : List (Option ℕ)) → Leads c r b mine → HasPutNone r mine → IsFirst (λ k. is_member r k mine) 0 c.replicas (Some q) → AtReadFuo c r b mine up reach q None
reads_first c r b q mine up reach leads unput first = record {
  region = first.1;
  member = first.2;
  leads = leads;
  raised = λ k low member. absurd (true≢false (sym member ∙ first.3 k (omega arith) low));
  unput = unput;
  from = tt;
  few = λ k low. first.3 k (omega arith) low;
}

-- no region is a member yet
pub enters_first : (c : Config) (r b q : ℕ) (mine : List Event) → Telling c r mine c.replicas → Numbered c r b mine → IsFirst (λ k. is_some (noted_grant r k mine)) 0 c.replicas (Some q) → AtEnterMin c r b mine q
enters_first c r b q mine t n first = record {
  region = first.1;
  granted = first.2;
  numbered = n;
  below = record {
    joined = λ k low noted. absurd (none_of r k mine noted (first.3 k (omega arith) low));
    held = λ k region member. absurd (true≢false (sym member ∙ t.fresh.alone k));
  };
}
