-- Catching up, and bringing up members that are behind.
use Rattle.std.proofs.Common.{Bool, List, None, Some, [], ap, arith, cond, false, get_or, inl, inr, length, refl, subst, sym, true, true≢false, ℕ, ◌%◌, ◌&&◌, ◌+◌, ◌<◌, ◌==◌, ◌∙◌, ◌∷◌, ◌≡◌, ◌≢◌, ◌≤◌, ◌⊎◌}
use Rattle.std.specs.Prelude.{nat_lt}
use Rattle.std.specs.List.{slice_get}
use Rattle.std.specs.declared.option.Option.{Option}
use Rattle.std.proofs.lemmas.Bool.{cases_eq, cases_lt, ltb-false, ltb-true, ne_eqb}
use Rattle.mu_model.specs.declared.config.Config.{Config}
use Rattle.mu_model.specs.declared.event.Answer.{Answer}
use Rattle.mu_model.specs.declared.event.Event.{Event}
use Rattle.mu_model.specs.declared.event.Target.{Target}
use Rattle.mu_model.specs.declared.event.Verb.{Verb}
use Rattle.mu_model.specs.Histories.{has, event_by}
use Rattle.mu_model.specs.Knowledge.{fills, greatest_fuo_read, grown, is_accepted_by_all, is_filled, is_known_decided, is_value, known}
use Rattle.mu_model.specs.Leaderships.{is_member, leadership}
use Rattle.mu_model.specs.Picks.{is_past}
use Rattle.mu_model.specs.Placing.{is_caught_up_at, is_known_put, is_within_ring, looked_before_entering, has_looked_since}
use Rattle.mu_model.proofs.Basics.{or_true, same_number, true_or}
use Rattle.mu_lead.specs.declared.place.Then.{Then}
use Rattle.mu_lead.specs.Leading.{AtEnterBehind, AtFenceBehind, AtPutBehind, AtRaiseBehind, AtReadFuo, AtWiden, Behind, Brought, HasMost, HasPutNone, HaveAtMost, HaveBelow, HaveFew, IsClear, IsDone, IsLeft, IsMember, IsRaised, IsRead, Leads, Level, Near, RaisedBelow, end_of, is_put_at}
use Rattle.mu_knowledge.specs.Offers.{IsFirst}
use Rattle.mu_lead.proofs.Copying.{fuo_read_on, put_elsewhere, puts_low, read_less}
use Rattle.mu_lead.proofs.Keeping.{fuo_event, leads_kept, raise_event, raised_other}
use Rattle.mu_lead.proofs.Tables.{brought_kept, caught_up_with}

-- the next member's FUO is read
pub reads_more : (c : Config) (r b p q from s : ℕ) (mine : List Event) (up : List ℕ) (reach : List (Option ℕ)) → from ≡ p + 1 → Leads c r b mine → RaisedBelow r mine up reach (p + 1) → HasPutNone r mine → IsMember c r mine (Some s) → HasMost r mine up (p + 1) (Some s)
    → IsFirst (λ k. is_member r k mine) from c.replicas (Some q) → AtReadFuo c r b mine up reach q (Some s)
reads_more c r b p q from s mine up reach is leads raised unput source few first = record {
  region = first.1;
  member = first.2;
  leads = leads;
  raised = λ k low member. elim (cases_lt k (p + 1)) [ inl below ↦ raised k below member | inr above ↦ absurd (true≢false (sym member ∙ first.3 k (omega (arith, above, is)) low)) ];
  unput = unput;
  from = source;
  few = (
    (let low = few.0 in let above = first.0 in omega (arith, low, above, is)),
    λ k low member. elim (cases_lt k (p + 1)) [ inl below ↦ few.1 k below member | inr above ↦ absurd (true≢false (sym member ∙ first.3 k (omega (arith, above, is)) low)) ],
  );
}

-- all members' FUOs are read
pub read_all : (c : Config) (r p from : ℕ) (mine : List Event) (up : List ℕ) (reach : List (Option ℕ)) → from ≡ p + 1 → RaisedBelow r mine up reach (p + 1) → IsFirst (λ k. is_member r k mine) from c.replicas None → RaisedBelow r mine up reach c.replicas
read_all c r p from mine up reach is raised none k low member = elim (cases_lt k (p + 1)) [ inl below ↦ raised k below member | inr above ↦ absurd (true≢false (sym member ∙ none k (omega (arith, above, is)) low)) ]

-- and the member of the greatest one has the most
pub most_all : (c : Config) (r p from s : ℕ) (mine : List Event) (up : List ℕ) → from ≡ p + 1 → HasMost r mine up (p + 1) (Some s) → IsFirst (λ k. is_member r k mine) from c.replicas None → HaveAtMost c r mine up (get_or up s 0)
most_all c r p from s mine up is few none k low member = elim (cases_lt k (p + 1)) [ inl below ↦ few.1 k below member | inr above ↦ absurd (true≢false (sym member ∙ none k (omega (arith, above, is)) low)) ]

-- the FUO of p was read
pub raised_read : (c : Config) (r b p u : ℕ) (mine : List Event) (up up' : List ℕ) (reach reach' : List (Option ℕ)) (held : Option ℕ) → RaisedBelow r mine up reach p → get_or up' p 0 ≡ u
    → ((k : ℕ) → k ≢ p → get_or up' k 0 ≡ get_or up k 0) → ((k : ℕ) → k ≢ p → get_or reach' k None ≡ get_or reach k None)
    → IsRaised up' reach' p → IsRead r mine p (get_or up' p 0) → RaisedBelow r mine up' reach' (p + 1)
raised_read c r b p u mine up up' reach reach' held raised here ups reaches now read k low member = elim (cases_eq k p) [
  | inl same ↦ subst (λ x. IsRaised up' reach' x × IsRead r mine x (get_or up' x 0)) (sym same) (now, read)
  | inr other ↦ (let old = raised k (omega (arith, low, other)) member in (raised_other p k up up' reach reach' other ups reaches old.0, subst (λ x. IsRead r mine k x) (sym (ups k other)) old.1))
]

-- a FUO that is read leaves those of the regions below it as they were
pub raised_before : (r p u : ℕ) (mine : List Event) (up : List ℕ) (reach : List (Option ℕ)) → RaisedBelow r mine up reach p → RaisedBelow r (fuo_event r p u ∷ mine) up reach p
raised_before r p u mine up reach raised k low member = (let old = raised k low member in (old.0, fuo_read_on r p k u (get_or up k 0) mine old.1))

-- a member behind, the first one
pub first_behind : (c : Config) (r b p q : ℕ) (mine : List Event) (up : List ℕ) (reach : List (Option ℕ)) (on : Then) → Leads c r b mine → RaisedBelow r mine up reach c.replicas → IsClear r mine up
    → ((k : ℕ) → k < c.replicas → is_member r k mine ≡ true → IsDone on k p → end_of c r mine ≤ get_or up k 0)
    → HaveFew c r mine up on p → on ≢ Then.Joined → IsFirst (λ k. is_member r k mine && nat_lt (get_or up k 0) (end_of c r mine)) p c.replicas (Some q) → AtWiden c r b mine up reach q on
first_behind c r b p q mine up reach on leads raised clear done few not_late first =
    let both = and_split (is_member r q mine) (nat_lt (get_or up q 0) (end_of c r mine)) first.2 in
    record {
      behind = record {
        region = first.1;
        member = both.0;
        leads = leads;
        raised = λ k region other member. (raised k region member).0;
        read = λ k region member. (raised k region member).1;
        clear = clear;
        have = λ k region other member. done_to on done k region member;
        few = λ k region member. (let at = few k region member in (at.0, λ left. at.1 (left_from on k left)));
        late = λ joined. absurd (not_late joined);
      };
      lacks = ltb-true (get_or up q 0) (end_of c r mine) both.1;
    }
  where
    left_from : (t : Then) (k : ℕ) → IsLeft t (q + 1) k → IsLeft t p k
    left_from Then.Late k left = left
    left_from Then.Position k left = (let from = first.0 in omega (arith, from, left))
    left_from Then.Joined k left = left

    and_split : (x y : Bool) → (x && y) ≡ true → (x ≡ true) × (y ≡ true)
    and_split true y is = (refl, is)
    and_split false y is = absurd (true≢false (sym is))

    has_all : (k : ℕ) → is_member r k mine ≡ true → (is_member r k mine && nat_lt (get_or up k 0) (end_of c r mine)) ≡ false → end_of c r mine ≤ get_or up k 0
    has_all k member none = ltb-false (get_or up k 0) (end_of c r mine) (sym (ap (λ x. x && nat_lt (get_or up k 0) (end_of c r mine)) member) ∙ none)

    below : ((k : ℕ) → k < c.replicas → is_member r k mine ≡ true → k < p → end_of c r mine ≤ get_or up k 0) → (k : ℕ) → k < c.replicas → is_member r k mine ≡ true → k < q → end_of c r mine ≤ get_or up k 0
    below has k region member low = elim (cases_lt k p) [ inl less ↦ has k region member less | inr more ↦ has_all k member (first.3 k more low) ]

    done_to : (t : Then) → ((k : ℕ) → k < c.replicas → is_member r k mine ≡ true → IsDone t k p → end_of c r mine ≤ get_or up k 0) → (k : ℕ) → k < c.replicas → is_member r k mine ≡ true → IsDone t k q → end_of c r mine ≤ get_or up k 0
    done_to Then.Late has k region member low = below has k region member low
    done_to Then.Position has k region member low = below has k region member low
    done_to Then.Joined has k region member low = has k region member tt

-- members that aren't behind have what is known
pub none_lacks : (c : Config) (r p : ℕ) (mine : List Event) (up : List ℕ) (on : Then) → ((k : ℕ) → k < c.replicas → is_member r k mine ≡ true → IsDone on k p → end_of c r mine ≤ get_or up k 0)
    → IsFirst (λ k. is_member r k mine && nat_lt (get_or up k 0) (end_of c r mine)) p c.replicas None → HaveBelow r mine up c.replicas (end_of c r mine)
none_lacks c r p mine up on done none k region member = elim (cases_lt k p) [ inl less ↦ done k region member (is_done on less) | inr more ↦ has_all (none k more region) ]
  where
    is_done : (t : Then) → k < p → IsDone t k p
    is_done Then.Late low = low
    is_done Then.Position low = low
    is_done Then.Joined low = tt

    has_all : (is_member r k mine && nat_lt (get_or up k 0) (end_of c r mine)) ≡ false → end_of c r mine ≤ get_or up k 0
    has_all none = ltb-false (get_or up k 0) (end_of c r mine) (sym (ap (λ x. x && nat_lt (get_or up k 0) (end_of c r mine)) member) ∙ none)

-- no member is behind
pub none_behind : (c : Config) (r b p : ℕ) (mine : List Event) (up : List ℕ) (reach : List (Option ℕ)) (on : Then) → Leads c r b mine → RaisedBelow r mine up reach c.replicas
    → ((k : ℕ) → k < c.replicas → is_member r k mine ≡ true → IsDone on k p → end_of c r mine ≤ get_or up k 0)
    → HaveFew c r mine up on p → IsFirst (λ k. is_member r k mine && nat_lt (get_or up k 0) (end_of c r mine)) p c.replicas None → Level c r b mine up reach
none_behind c r b p mine up reach on leads raised done few none = record { leads = leads; have = none_lacks c r p mine up on done none; raised = raised; few = λ k region member. (few k region member).0 }

-- the FUO of p is raised so far as it was brought up
pub near_widened : (c : Config) (r b p : ℕ) (mine : List Event) (up : List ℕ) (reach reach' : List (Option ℕ)) (on : Then) → AtWiden c r b mine up reach p on
    → ((k : ℕ) → k ≢ p → get_or reach' k None ≡ get_or reach k None) → is_within_ring (get_or up p 0) c.ring (get_or reach' p None) ≡ true
    → Near c r b (raise_event r p (get_or up p 0) ∷ mine) up reach' p on
near_widened c r b p mine up reach reach' on at reaches near =
    let h = at.behind in
    record {
      behind = record {
        region = h.region;
        member = h.member;
        leads = leads_kept c r b r (Verb.RaiseFuo p (get_or up p 0)) Answer.Done mine refl h.leads;
        raised = λ k region other member. raised_other p k up up reach reach' other (λ j differs. refl) reaches (h.raised k region other member);
        read = h.read;
        clear = h.clear;
        have = h.have;
        few = h.few;
        late = h.late;
      };
      lacks = at.lacks;
      near = λ version. near;
    }

-- the event of a look
abbrev pub look_event : ℕ → ℕ → ℕ → Answer → Event
look_event r p i answer = event_by r (Verb.Look p i) answer

no_value : (values : List ℕ) (v : ℕ) (t s u : Bool) → s ≡ false → grown values (cond (t && (s && u)) (Some v) None) ≡ values
no_value values v true true u none = absurd (true≢false none)
no_value values v true false u none = refl
no_value values v false s u none = refl

-- a look at another position than the first unknown one teaches nothing
pub look_known : (c : Config) (r p i : ℕ) (answer : Answer) (mine : List Event) → i ≢ end_of c r mine → known c r (look_event r p i answer ∷ mine) ≡ known c r mine
look_known c r p i (Answer.Entry b v) mine other = no_value (known c r mine) v (r == r) (i == length (known c r mine)) (is_known_decided r mine p i) (ne_eqb i (length (known c r mine)) other)
look_known c r p i answer mine other = refl

pub behind_looked : (c : Config) (r b p q i : ℕ) (answer : Answer) (mine : List Event) (up : List ℕ) (reach : List (Option ℕ)) (on : Then) → known c r (look_event r q i answer ∷ mine) ≡ known c r mine
    → Behind c r b mine up reach p on → Behind c r b (look_event r q i answer ∷ mine) up reach p on
behind_looked c r b p q i answer mine up reach on same h = record {
  region = h.region;
  member = h.member;
  leads = leads_kept c r b r (Verb.Look q i) answer mine refl h.leads;
  raised = h.raised;
  read = h.read;
  clear = h.clear;
  have = λ k region other member done. subst (λ values. length values ≤ get_or up k 0) (sym same) (h.have k region other member done);
  few = λ k region member. subst (λ values. (get_or up k 0 ≤ length values) × (IsLeft on (p + 1) k → get_or up k 0 < length values)) (sym same) (h.few k region member);
  late = h.late;
}

-- a look at what p lacks
pub near_looked : (c : Config) (r b p : ℕ) (answer : Answer) (mine : List Event) (up : List ℕ) (reach : List (Option ℕ)) (on : Then) → Near c r b mine up reach p on → Near c r b (look_event r p (get_or up p 0) answer ∷ mine) up reach p on
near_looked c r b p answer mine up reach on at =
    let same = look_known c r p (get_or up p 0) answer mine (λ is. (let low = at.lacks in omega (arith, low, is))) in
    record {
      behind = behind_looked c r b p p (get_or up p 0) answer mine up reach on same at.behind;
      lacks = subst (λ values. get_or up p 0 < length values) (sym same) at.lacks;
      near = at.near;
    }

-- a look that found no later entry
pub looked_now : (c : Config) (r p i : ℕ) (answer : Answer) (mine : List Event) → is_member r p mine ≡ true → is_past answer ≡ false → has_looked_since c r p i (look_event r p i answer ∷ mine) ≡ true
looked_now c r p i answer mine member not_past = rw (member, same_number r, same_number p, same_number i, not_past) refl

-- which answers are past
past_is : (a : Answer) → is_past a ≡ true → a ≡ Answer.Past
past_is Answer.Past is = refl
past_is a is = absurd (true≢false (sym is))

-- a look that found what p lacks overwritten
pub fences_behind : (c : Config) (r b p : ℕ) (answer : Answer) (mine : List Event) (up : List ℕ) (reach : List (Option ℕ)) (on : Then) → Near c r b mine up reach p on → is_past answer ≡ true
    → AtFenceBehind c r b (look_event r p (get_or up p 0) answer ∷ mine) up reach p on
fences_behind c r b p answer mine up reach on at past =
    let h = at.behind in
    let held = h.leads.held p h.region h.member in
    record {
      near = near_looked c r b p answer mine up reach on at;
      past = record {
        since = [];
        before = mine;
        is = ap (λ a. look_event r p (get_or up p 0) a ∷ mine) (past_is answer past);
        grant = held.grant;
        noted = held.noted;
        joined = held.joined;
        read = h.read p h.region h.member held.grant held.noted;
        puts = puts_low r p (get_or up p 0) (leadership r mine) (λ j high. h.clear p j h.member high);
      };
    }

pub enters_behind : (c : Config) (r b p : ℕ) (answer : Answer) (mine : List Event) (up : List ℕ) (reach : List (Option ℕ)) (on : Then) → Near c r b mine up reach p on → is_past answer ≡ false
    → AtEnterBehind c r b (look_event r p (get_or up p 0) answer ∷ mine) up reach p on
enters_behind c r b p answer mine up reach on at not_past = record {
  near = near_looked c r b p answer mine up reach on at;
  looked = looked_now c r p (get_or up p 0) answer mine at.behind.member not_past;
}

-- the event of an `Enter` that took
abbrev pub enter_event : ℕ → ℕ → ℕ → Event
enter_event r p s = event_by r (Verb.Enter p (Target.Place s)) Answer.Entered

pub leads_entered : (c : Config) (r b p s : ℕ) (mine : List Event) → Leads c r b mine → Leads c r b (enter_event r p s ∷ mine)
leads_entered c r b p s mine l = record {
  begun = l.begun;
  goes_on = l.goes_on;
  numbered = l.numbered;
  carried = l.carried;
  held = λ q region member. (let h = l.held q region member in record { grant = h.grant; noted = h.noted; joined = h.joined });
  unput = l.unput;
}

pub looked_then : (c : Config) (r p s i : ℕ) (mine : List Event) → is_member r p mine ≡ true → has_looked_since c r p i mine ≡ true → looked_before_entering c r p i (enter_event r p s ∷ mine) ≡ true
looked_then c r p s i mine member looked = rw (member, same_number r, same_number p) looked

pub puts_behind : (c : Config) (r b p : ℕ) (mine : List Event) (up : List ℕ) (reach : List (Option ℕ)) (on : Then) → AtEnterBehind c r b mine up reach p on → AtPutBehind c r b (enter_event r p (get_or up p 0 % c.ring) ∷ mine) up reach p on
puts_behind c r b p mine up reach on at =
    let n = at.near in
    let h = n.behind in
    record {
      near = record {
        behind = record { region = h.region; member = h.member; leads = leads_entered c r b p (get_or up p 0 % c.ring) mine h.leads; raised = h.raised; read = h.read; clear = h.clear; have = h.have; few = h.few; late = h.late };
        lacks = n.lacks;
        near = n.near;
      };
      entered = rw (same_number r, same_number p) refl;
      under = rw (same_number r, same_number p) refl;
      looked = looked_then c r p (get_or up p 0 % c.ring) (get_or up p 0) mine h.member at.looked;
    }

-- the event of a put that landed
abbrev pub put_event : ℕ → ℕ → ℕ → ℕ → ℕ → Event
put_event r p i b v = event_by r (Verb.PutSlot p i b v) Answer.Done

-- a put at a known position teaches nothing
pub put_known : (c : Config) (r p i b v : ℕ) (mine : List Event) → i < end_of c r mine → known c r (put_event r p i b v ∷ mine) ≡ known c r mine
put_known c r p i b v mine low = no_value (known c r mine) v (r == r) (i == length (known c r mine)) (is_accepted_by_all c r (put_event r p i b v ∷ mine) i b v) (ne_eqb i (length (known c r mine)) (λ is. (let same : i ≡ length (known c r mine) = is in omega (arith, same, low))))

pub leads_put : (c : Config) (r b p i v : ℕ) (mine : List Event) → i < end_of c r mine → Leads c r b mine → Leads c r b (put_event r p i b v ∷ mine)
leads_put c r b p i v mine low l = record {
  begun = l.begun;
  goes_on = l.goes_on;
  numbered = l.numbered;
  carried = l.carried;
  held = λ q region member. (let h = l.held q region member in record { grant = h.grant; noted = h.noted; joined = h.joined });
  unput = λ k above.
      (let up : end_of c r mine ≤ k = subst (λ values. length values ≤ k) (put_known c r p i b v mine low) above in
      rw (same_number r, ne_eqb i k (λ same. absurd (omega (arith, low, up, same)))) (l.unput k up));
}

is_value_at : (o : Option ℕ) (v : ℕ) → o ≡ Some v → is_value o v ≡ true
is_value_at o v is = rw is (same_number v)

-- the entry at u is brought to p
pub brought_put : (c : Config) (r b v p u : ℕ) (mine : List Event) → u < end_of c r mine → slice_get (known c r mine) u ≡ Some v → Brought c r mine p u → Brought c r (put_event r p u b v ∷ mine) p (u + 1)
brought_put c r b v p u mine low is old =
    let still = brought_kept c r p u (put_event r p u b v) mine refl old in
    let same = put_known c r p u b v mine low in
    record {
      caught_up = λ j short. elim (cases_eq j u) [
        | inl here ↦ subst (λ x. is_caught_up_at c r p (put_event r p u b v ∷ mine) x ≡ true) (sym here)
            (subst (λ values. caught_up_with values r p (put_event r p u b v ∷ leadership r mine) u ≡ true) (sym same)
            (or_true (nat_lt u (greatest_fuo_read r p (leadership r mine))) (has (λ e. is_known_put (known c r mine) r p u e.by e.verb e.answer) (put_event r p u b v ∷ leadership r mine))
            (rw (same_number r, same_number p, same_number u, is_value_at (slice_get (known c r mine) u) v is) refl)))
        | inr other ↦ still.caught_up j (omega (arith, short, other))
      ];
      filled = λ j short. elim (cases_eq j u) [
        | inl here ↦ subst (λ x. is_filled c r p (put_event r p u b v ∷ mine) x ≡ true) (sym here)
            (true_or (fills c r p u mine r (Verb.PutSlot p u b v) Answer.Done (put_event r p u b v ∷ mine)) (is_filled c r p mine u)
            (rw (same_number r, same_number p, same_number u, is_value_at (slice_get (known c r mine) u) v is) refl))
        | inr other ↦ still.filled j (omega (arith, short, other))
      ];
    }

-- what p has one entry more of
pub behind_put : (c : Config) (r b v p u : ℕ) (mine : List Event) (up up' : List ℕ) (reach : List (Option ℕ)) (on : Then) → u < end_of c r mine → ((k : ℕ) → k ≢ p → get_or up' k 0 ≡ get_or up k 0) → get_or up p 0 ≡ u → get_or up' p 0 ≡ u + 1
    → Behind c r b mine up reach p on → Behind c r b (put_event r p u b v ∷ mine) up' reach p on
behind_put c r b v p u mine up up' reach on low ups was here h =
    let same = put_known c r p u b v mine low in
    record {
      region = h.region;
      member = h.member;
      leads = leads_put c r b p u v mine low h.leads;
      raised = λ k region other member. raised_other p k up up' reach reach other ups (λ j differs. refl) (h.raised k region other member);
      read = λ k region member. read_now k (h.read k region member) (cases_eq k p);
      clear = λ q j member high. clear_now q j member high (cases_eq q p);
      have = λ k region other member done. subst (λ x. end_of c r (put_event r p u b v ∷ mine) ≤ x) (sym (ups k other)) (subst (λ values. length values ≤ get_or up k 0) (sym same) (h.have k region other member done));
      few = λ k region member. subst (λ values. (get_or up' k 0 ≤ length values) × (IsLeft on (p + 1) k → get_or up' k 0 < length values)) (sym same) (elim (cases_eq k p) [
        | inl same_p ↦ subst (λ x. (get_or up' x 0 ≤ end_of c r mine) × (IsLeft on (p + 1) x → get_or up' x 0 < end_of c r mine)) (sym same_p) (omega (arith, here, low), λ left. absurd (not_left on left))
        | inr other ↦ subst (λ x. (x ≤ end_of c r mine) × (IsLeft on (p + 1) k → x < end_of c r mine)) (sym (ups k other)) (h.few k region member)
      ]);
      late = h.late;
    }
  where
    not_left : (t : Then) → IsLeft t (p + 1) p → ⊥
    not_left Then.Late left = left
    not_left Then.Position left = absurd (omega (arith, left))
    not_left Then.Joined left = left

    read_now : (k : ℕ) → IsRead r mine k (get_or up k 0) → (k ≡ p) ⊎ (k ≢ p) → IsRead r mine k (get_or up' k 0)
    read_now k read (inl same) = read_less r k (get_or up k 0) (get_or up' k 0) mine (subst (λ x. get_or up x 0 ≤ get_or up' x 0) (sym same) (omega (arith, was, here))) read
    read_now k read (inr other) = subst (λ x. IsRead r mine k x) (sym (ups k other)) read

    clear_now : (q j : ℕ) → is_member r q mine ≡ true → get_or up' q 0 ≤ j → (q ≡ p) ⊎ (q ≢ p) → has (λ e. is_put_at r q j e.by e.verb) (put_event r p u b v ∷ leadership r mine) ≡ false
    clear_now q j member high (inl same) =
        let above : u + 1 ≤ j = (let at_p = subst (λ x. get_or up' x 0 ≤ j) same high in omega (arith, at_p, here)) in
        put_elsewhere r p u q j (has (λ e. is_put_at r q j e.by e.verb) (leadership r mine)) (λ is at. omega (arith, above, at))
        (h.clear q j member (subst (λ x. get_or up x 0 ≤ j) (sym same) (omega (arith, above, was))))
    clear_now q j member high (inr other) =
        put_elsewhere r p u q j (has (λ e. is_put_at r q j e.by e.verb) (leadership r mine)) (λ is at. other (sym is))
        (h.clear q j member (subst (λ x. x ≤ j) (ups q other) high))

-- all that is known is raised at p
pub raised_behind : (c : Config) (r b p : ℕ) (mine : List Event) (up : List ℕ) (reach reach' : List (Option ℕ)) (on : Then) → AtRaiseBehind c r b mine up reach p on → ((k : ℕ) → k ≢ p → get_or reach' k None ≡ get_or reach k None)
    → IsRaised up reach' p → RaisedBelow r (raise_event r p (get_or up p 0) ∷ mine) up reach' c.replicas
raised_behind c r b p mine up reach reach' on at reaches now k region member = (
  elim (cases_eq k p) [
    | inl same ↦ subst (λ x. IsRaised up reach' x) (sym same) now
    | inr other ↦ raised_other p k up up reach reach' other (λ j differs. refl) reaches (at.behind.raised k region other member)
  ],
  at.behind.read k region member,
)

-- p and all before it have what is known
pub done_behind : (c : Config) (r b p from : ℕ) (mine : List Event) (up : List ℕ) (reach : List (Option ℕ)) (on : Then) → from ≡ p + 1 → AtRaiseBehind c r b mine up reach p on
    → (k : ℕ) → k < c.replicas → is_member r k mine ≡ true → IsDone on k from → end_of c r mine ≤ get_or up k 0
done_behind c r b p from mine up reach on is at k region member done = elim (cases_eq k p) [
  | inl same ↦ subst (λ x. end_of c r mine ≤ get_or up x 0) (sym same) (let all = at.done in omega (arith, all))
  | inr other ↦ at.behind.have k region other member (less on other done)
]
  where
    less : (t : Then) → k ≢ p → IsDone t k from → IsDone t k p
    less Then.Late other low = omega (arith, low, is, other)
    less Then.Position other low = omega (arith, low, is, other)
    less Then.Joined other low = tt
