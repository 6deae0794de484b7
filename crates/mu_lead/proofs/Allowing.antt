-- The verb of each place is allowed.
use Rattle.std.proofs.Common.{List, None, Some, ap, arith, false, get_or, inl, inr, is_some, length, mod-lt, refl, sym, true, true≢false, ℕ, ◌+◌, ◌<◌, ◌%◌, ◌∙◌, ◌≡◌, ◌≤◌}
use Rattle.std.specs.Prelude.{nat_le, nat_lt}
use Rattle.std.specs.List.{slice_get}
use Rattle.std.specs.declared.option.Option.{Option}
use Rattle.std.proofs.lemmas.Bool.{and_from, le-leb, le-ltb, leb-true, lt-ltb}
use Rattle.std.proofs.lemmas.Option.{slice_get-get_or}
use Rattle.mu_model.specs.declared.config.Config.{Config}
use Rattle.mu_model.specs.declared.event.Event.{Event}
use Rattle.mu_model.specs.declared.event.Target.{Target}
use Rattle.mu_model.specs.declared.event.Verb.{Verb}
use Rattle.mu_model.specs.Allowed.{Needs}
use Rattle.mu_model.specs.Contents.{config_word, row_count}
use Rattle.mu_model.specs.Entering.{has_confirmed_majority, has_read_min, number_allowed}
use Rattle.mu_model.specs.Histories.{all_below, count_below}
use Rattle.mu_model.specs.Knowledge.{is_filled, known, wrote}
use Rattle.mu_model.specs.Leaderships.{is_member, is_over, majority_of, noted_grant, proposal_number}
use Rattle.mu_model.specs.Parts.{IsPossible}
use Rattle.mu_model.specs.Placing.{is_within_ring, reaches_head}
use Rattle.mu_model.specs.Room.{reserve}
use Rattle.mu_model.proofs.Basics.{none_some}
use Rattle.mu_model.proofs.Scans.{each_all}
use Rattle.mu_agree.proofs.Counting.{count_more}
use Rattle.mu_agree.proofs.Readings.{known_within}
use Rattle.mu_model.proofs.Putting.{new_met, put_points, raise_points}
use Rattle.mu_lead.specs.Confirming.{AtAsk, AtConfirm, AtEnterMin, AtPutMin, AtReadMin, Confirmed, HasGrant, HoldsGrants}
use Rattle.mu_lead.specs.Leading.{AtLateEnter, AtLatePut, AtLearn, AtPutBehind, Brought, IsReached, end_of}
use Rattle.mu_lead.specs.Offering.{AtPut}
use Rattle.mu_lead.specs.declared.place.Then.{Then}

pub may_ask : (c : Config) (r p : ℕ) (mine : List Event) → AtAsk c r mine p → Needs c r mine (Verb.Ask p)
may_ask c r p mine at = (at.region, (elim at.asked [ inl z ↦ inl z | inr a ↦ inr (a.1.begun, a.0) ], tt))

pub may_confirm : (c : Config) (r p : ℕ) (mine : List Event) → AtConfirm c r mine p → Needs c r mine (Verb.Fence p)
may_confirm c r p mine at = (at.region, (at.fresh.begun, tt))

pub may_read_min : (c : Config) (r p : ℕ) (mine : List Event) → AtReadMin c r mine p → Needs c r mine (Verb.Min p)
may_read_min c r p mine at = (at.region, (at.granted, (at.telling.fresh.goes_on, tt)))

-- if all noted regions told their minimum, a majority with the own did
all_told : (c : Config) (r : ℕ) (mine : List Event) → r < c.replicas → Confirmed c r mine → ((p : ℕ) → p < c.replicas → is_some (noted_grant r p mine) ≡ true → has_read_min r p mine ≡ true) → has_confirmed_majority c r mine ≡ true
all_told c r mine own confirmed told =
    let more = count_more c.replicas (λ p. is_some (noted_grant r p mine)) (λ p. has_read_min r p mine) told in
    let many = confirmed.many in
    and_from (has_read_min r r mine) (nat_le (majority_of c.replicas) (count_below c.replicas (λ p. has_read_min r p mine))) (told r own confirmed.own)
    (le-leb (majority_of c.replicas) (count_below c.replicas (λ p. has_read_min r p mine)) (omega (arith, more, many)))

pub may_enter_min : (c : Config) (r b p : ℕ) (mine : List Event) → r < c.replicas → AtEnterMin c r b mine p → Needs c r mine (Verb.Enter p Target.Min)
may_enter_min c r b p mine own at =
    let n = at.numbered in
    (at.region, (at.granted, (n.goes_on, (n.told p at.region at.granted, (λ none. all_told c r mine own n.confirmed n.told, tt)))))

pub may_put_min : (c : Config) (r b p : ℕ) (mine : List Event) → AtPutMin c r b mine p → Needs c r mine (Verb.PutMin p b)
may_put_min c r b p mine at =
    let e = at.entering in
    let n = e.numbered in
    (e.region, (n.goes_on, (at.entered, (n.low p e.region e.granted, (n.allowed, tt)))))

is_noted : (r p : ℕ) (mine : List Event) → HasGrant r p mine → is_some (noted_grant r p mine) ≡ true
is_noted r p mine held = ap is_some held.noted

-- a position below the end is there
pub position_below : (c : Config) (r i : ℕ) (mine : List Event) → IsPossible c r mine → i < end_of c r mine → i ≤ row_count c + reserve c
position_below c r i mine possible low = let most = known_within c r mine possible in omega (arith, most, low)

pub may_learn : (c : Config) (r b p : ℕ) (mine : List Event) (up : List ℕ) (reach : List (Option ℕ)) → get_or up p 0 ≤ row_count c + reserve c + 1 → AtLearn c r b mine up reach p → Needs c r mine (Verb.Look p (end_of c r mine))
may_learn c r b p mine up reach within at = (at.region, (let low = at.lacks in omega (arith, low, within), (inr (is_noted r p mine (at.leads.held p at.region at.member)), tt)))

pub may_look_behind : (c : Config) (r p i : ℕ) (mine : List Event) → IsPossible c r mine → HoldsGrants c r mine → p < c.replicas → is_member r p mine ≡ true → i < end_of c r mine → Needs c r mine (Verb.Look p i)
may_look_behind c r p i mine possible held region member low = (region, (position_below c r i mine possible low, (inr (is_noted r p mine (held p region member)), tt)))

pub may_look_new : (c : Config) (r p i : ℕ) (mine : List Event) → HoldsGrants c r mine → p < c.replicas → is_member r p mine ≡ true → i ≤ row_count c + reserve c → Needs c r mine (Verb.Look p i)
may_look_new c r p i mine held region member low = (region, (low, (inr (is_noted r p mine (held p region member)), tt)))

pub allowed_put : (r b : ℕ) (mine : List Event) (o : Option ℕ) → o ≡ Some b → number_allowed r mine b o
allowed_put r b mine None is = absurd (none_some b is)
allowed_put r b mine (Some x) is = sym (same x is)
  where
    same : (x : ℕ) → Some x ≡ Some b → x ≡ b
    same x is = cc

pub may_enter_late : (c : Config) (r b p : ℕ) (mine : List Event) (up : List ℕ) (reach : List (Option ℕ)) → AtLateEnter c r b mine up reach p → Needs c r mine (Verb.Enter p Target.Min)
may_enter_late c r b p mine up reach at =
    let t = at.told in
    let leads = t.late.level.leads in
    (t.late.region, (t.granted, (leads.goes_on, (t.told, (λ none. absurd (none_some b (sym none ∙ leads.numbered)), tt)))))

pub may_put_late : (c : Config) (r b p : ℕ) (mine : List Event) (up : List ℕ) (reach : List (Option ℕ)) → AtLatePut c r b mine up reach p → Needs c r mine (Verb.PutMin p b)
may_put_late c r b p mine up reach at =
    let t = at.entering.told in
    let leads = t.late.level.leads in
    (t.late.region, (leads.goes_on, (at.entered, (t.low, (allowed_put r b mine (proposal_number r mine) leads.numbered, tt)))))

pub may_enter_place : (c : Config) (r p i : ℕ) (mine : List Event) → 0 < c.ring → p < c.replicas → is_member r p mine ≡ true → is_over r mine ≡ false → Needs c r mine (Verb.Enter p (Target.Place (i % c.ring)))
may_enter_place c r p i mine ring region member goes_on = (region, (member, (goes_on, (mod-lt i ring, tt))))

-- a value below the end is the one known there
known_there : (values : List ℕ) (i : ℕ) → i < length values → slice_get values i ≡ Some (get_or values i 0)
known_there values i low = slice_get-get_or values i 0 low

pub may_put_behind : (c : Config) (r b p : ℕ) (mine : List Event) (up : List ℕ) (reach : List (Option ℕ)) (then : Then) → IsPossible c r mine → Brought c r mine p (get_or up p 0) → IsReached r mine p (get_or reach p None)
    → AtPutBehind c r b mine up reach p then → Needs c r mine (Verb.PutSlot p (get_or up p 0) b (get_or (known c r mine) (get_or up p 0) 0))
may_put_behind c r b p mine up reach then possible brought reached at =
    let near = at.near in
    let behind = near.behind in
    let leads = behind.leads in
    put_points c r mine p (get_or up p 0) b (get_or (known c r mine) (get_or up p 0) 0) behind.region (position_below c r (get_or up p 0) mine possible near.lacks)
    record {
      within_ring = λ version. reached (get_or up p 0) c.ring (near.near version);
      not_over = leads.goes_on;
      carried = leads.carried;
      member = behind.member;
      numbered = leads.numbered;
      entered = at.entered;
      looked = at.looked;
      caught_up = brought.caught_up;
      value = inl (known_there (known c r mine) (get_or up p 0) near.lacks);
    }

-- all below a position are filled if the region has all below a greater one
filled_below : (c : Config) (r p u v : ℕ) (mine : List Event) → v ≤ u → Brought c r mine p u → all_below v (is_filled c r p mine) ≡ true
filled_below c r p u v mine low brought = each_all v (is_filled c r p mine) (λ j l. brought.filled j (omega (arith, l, low)))

pub may_raise : (c : Config) (r p u v : ℕ) (mine : List Event) → p < c.replicas → v ≤ u → v ≤ end_of c r mine → Brought c r mine p u → Needs c r mine (Verb.RaiseFuo p v)
may_raise c r p u v mine region low short brought = raise_points c r mine p v region short (filled_below c r p u v mine low brought)

-- a FUO that reaches a position has it within the ring
within_reach : (i ring u : ℕ) (reach : Option ℕ) → 0 < ring → i ≤ u → reaches_head u reach ≡ true → is_within_ring i ring reach ≡ true
within_reach i ring u None some low is = absurd (true≢false (sym is))
within_reach i ring u (Some x) some low is = lt-ltb i (x + ring) (let h = leb-true u x is in omega (arith, h, low, some))

pub may_put_new : (c : Config) (r b v p : ℕ) (mine : List Event) (up : List ℕ) (reach : List (Option ℕ)) → 0 < c.ring → Brought c r mine p (get_or up p 0) → IsReached r mine p (get_or reach p None)
    → AtPut c r b v mine up reach p → Needs c r mine (Verb.PutSlot p (end_of c r mine) b v)
may_put_new c r b v p mine up reach ring brought reached at =
    let enter = at.entering in
    let o = enter.offering in
    let have = o.have p enter.region enter.member in
    put_points c r mine p (end_of c r mine) b v enter.region o.within
    record {
      within_ring = λ version. reached (end_of c r mine) c.ring (within_reach (end_of c r mine) c.ring (get_or up p 0) (get_or reach p None) ring have (o.raised p enter.region enter.member).0);
      not_over = o.goes_on;
      carried = o.carried;
      member = enter.member;
      numbered = o.numbered;
      entered = at.entered;
      looked = at.looked_before;
      caught_up = λ j low. brought.caught_up j (omega (arith, low, have));
      value = inr ((new_met c r mine (end_of c r mine) v).0 o.new);
    }

pub may_write : (c : Config) (r j k n : ℕ) (mine : List Event) → j < row_count c → k < 12 → wrote r j k mine ≡ nat_lt k n → n ≡ k → Needs c r mine (Verb.WriteRow j k (config_word c j k))
may_write c r j k n mine row low words same = (row, (low, (refl, (words ∙ lt-irrefl-b k n same, tt))))
  where
    lt-irrefl-b : (k n : ℕ) → n ≡ k → nat_lt k n ≡ false
    lt-irrefl-b k n same = le-ltb k n (omega (arith, same))
