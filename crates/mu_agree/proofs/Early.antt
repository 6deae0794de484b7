-- Before a value is chosen at i, nobody knows i, and each number has one value there.
use Rattle.std.proofs.Common.{◌≡◌, ℕ, ◌+◌, ◌<◌, ◌≤◌, ◌⊎◌, inl, inr, max, Bool, true, false, cond, ◌&&◌, ◌||◌, not, ◌==◌, List, [], ◌∷◌, ◌++◌, refl, sym, ◌∙◌, ap, arith, Some, None, subst, eqb-true, true≢false, length, set, length-set}
use Rattle.std.specs.declared.option.Option.{Option}
use Rattle.std.specs.Prelude.{nat_lt, nat_le}
use Rattle.std.specs.List.{slice_get}
use Rattle.std.proofs.lemmas.List.{length_push}
use Rattle.std.proofs.lemmas.Option.{slice_get_within}
use Rattle.std.proofs.lemmas.Bool.{and_parts, eq-eqb, ltb-true, leb-true, not-true, or_cases, cases_lt, cases_order}
use Rattle.mu_model.specs.declared.config.Config.{Config}
use Rattle.mu_model.specs.declared.event.Event.{Event}
use Rattle.mu_model.specs.declared.event.Verb.{Verb}
use Rattle.mu_model.specs.declared.event.Answer.{Answer}
use Rattle.mu_model.specs.Allowed.{Needs}
use Rattle.mu_model.specs.Answers.{answer_of, drained, put_answer}
use Rattle.mu_model.specs.Histories.{all_below, count_below, earlier_or, has, max_with, part}
use Rattle.mu_model.specs.Knowledge.{entry_seen, greatest_fuo_read, grown, is_accepted_by_all, is_known_decided, is_number, is_put_done, known, lands_entry, learnt_by}
use Rattle.mu_model.specs.Leaderships.{begins_leadership, has_quorum, is_member, is_over, leadership, majority_of, proposal_number}
use Rattle.mu_model.specs.Legal.{IsLegalHistory}
use Rattle.mu_model.specs.Picks.{first_value, joined_since_first_put, may_propose}
use Rattle.mu_model.specs.Regions.{region_fuo, region_log}
use Rattle.mu_agree.proofs.Joins.{joined_late, not_late}
use Rattle.mu_agree.proofs.Legal.{event_after, legal_induction}
use Rattle.mu_model.proofs.Scans.{all_at}
use Rattle.mu_agree.proofs.Counting.{count_more}
use Rattle.mu_agree.proofs.Slots.{put_in'}
use Rattle.mu_agree.proofs.Knowing.{Teaches, teaches, by_put, by_look}
use Rattle.mu_agree.proofs.Landings.{no_gaps, at_part, has_more, has_since, has_implied, has_cases, has_of_part, look_reply, look_stands, length_put}
use Rattle.mu_agree.proofs.Landed.{has_landed, slot_landed, is_put}
use Rattle.mu_agree.proofs.Offers.{first_offered, offer_stays, first_is}
use Rattle.mu_agree.proofs.Choice.{Chosen, Blocked, blocked_stays, Found, none_accepted, takes_highest, found, Seeing, seeing}
use Rattle.mu_model.proofs.Basics.{same_some}
use Rattle.mu_model.proofs.Putting.{MayPutSlot, IsNew, put_facts}

-- what every member of a leadership took is chosen
pub done_lands : (r p i b v by : ℕ) (verb : Verb) (a : Answer) → is_put_done r p i b v by verb a ≡ true → slot_landed p i b v verb a ≡ true
done_lands r p i b v by (Verb.PutSlot q j n w) Answer.Done m = (and_parts (by == r) ((q == p) && ((j == i) && ((n == b) && (w == v)))) m).1
done_lands r p i b v by verb a m = absurd (true≢false (sym m))

pub landed_of : (r p i b v : ℕ) (e : Event) (past : List Event) → has (λ f. slot_landed p i b v f.verb f.answer) (e ∷ part r past) ≡ true → has_landed p i b v (e ∷ past) ≡ true
landed_of r p i b v e past m =
    elim (has_cases (slot_landed p i b v e.verb e.answer) (has (λ f. slot_landed p i b v f.verb f.answer) (part r past)) m) [
      | inl k ↦ rw k refl
      | inr k ↦ has_more (λ f. slot_landed p i b v f.verb f.answer) e past (has_of_part (λ f. slot_landed p i b v f.verb f.answer) r past k)
    ]

pub accepted_chosen : (c : Config) (r i b v : ℕ) (e : Event) (past : List Event) → is_accepted_by_all c r (e ∷ part r past) i b v ≡ true → Chosen c i b v (e ∷ past)
accepted_chosen c r i b v e past h =
    let now : List Event = e ∷ part r past in
    let all : Bool = all_below c.replicas (λ p. not (is_member r p now) || has (lands_entry r p i b v) (leadership r now)) in
    let x = and_parts (not (is_over r now)) (is_number (proposal_number r now) b && (has_quorum c r now && all)) h in
    let y = and_parts (is_number (proposal_number r now) b) (has_quorum c r now && all) x.1 in
    let z = and_parts (has_quorum c r now) all y.1 in
    let m = leb-true (majority_of c.replicas) (count_below c.replicas (λ p. is_member r p now)) (and_parts (is_member r r now) (nat_le (majority_of c.replicas) (count_below c.replicas (λ p. is_member r p now))) z.0).1 in
    let k = count_more c.replicas (λ p. is_member r p now) (λ p. has_landed p i b v (e ∷ past)) (λ p l f. took p (in_all (is_member r p now) (has (lands_entry r p i b v) (leadership r now)) f (all_at c.replicas (λ p. not (is_member r p now) || has (lands_entry r p i b v) (leadership r now)) z.1 p l))) in
    omega arith
  where
    in_all : (x y : Bool) → x ≡ true → (not x || y) ≡ true → y ≡ true
    in_all true y m k = k
    in_all false y m k = absurd (true≢false (sym m))

    took : (p : ℕ) → has (lands_entry r p i b v) (leadership r (e ∷ part r past)) ≡ true → has_landed p i b v (e ∷ past) ≡ true
    took p k = landed_of r p i b v e past (has_implied (lands_entry r p i b v) (λ f. slot_landed p i b v f.verb f.answer) (λ f n. done_lands r p i b v f.by f.verb f.answer n) (e ∷ part r past) (has_since (lands_entry r p i b v) (begins_leadership r) (e ∷ part r past) k))

-- an entry that was seen stands
abbrev pub SeenStands : ℕ → ℕ → ℕ → List Event → Type 0
SeenStands r p j past = has (entry_seen r p j) (part r past) ≡ true → j < length (region_log p past)

longer : (c : Config) (p by : ℕ) (v : Verb) (past : List Event) → length (region_log p past) ≤ length (region_log p (event_after c past by v ∷ past))
longer c p by (Verb.PutSlot q j n w) past = go (put_answer (drained by q past))
  where
    at : (t : Bool) → length (region_log p past) ≤ length (cond t (put_in' (region_log p past) j (n, w)) (region_log p past))
    at true = (length_put (region_log p past) j (n, w)).0
    at false = omega arith

    go : (a : Answer) → length (region_log p past) ≤ length (region_log p (record { by = by; verb = Verb.PutSlot q j n w; answer = a } ∷ past))
    go Answer.Done = at (q == p)
    go a = omega arith
longer c p by v past = omega arith

seen_step : (c : Config) (r p j by : ℕ) (v : Verb) (past : List Event) → SeenStands r p j past → SeenStands r p j (event_after c past by v ∷ past)
seen_step c r p j by (Verb.Look q i) past s =
    at_part (λ J. has (entry_seen r p j) J ≡ true → j < length (region_log p past)) r (event_after c past by (Verb.Look q i)) past s (λ _. go (look_reply c.ring (region_log q past) i) refl)
  where
    go : (a : Answer) → look_reply c.ring (region_log q past) i ≡ a → has (entry_seen r p j) (record { by = by; verb = Verb.Look q i; answer = a } ∷ part r past) ≡ true → j < length (region_log p past)
    go (Answer.Entry b v) e m = elim (has_cases ((by == r) && ((q == p) && (i == j))) (has (entry_seen r p j) (part r past)) m) [
      | inl k ↦ (let x = and_parts (q == p) (i == j) (and_parts (by == r) ((q == p) && (i == j)) k).1 in
          let l = slice_get_within (region_log q past) i (b, v) (look_stands c.ring (region_log q past) i b v e) in
          let s1 : length (region_log q past) ≡ length (region_log p past) = ap (λ z. length (region_log z past)) (eqb-true q p x.0) in
          let s2 = eqb-true i j x.1 in omega arith)
      | inr k ↦ s k
    ]
    go a e m = s m
seen_step c r p j by (Verb.PutSlot q i b w) past s =
    let l = longer c p by (Verb.PutSlot q i b w) past in
    at_part (λ J. has (entry_seen r p j) J ≡ true → j < length (region_log p (event_after c past by (Verb.PutSlot q i b w) ∷ past))) r (event_after c past by (Verb.PutSlot q i b w)) past
    (λ m. let k = s m in omega arith) (λ _ m. let k = s m in omega arith)
seen_step c r p j by v past s = at_part (λ J. has (entry_seen r p j) J ≡ true → j < length (region_log p past)) r (event_after c past by v) past s (λ _. s)

pub seen_stands : (c : Config) (r p j : ℕ) (past : List Event) → IsLegalHistory c past → SeenStands r p j past
seen_stands c r p j = legal_induction c (SeenStands r p j) (λ m. cc) (λ past by v h may s. seen_step c r p j by v past s)

-- if r may trust a look at i, the region is protected there
abbrev pub Protected : ℕ → ℕ → List Event → Type 0
Protected p i past = (i < region_fuo p past) ⊎ (i + 1 < length (region_log p past))

pub trusted_is_protected : (c : Config) (r p i : ℕ) (past : List Event) → IsLegalHistory c past → is_known_decided r (part r past) p i ≡ true → Protected p i past
trusted_is_protected c r p i past h m =
    elim (or_cases (nat_lt i (greatest_fuo_read r p (part r past))) ((p == r) && has (entry_seen r r (i + 1)) (part r past)) m) [
      | inl k ↦ (let x = ltb-true i (greatest_fuo_read r p (part r past)) k in let y = (no_gaps c p past h).read r in inl (omega arith))
      | inr k ↦ (let x = and_parts (p == r) (has (entry_seen r r (i + 1)) (part r past)) k in
          let y = seen_stands c r r (i + 1) past h x.1 in
          inr (subst (λ z. i + 1 < length (region_log z past)) (sym (eqb-true p r x.0)) y))
    ]

abbrev pub Safe : Config → ℕ → List Event → Type 0
Safe c i past = (b v n w : ℕ) → first_offered i b past ≡ Some v → n < b → (v ≡ w → ⊥) → Blocked c i n w past

pub record Early (c : Config) (i : ℕ) (past : List Event) : Type 0 where
  pub unknown : (r : ℕ) → length (known c r (part r past)) ≤ i
  pub own : (p b v : ℕ) → has_landed p i b v past ≡ true → first_offered i b past ≡ Some v
  pub safe : Safe c i past
  pub short : (p : ℕ) → length (region_log p past) ≤ i + 1
  pub fuo : (p : ℕ) → region_fuo p past ≤ i

pub unprotected : (c : Config) (i p : ℕ) (past : List Event) → Early c i past → Protected p i past → ⊥
unprotected c i p past s (inl h) = let k = s.fuo p in omega arith
unprotected c i p past s (inr h) = let k = s.short p in omega arith

-- what a position that may be put is
pub position_within : (c : Config) (r p j b v : ℕ) (J : List Event) → MayPutSlot c r J p j b v → j ≤ length (known c r J)
position_within c r p j b v J may = elim may.value [ inl k ↦ (let l = slice_get_within (known c r J) j v k in omega arith) | inr k ↦ (let l = k.next in omega arith) ]

unknown_kept : (c : Config) (i by : ℕ) (v : Verb) (past : List Event) → IsLegalHistory c past → Early c i past → ((b x : ℕ) → Chosen c i b x (event_after c past by v ∷ past) → ⊥) → (r : ℕ) → length (known c r (part r (event_after c past by v ∷ past))) ≤ i
unknown_kept c i by v past h s open' r = at_part (λ J. length (known c r J) ≤ i) r (event_after c past by v) past (s.unknown r) (λ _. go (learnt_by c r (part r past) (length (known c r (part r past))) by v (answer_of c by past v) (event_after c past by v ∷ part r past)) refl)
  where
    at : (x : ℕ) → i ≡ length (known c r (part r past)) → Teaches c r (part r past) (event_after c past by v ∷ part r past) (length (known c r (part r past))) x by v (answer_of c by past v) → ⊥
    at x e t = teach_not x e v (answer_of c by past v) refl t
      where
        teach_not : (x : ℕ) → i ≡ length (known c r (part r past)) → (v' : Verb) (a : Answer) → event_after c past by v ≡ record { by = by; verb = v'; answer = a } → Teaches c r (part r past) (event_after c past by v ∷ part r past) (length (known c r (part r past))) x by v' a → ⊥
        teach_not x e v' a k (by_put {b = b} o acc) = open' b x (accepted_chosen c r i b x (event_after c past by v) past (subst (λ z. is_accepted_by_all c r (event_after c past by v ∷ part r past) z b x ≡ true) (sym e) acc))
        teach_not x e v' a k (by_look {p = p} o tr) = unprotected c i p past s (trusted_is_protected c r p i past h (subst (λ z. is_known_decided r (part r past) p z ≡ true) (sym e) tr))

    go : (o : Option ℕ) → learnt_by c r (part r past) (length (known c r (part r past))) by v (answer_of c by past v) (event_after c past by v ∷ part r past) ≡ o → length (grown (known c r (part r past)) o) ≤ i
    go None e = s.unknown r
    go (Some x) e =
        let l = length_push (known c r (part r past)) x in
        let m = s.unknown r in
        elim (cases_lt (length (known c r (part r past))) i) [
          | inl k ↦ omega arith
          | inr k ↦ absurd (at x (omega arith) (teaches c r (length (known c r (part r past))) x by v (answer_of c by past v) (part r past) (event_after c past by v ∷ part r past) e))
        ]

-- where the value of a put at i comes from
pub data PutValue (c : Config) (r i b v : ℕ) (past : List Event) : Type 0 where
  copies_known : slice_get (known c r (part r past)) i ≡ Some v → PutValue c r i b v past
  repeats_offer : first_offered i b past ≡ Some v → first_value r i (part r past) ≡ Some v → i ≡ length (known c r (part r past)) → joined_late r i (part r past) ≡ false → PutValue c r i b v past
  offers_first : first_offered i b past ≡ None → first_value r i (part r past) ≡ None → i ≡ length (known c r (part r past)) → Found c r i b v past → Seeing c r i b v past → PutValue c r i b v past

pub put_value : (c : Config) (r p i b v : ℕ) (past : List Event) → IsLegalHistory c past → MayPutSlot c r (part r past) p i b v → PutValue c r i b v past
put_value c r p i b v past h may = elim may.value [ inl k ↦ copies_known k | inr new ↦ go (first_value r i (part r past)) refl new ]
  where
    go : (o : Option ℕ) → first_value r i (part r past) ≡ o → IsNew c r (part r past) i v → PutValue c r i b v past
    go None e new = let s = seeing c r p i b v past may new e in offers_first (first_is c r i past h b may.numbered ∙ e) e new.next (found c r i b v past h s) s
    go (Some f) e new =
        let k : ((v == f) && not (joined_since_first_put r i (part r past))) ≡ true = subst (λ o. may_propose c r (part r past) i v o ≡ true) e new.value in
        let x = and_parts (v == f) (not (joined_since_first_put r i (part r past))) k in
        let same : f ≡ v = sym (eqb-true v f x.0) in
        repeats_offer (first_is c r i past h b may.numbered ∙ e ∙ ap Some same) (e ∙ ap Some same) new.next (not_late r i f (part r past) e (not-true (joined_since_first_put r i (part r past)) x.1))

-- a first offer blocks every other value under lower numbers
pub fresh_safe : (c : Config) (r i b v : ℕ) (past : List Event) → Found c r i b v past
    → ((m p : ℕ) → has_landed p i m v past ≡ true → (first_offered i m past ≡ Some v) × ((n w : ℕ) → n < m → (v ≡ w → ⊥) → Blocked c i n w past))
    → (n w : ℕ) → n < b → (v ≡ w → ⊥) → Blocked c i n w past
fresh_safe c r i b v past (none_accepted _ many) low n w l d = inr (many n w l)
fresh_safe c r i b v past (takes_highest m p _ at many) low n w l d =
    elim (cases_order n m) [
      | inl e ↦ inl (record { u = v; is = subst (λ z. first_offered i z past ≡ Some v) (sym e) (low m p at).0; differs = d })
      | inr o ↦ elim o [ inl k ↦ (low m p at).1 n w k d | inr k ↦ inr (many n w k l) ]
    ]

pub past_end : (xs : List ℕ) (i v : ℕ) → length xs ≤ i → slice_get xs i ≡ Some v → ⊥
past_end xs i v l e = let k = slice_get_within xs i v e in omega arith

early_value : (c : Config) (i by q b w : ℕ) (past : List Event) → IsLegalHistory c past → Early c i past → MayPutSlot c by (part by past) q i b w
    → (first_offered i b past ≡ Some w) ⊎ ((first_offered i b past ≡ None) × ((n x : ℕ) → n < b → (w ≡ x → ⊥) → Blocked c i n x past))
early_value c i by q b w past h s may = go (put_value c by q i b w past h may)
  where
    go : PutValue c by i b w past → (first_offered i b past ≡ Some w) ⊎ ((first_offered i b past ≡ None) × ((n x : ℕ) → n < b → (w ≡ x → ⊥) → Blocked c i n x past))
    go (copies_known k) = absurd (past_end (known c by (part by past)) i w (s.unknown by) k)
    go (repeats_offer o _ _ _) = inl o
    go (offers_first o _ _ f _) = inr (o, fresh_safe c by i b w past f (λ m p l. (s.own p m w l, λ n x k d. s.safe m w n x (s.own p m w l) k d)))

-- the offer under b after a put at i under b
pub offered_now : (w : ℕ) (o : Option ℕ) → ((o ≡ Some w) ⊎ (o ≡ None)) → earlier_or (Some w) o ≡ Some w
offered_now w None k = refl
offered_now w (Some x) (inl k) = k
offered_now w (Some x) (inr k) = cc

pub early_own : (c : Config) (i by q j n w : ℕ) (past : List Event) → IsLegalHistory c past → Early c i past → Needs c by (part by past) (Verb.PutSlot q j n w)
    → (a : Answer) → (p b v : ℕ) → has_landed p i b v (record { by = by; verb = Verb.PutSlot q j n w; answer = a } ∷ past) ≡ true → first_offered i b (record { by = by; verb = Verb.PutSlot q j n w; answer = a } ∷ past) ≡ Some v
early_own c i by q j n w past h s may Answer.Done p b v m = go ((q == p) && ((j == i) && ((n == b) && (w == v)))) refl m
  where
    f : Event
    f = record { by = by; verb = Verb.PutSlot q j n w; answer = Answer.Done }

    go : (t : Bool) → ((q == p) && ((j == i) && ((n == b) && (w == v)))) ≡ t → cond t true (has_landed p i b v past) ≡ true → first_offered i b (record { by = by; verb = Verb.PutSlot q j n w; answer = Answer.Done } ∷ past) ≡ Some v
    go false k l = offer_stays i b v (record { by = by; verb = Verb.PutSlot q j n w; answer = Answer.Done }) past (s.own p b v l)
    go true k l =
        let x = is_put p i b v q j n w k in
        let at : MayPutSlot c by (part by past) q i b w = subst (λ z. MayPutSlot c by (part by past) q i z w) x.number (subst (λ z. MayPutSlot c by (part by past) q z n w) x.position (put_facts c by (part by past) q j n w may)) in
        let e1 : (j == i) ≡ true = eq-eqb j i x.position in
        let e2 : (n == b) ≡ true = eq-eqb n b x.number in
        rw (e1, e2) (offered_now w (first_offered i b past) (elim (early_value c i by q b w past h s at) [ inl o ↦ inl o | inr o ↦ inr o.0 ]) ∙ ap Some x.value)
early_own c i by q j n w past h s may a p b v m = offer_stays i b v (record { by = by; verb = Verb.PutSlot q j n w; answer = a }) past (s.own p b v m)

pub early_safe : (c : Config) (i by q j n w : ℕ) (past : List Event) → IsLegalHistory c past → Early c i past → Needs c by (part by past) (Verb.PutSlot q j n w) → Safe c i (event_after c past by (Verb.PutSlot q j n w) ∷ past)
early_safe c i by q j n w past h s may b v m x e l d = blocked_stays c i m x by (Verb.PutSlot q j n w) past h may (go (first_offered i b past) refl ((j == i) && (n == b)) refl e)
  where
    go : (o : Option ℕ) → first_offered i b past ≡ o → (t : Bool) → ((j == i) && (n == b)) ≡ t → earlier_or (cond t (Some w) None) o ≡ Some v → Blocked c i m x past
    go (Some y) k true ht e' = s.safe b v m x (k ∙ e') l d
    go o k false ht e' = s.safe b v m x (k ∙ e') l d
    go None k true ht e' =
        let y = and_parts (j == i) (n == b) ht in
        let at : MayPutSlot c by (part by past) q i b w = subst (λ z. MayPutSlot c by (part by past) q i z w) (eqb-true n b y.1) (subst (λ z. MayPutSlot c by (part by past) q z n w) (eqb-true j i y.0) (put_facts c by (part by past) q j n w may)) in
        elim (early_value c i by q b w past h s at) [
          | inl o ↦ (let z : None ≡ Some w = sym k ∙ o in cc)
          | inr o ↦ o.1 m x l (λ z. d (sym (same_some w v e') ∙ z))
        ]

pub length_most : (log : List (ℕ × ℕ)) (j : ℕ) (z : ℕ × ℕ) → length (put_in' log j z) ≤ max (length log) (j + 1)
length_most log j z = go (j == length log) refl
  where
    go : (t : Bool) → (j == length log) ≡ t → length (cond t (log ++ z ∷ []) (set log j z)) ≤ max (length log) (j + 1)
    go true h = let l = length_push log z in let e = eqb-true j (length log) h in omega arith
    go false h = let l = length-set log j z in omega arith

pub early_short : (c : Config) (i by q j n w p : ℕ) (past : List Event) → Early c i past → j ≤ i → (a : Answer) → length (region_log p (record { by = by; verb = Verb.PutSlot q j n w; answer = a } ∷ past)) ≤ i + 1
early_short c i by q j n w p past s k Answer.Done = go (q == p)
  where
    go : (t : Bool) → length (cond t (put_in' (region_log p past) j (n, w)) (region_log p past)) ≤ i + 1
    go true = let l = length_most (region_log p past) j (n, w) in let m = s.short p in omega arith
    go false = s.short p
early_short c i by q j n w p past s k a = s.short p

early_fuo : (c : Config) (i by q u p : ℕ) (past : List Event) → Early c i past → u ≤ i → (t : Bool) → max_with (cond t (Some u) None) (region_fuo p past) ≤ i
early_fuo c i by q u p past s k true = let l = s.fuo p in omega arith
early_fuo c i by q u p past s k false = s.fuo p

-- one step before the choice, if it chooses nothing
pub early_step : (c : Config) (i by : ℕ) (v : Verb) (past : List Event) → IsLegalHistory c past → Needs c by (part by past) v → Early c i past → ((b x : ℕ) → Chosen c i b x (event_after c past by v ∷ past) → ⊥) → Early c i (event_after c past by v ∷ past)
early_step c i by (Verb.PutSlot q j n w) past h may s open' = record {
  unknown = unknown_kept c i by (Verb.PutSlot q j n w) past h s open';
  own = early_own c i by q j n w past h s may (put_answer (drained by q past));
  safe = early_safe c i by q j n w past h s may;
  short = λ p. early_short c i by q j n w p past s (let k = position_within c by q j n w (part by past) (put_facts c by (part by past) q j n w may) in let l = s.unknown by in omega arith) (put_answer (drained by q past));
  fuo = s.fuo;
}
early_step c i by (Verb.RaiseFuo q u) past h may s open' = record {
  unknown = unknown_kept c i by (Verb.RaiseFuo q u) past h s open';
  own = s.own;
  safe = λ b x m y e l d. blocked_stays c i m y by (Verb.RaiseFuo q u) past h may (s.safe b x m y e l d);
  short = s.short;
  fuo = λ p. early_fuo c i by q u p past s (let k = may.1.0 in let l = s.unknown by in omega arith) (q == p);
}
early_step c i by v past h may s open' = record {
  unknown = unknown_kept c i by v past h s open';
  own = s.own;
  safe = λ b x m y e l d. blocked_stays c i m y by v past h may (s.safe b x m y e l d);
  short = s.short;
  fuo = s.fuo;
}

pub early_start : (c : Config) (i : ℕ) → Early c i []
early_start c i = record { unknown = λ r. omega arith; own = λ p b v m. cc; safe = λ b v n w e. cc; short = λ p. omega arith; fuo = λ p. omega arith }
