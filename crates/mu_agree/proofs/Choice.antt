-- Which values may still be chosen at a position.
use Rattle.std.proofs.Common.{◌≡◌, ℕ, zero, suc, ◌<◌, ◌≤◌, ◌⊎◌, inl, inr, Bool, true, false, cond, ◌&&◌, ◌||◌, not, List, [], ◌∷◌, refl, sym, ◌∙◌, ap, arith, Some, None, subst, eqb-true, true≢false}
use Rattle.std.specs.declared.option.Option.{Option}
use Rattle.std.specs.Prelude.{is_some, nat_lt, nat_le}
use Rattle.std.proofs.lemmas.Bool.{and_parts, and_from, ltb-true, lt-ltb, leb-true, not-true, ltb-false, cases_eq}
use Rattle.mu_model.specs.declared.config.Config.{Config}
use Rattle.mu_model.specs.declared.event.Event.{Event}
use Rattle.mu_model.specs.declared.event.Verb.{Verb}
use Rattle.mu_model.specs.declared.event.Answer.{Answer}
use Rattle.mu_model.specs.Allowed.{Needs}
use Rattle.mu_model.specs.Histories.{all_below, count_below, has, newer_or, newest, part}
use Rattle.mu_model.specs.Leaderships.{begins_leadership, is_member, leadership, majority_of, proposal_number}
use Rattle.mu_model.specs.Legal.{IsLegalHistory}
use Rattle.mu_model.specs.Picks.{entry_of, first_value, highest_accepted, is_joining, is_past_look, larger, last_look, look_answer, may_pick_at, may_propose, pick, since_last_joining}
use Rattle.mu_model.specs.Regions.{region_min}
use Rattle.mu_agree.proofs.Legal.{event_after}
use Rattle.mu_agree.proofs.Minimum.{rises_step}
use Rattle.mu_model.proofs.Scans.{all_at}
use Rattle.mu_agree.proofs.Counting.{Member, share, some_below, count_more}
use Rattle.mu_agree.proofs.Landed.{has_landed, lands_no_more}
use Rattle.mu_agree.proofs.Looks.{LookSays, looks_say, member_reached}
use Rattle.mu_agree.proofs.Offers.{first_offered, offer_stays}
use Rattle.mu_model.proofs.Basics.{same_some}
use Rattle.mu_model.proofs.Putting.{MayPutSlot, IsNew}

-- v is chosen at i under the number b
abbrev pub Chosen : Config → ℕ → ℕ → ℕ → List Event → Type 0
Chosen c i b v past = majority_of c.replicas ≤ count_below c.replicas (λ p. has_landed p i b v past)

-- the number b has another value
pub record Other (i b w : ℕ) (past : List Event) : Type 0 where
  pub u : ℕ
  pub is : first_offered i b past ≡ Some u
  pub differs : u ≡ w → ⊥

-- a majority will never take w under b
abbrev pub Many : Config → ℕ → ℕ → ℕ → List Event → Type 0
Many c i b w past = majority_of c.replicas ≤ count_below c.replicas (λ p. nat_lt b (region_min p past) && not (has_landed p i b w past))

abbrev pub Blocked : Config → ℕ → ℕ → ℕ → List Event → Type 0
Blocked c i b w past = Other i b w past ⊎ Many c i b w past

many_stays : (c : Config) (i b w by : ℕ) (v : Verb) (past : List Event) → IsLegalHistory c past → Needs c by (part by past) v → Many c i b w past → Many c i b w (event_after c past by v ∷ past)
many_stays c i b w by v past h may m =
    let k = count_more c.replicas (λ p. nat_lt b (region_min p past) && not (has_landed p i b w past)) (λ p. nat_lt b (region_min p (event_after c past by v ∷ past)) && not (has_landed p i b w (event_after c past by v ∷ past))) at in
    omega arith
  where
    at : (p : ℕ) → p < c.replicas → (nat_lt b (region_min p past) && not (has_landed p i b w past)) ≡ true → (nat_lt b (region_min p (event_after c past by v ∷ past)) && not (has_landed p i b w (event_after c past by v ∷ past))) ≡ true
    at p k e =
        let x = and_parts (nat_lt b (region_min p past)) (not (has_landed p i b w past)) e in
        let l = ltb-true b (region_min p past) x.0 in
        let rise : region_min p past ≤ region_min p (event_after c past by v ∷ past) = rises_step c p by (region_min p past) v past h may (omega arith) in
        let f = lands_no_more c p i b w by v past h may l (not-true (has_landed p i b w past) x.1) in
        and_from (nat_lt b (region_min p (event_after c past by v ∷ past))) (not (has_landed p i b w (event_after c past by v ∷ past))) (lt-ltb b (region_min p (event_after c past by v ∷ past)) (omega arith)) (ap not f)

pub blocked_stays : (c : Config) (i b w by : ℕ) (v : Verb) (past : List Event) → IsLegalHistory c past → Needs c by (part by past) v → Blocked c i b w past → Blocked c i b w (event_after c past by v ∷ past)
blocked_stays c i b w by v past h may (inl o) = inl (record { u = o.u; is = offer_stays i b o.u (event_after c past by v) past o.is; differs = o.differs })
blocked_stays c i b w by v past h may (inr m) = inr (many_stays c i b w by v past h may m)

-- somebody took what is chosen
pub chosen_somewhere : (c : Config) (i b v : ℕ) (past : List Event) → Chosen c i b v past → Member c.replicas (λ p. has_landed p i b v past)
chosen_somewhere c i b v past h = some_below c.replicas (λ p. has_landed p i b v past) (omega arith)

-- what is blocked isn't chosen, if what landed under the number is its offer
pub not_chosen : (c : Config) (i b w : ℕ) (past : List Event) → ((p : ℕ) → has_landed p i b w past ≡ true → first_offered i b past ≡ Some w) → Blocked c i b w past → Chosen c i b w past → ⊥
not_chosen c i b w past f (inl o) h = let m = chosen_somewhere c i b w past h in o.differs (same_some o.u w (sym o.is ∙ f m.who m.passes))
not_chosen c i b w past f (inr k) h =
    let m = share c.replicas (λ p. has_landed p i b w past) (λ p. nat_lt b (region_min p past) && not (has_landed p i b w past)) h k in
    let x = and_parts (has_landed m.who i b w past) (nat_lt b (region_min m.who past) && not (has_landed m.who i b w past)) m.passes in
    let y = (and_parts (nat_lt b (region_min m.who past)) (not (has_landed m.who i b w past)) x.1).1 in
    true≢false (sym x.0 ∙ not-true (has_landed m.who i b w past) y)

-- the best of the looks at members
pub entry_is : (o : Option Answer) (z : ℕ × ℕ) → entry_of o ≡ Some z → o ≡ Some (Answer.Entry z.0 z.1)
entry_is None z e = cc
entry_is (Some (Answer.Entry b v)) z e = let k : (b, v) ≡ z = same_some (b, v) z e in ap (λ y. Some (Answer.Entry y.0 y.1)) k
entry_is (Some Answer.Done) z e = cc
entry_is (Some Answer.Missed) z e = cc
entry_is (Some Answer.Entered) z e = cc
entry_is (Some (Answer.Lost f)) z e = cc
entry_is (Some (Answer.Seen f)) z e = cc
entry_is (Some (Answer.Number x)) z e = cc
entry_is (Some Answer.Empty) z e = cc
entry_is (Some Answer.Past) z e = cc

larger_none : (x y : Option (ℕ × ℕ)) → larger x y ≡ None → (x ≡ None) × (y ≡ None)
larger_none None y e = (refl, e)
larger_none (Some x) None e = cc
larger_none (Some x) (Some y) e = go (nat_lt x.0 y.0) e
  where
    go : (t : Bool) → cond t (Some y) (Some x) ≡ None → (Some x ≡ None) × (Some y ≡ None)
    go true e = cc
    go false e = cc

pub record IsLarger (x y : Option (ℕ × ℕ)) (z : ℕ × ℕ) : Type 0 where
  pub one : (x ≡ Some z) ⊎ (y ≡ Some z)
  pub left : (a : ℕ × ℕ) → x ≡ Some a → a.0 ≤ z.0
  pub right : (a : ℕ × ℕ) → y ≡ Some a → a.0 ≤ z.0

same_first : (a z : ℕ × ℕ) → Some a ≡ Some z → a.0 ≤ z.0
same_first a z e = let k : a.0 ≡ z.0 = ap (λ y. y.0) (same_some a z e) in omega arith

larger_some : (x y : Option (ℕ × ℕ)) (z : ℕ × ℕ) → larger x y ≡ Some z → IsLarger x y z
larger_some None y z e = record { one = inr e; left = λ a k. cc; right = λ a k. same_first a z (sym k ∙ e) }
larger_some (Some x) None z e = record { one = inl e; left = λ a k. same_first a z (sym k ∙ e); right = λ a k. cc }
larger_some (Some x) (Some y) z e = go (nat_lt x.0 y.0) refl e
  where
    go : (t : Bool) → nat_lt x.0 y.0 ≡ t → cond t (Some y) (Some x) ≡ Some z → IsLarger (Some x) (Some y) z
    go true h e = let l = ltb-true x.0 y.0 h in let m = same_first y z e in record { one = inr e; left = λ a k. (let q : a.0 ≡ x.0 = ap (λ w. w.0) (same_some a x (sym k)) in omega arith); right = λ a k. (let q : a.0 ≡ y.0 = ap (λ w. w.0) (same_some a y (sym k)) in omega arith) }
    go false h e = let l = ltb-false x.0 y.0 h in let m = same_first x z e in record { one = inl e; left = λ a k. (let q : a.0 ≡ x.0 = ap (λ w. w.0) (same_some a x (sym k)) in omega arith); right = λ a k. (let q : a.0 ≡ y.0 = ap (λ w. w.0) (same_some a y (sym k)) in omega arith) }

pub best_none : (r i n : ℕ) (J : List Event) → highest_accepted r i J n ≡ None → (p : ℕ) → p < n → is_member r p J ≡ true → entry_of (last_look r p i J) ≡ None
best_none r i zero J e p l m = absurd (omega arith)
best_none r i (suc n) J e p l m =
    let k = larger_none (highest_accepted r i J n) (cond (is_member r n J) (entry_of (last_look r n i J)) None) e in
    elim (cases_eq p n) [
      | inl q ↦ rw q (let o : is_member r n J ≡ true = subst (λ x. is_member r x J ≡ true) q m in rw o at k.1)
      | inr q ↦ best_none r i n J k.0 p (omega arith) m
    ]

pub record BestFrom (r i n : ℕ) (J : List Event) (z : ℕ × ℕ) : Type 0 where
  pub p : ℕ
  pub below : p < n
  pub member : is_member r p J ≡ true
  pub look : last_look r p i J ≡ Some (Answer.Entry z.0 z.1)

pub best_from : (r i n : ℕ) (J : List Event) (z : ℕ × ℕ) → highest_accepted r i J n ≡ Some z → BestFrom r i n J z
best_from r i zero J z e = cc
best_from r i (suc n) J z e =
    elim (larger_some (highest_accepted r i J n) (cond (is_member r n J) (entry_of (last_look r n i J)) None) z e).one [
      | inl k ↦ (let b = best_from r i n J z k in record { p = b.p; below = (let l = b.below in omega arith); member = b.member; look = b.look })
      | inr k ↦ last (is_member r n J) refl k
    ]
  where
    last : (t : Bool) → is_member r n J ≡ t → cond t (entry_of (last_look r n i J)) None ≡ Some z → BestFrom r i (suc n) J z
    last true h k = record { p = n; below = omega arith; member = h; look = entry_is (last_look r n i J) z k }
    last false h k = cc

pub best_most : (r i n : ℕ) (J : List Event) (z : ℕ × ℕ) → highest_accepted r i J n ≡ Some z → (p : ℕ) → p < n → is_member r p J ≡ true → (a : ℕ × ℕ) → entry_of (last_look r p i J) ≡ Some a → a.0 ≤ z.0
best_most r i zero J z e p l m a k = absurd (omega arith)
best_most r i (suc n) J z e p l m a k =
    elim (cases_eq p n) [
      | inl q ↦ (larger_some (highest_accepted r i J n) (cond (is_member r n J) (entry_of (last_look r n i J)) None) z e).right a
          (let o : is_member r n J ≡ true = subst (λ x. is_member r x J ≡ true) q m in rw o (subst (λ x. entry_of (last_look r x i J) ≡ Some a) q k))
      | inr q ↦ below (highest_accepted r i J n) refl (omega arith) (λ y h. best_most r i n J y h p (omega arith) m a k)
    ]
  where
    lg : IsLarger (highest_accepted r i J n) (cond (is_member r n J) (entry_of (last_look r n i J)) None) z
    lg = larger_some (highest_accepted r i J n) (cond (is_member r n J) (entry_of (last_look r n i J)) None) z e

    below : (o : Option (ℕ × ℕ)) → highest_accepted r i J n ≡ o → p < n → ((y : ℕ × ℕ) → highest_accepted r i J n ≡ Some y → a.0 ≤ y.0) → a.0 ≤ z.0
    below None h w ih = let x : None ≡ Some a = sym (best_none r i n J h p w m) ∙ k in cc
    below (Some y) h w ih = let x = ih y h in let q = lg.left y h in omega arith

-- what a leader that first offers at i has seen
pub record Seeing (c : Config) (r i b v : ℕ) (past : List Event) : Type 0 where
  pub number : proposal_number r (part r past) ≡ Some b
  pub carried : majority_of c.replicas ≤ count_below c.replicas (λ p. is_member r p (part r past))
  pub looked : (p : ℕ) → p < c.replicas → is_member r p (part r past) ≡ true → is_some (last_look r p i (part r past)) ≡ true
  pub not_past : (p : ℕ) → p < c.replicas → is_member r p (part r past) ≡ true → last_look r p i (part r past) ≡ Some Answer.Past → ⊥
  pub picked : pick c r (part r past) v (highest_accepted r i (part r past) c.replicas) ≡ true

not_seen : (b n w p i : ℕ) (past : List Event) (a : Answer) → LookSays b p i past a → (a ≡ Answer.Past → ⊥) → ((z : ℕ × ℕ) → entry_of (Some a) ≡ Some z → z.0 < n) → n < b → has_landed p i n w past ≡ false
not_seen b n w p i past Answer.Empty s f g l = s n w l
not_seen b n w p i past (Answer.Entry m v) s f g l = s.1 n w (g (m, v) refl) l
not_seen b n w p i past Answer.Past s f g l = absurd (f refl)
not_seen b n w p i past Answer.Done s f g l = absurd s
not_seen b n w p i past Answer.Missed s f g l = absurd s
not_seen b n w p i past Answer.Entered s f g l = absurd s
not_seen b n w p i past (Answer.Lost x) s f g l = absurd s
not_seen b n w p i past (Answer.Seen x) s f g l = absurd s
not_seen b n w p i past (Answer.Number x) s f g l = absurd s

-- under a number that no look has reached, no member took anything
members_block : (c : Config) (r i b v n w : ℕ) (past : List Event) → IsLegalHistory c past → Seeing c r i b v past
    → ((p : ℕ) → p < c.replicas → is_member r p (part r past) ≡ true → (z : ℕ × ℕ) → entry_of (last_look r p i (part r past)) ≡ Some z → z.0 < n) → n < b → Many c i n w past
members_block c r i b v n w past h s f l =
    let k = count_more c.replicas (λ p. is_member r p (part r past)) (λ p. nat_lt n (region_min p past) && not (has_landed p i n w past)) at in let q = s.carried in omega arith
  where
    seen : (p : ℕ) → p < c.replicas → is_member r p (part r past) ≡ true → (o : Option Answer) → last_look r p i (part r past) ≡ o → is_some o ≡ true → has_landed p i n w past ≡ false
    seen p k m None e t = cc
    seen p k m (Some a) e t = not_seen b n w p i past a (looks_say c r p i past h a b e m s.number) (λ q. s.not_past p k m (e ∙ ap Some q)) (λ z q. f p k m z (ap entry_of e ∙ q)) l

    at : (p : ℕ) → p < c.replicas → is_member r p (part r past) ≡ true → (nat_lt n (region_min p past) && not (has_landed p i n w past)) ≡ true
    at p k m =
        let t = member_reached c r p past h m in
        let x : t.b ≡ b = same_some t.b b (sym t.is ∙ s.number) in
        let y = t.below in
        and_from (nat_lt n (region_min p past)) (not (has_landed p i n w past)) (lt-ltb n (region_min p past) (omega arith))
        (ap not (seen p k m (last_look r p i (part r past)) refl (s.looked p k m)))

-- either no lower number can be chosen any more, or the value is that of the greatest number that a look found, and none between can
pub data Found (c : Config) (r i b v : ℕ) (past : List Event) : Type 0 where
  none_accepted : highest_accepted r i (part r past) c.replicas ≡ None → ((n w : ℕ) → n < b → Many c i n w past) → Found c r i b v past
  takes_highest : (m p : ℕ) → highest_accepted r i (part r past) c.replicas ≡ Some (m, v) → has_landed p i m v past ≡ true → ((n w : ℕ) → m < n → n < b → Many c i n w past) → Found c r i b v past

pub found : (c : Config) (r i b v : ℕ) (past : List Event) → IsLegalHistory c past → Seeing c r i b v past → Found c r i b v past
found c r i b v past h s = go (highest_accepted r i (part r past) c.replicas) refl s.picked
  where
    go : (o : Option (ℕ × ℕ)) → highest_accepted r i (part r past) c.replicas ≡ o → pick c r (part r past) v o ≡ true → Found c r i b v past
    go None e k = none_accepted e (λ n w l. members_block c r i b v n w past h s (λ p q m z t. (let x : None ≡ Some z = sym (best_none r i c.replicas (part r past) e p q m) ∙ t in cc)) l)
    go (Some y) e k =
        let f = best_from r i c.replicas (part r past) y e in
        let is : y.1 ≡ v = eqb-true y.1 v k in
        let says = looks_say c r f.p i past h (Answer.Entry y.0 y.1) b f.look f.member s.number in
        takes_highest y.0 f.p (e ∙ ap (λ x. Some (y.0, x)) is) (subst (λ x. has_landed f.p i y.0 x past ≡ true) is says.0)
        (λ n w j l. members_block c r i b v n w past h s (λ p q m z t. (let x = best_most r i c.replicas (part r past) y e p q m z t in omega arith)) l)

-- a look at the last joining's members is a look of the leadership
past_look : (r p i : ℕ) (J : List Event) → newest (λ e. look_answer r p i e.by e.verb e.answer) (since_last_joining r J) ≡ Some Answer.Past → has (λ e. is_past_look (look_answer r p i e.by e.verb e.answer)) (leadership r J) ≡ true
past_look r p i [] k = cc
past_look r p i (e ∷ J) k = go (is_joining r J e.by e.verb e.answer) (begins_leadership r e) k (past_look r p i J)
  where
    here : (o : Option Answer) → newer_or o (newest (λ e. look_answer r p i e.by e.verb e.answer) (since_last_joining r J)) ≡ Some Answer.Past
        → (newest (λ e. look_answer r p i e.by e.verb e.answer) (since_last_joining r J) ≡ Some Answer.Past → has (λ e. is_past_look (look_answer r p i e.by e.verb e.answer)) (leadership r J) ≡ true)
        → cond (is_past_look o) true (has (λ e. is_past_look (look_answer r p i e.by e.verb e.answer)) (leadership r J)) ≡ true
    here None k ih = ih k
    here (Some a) k ih = ap (λ o. cond (is_past_look o) true (has (λ e. is_past_look (look_answer r p i e.by e.verb e.answer)) (leadership r J))) k

    go : (x y : Bool) → newest (λ e. look_answer r p i e.by e.verb e.answer) (cond x [] (cond y [] (e ∷ since_last_joining r J))) ≡ Some Answer.Past
        → (newest (λ e. look_answer r p i e.by e.verb e.answer) (since_last_joining r J) ≡ Some Answer.Past → has (λ e. is_past_look (look_answer r p i e.by e.verb e.answer)) (leadership r J) ≡ true)
        → has (λ e. is_past_look (look_answer r p i e.by e.verb e.answer)) (cond y [] (e ∷ leadership r J)) ≡ true
    go true y k ih = cc
    go false true k ih = cc
    go false false k ih = here (look_answer r p i e.by e.verb e.answer) k ih

-- what allows a first offer
pub seeing : (c : Config) (r p i b v : ℕ) (past : List Event) → MayPutSlot c r (part r past) p i b v → IsNew c r (part r past) i v → first_value r i (part r past) ≡ None → Seeing c r i b v past
seeing c r p i b v past may new e = record {
  number = may.numbered;
  carried = leb-true (majority_of c.replicas) (count_below c.replicas (λ p. is_member r p (part r past))) (and_parts (is_member r r (part r past)) (nat_le (majority_of c.replicas) (count_below c.replicas (λ p. is_member r p (part r past)))) may.carried).1;
  looked = λ q l m. in_all (is_member r q (part r past)) (is_some (last_look r q i (part r past))) m (all_at c.replicas (λ p. not (is_member r p (part r past)) || is_some (last_look r p i (part r past))) allowed.0 q l);
  not_past = λ q l m k. none_past q m (all_at c.replicas (λ p. not (is_member r p (part r past) && has (λ e. is_past_look (look_answer r p i e.by e.verb e.answer)) (leadership r (part r past)))) new.none_past q l) (past_look r q i (part r past) k);
  picked = allowed.1;
}
  where
    allowed : (all_below c.replicas (λ p. not (is_member r p (part r past)) || is_some (last_look r p i (part r past))) ≡ true) × (may_pick_at c r (part r past) i v ≡ true)
    allowed = and_parts (all_below c.replicas (λ p. not (is_member r p (part r past)) || is_some (last_look r p i (part r past)))) (may_pick_at c r (part r past) i v) (subst (λ o. may_propose c r (part r past) i v o ≡ true) e new.value)

    in_all : (x y : Bool) → x ≡ true → (not x || y) ≡ true → y ≡ true
    in_all true y m k = k
    in_all false y m k = absurd (true≢false (sym m))

    none_past : (q : ℕ) → is_member r q (part r past) ≡ true → not (is_member r q (part r past) && has (λ e. is_past_look (look_answer r q i e.by e.verb e.answer)) (leadership r (part r past))) ≡ true
        → has (λ e. is_past_look (look_answer r q i e.by e.verb e.answer)) (leadership r (part r past)) ≡ true → ⊥
    none_past q m k l = true≢false (sym (and_from (is_member r q (part r past)) (has (λ e. is_past_look (look_answer r q i e.by e.verb e.answer)) (leadership r (part r past))) m l)
        ∙ not-true (is_member r q (part r past) && has (λ e. is_past_look (look_answer r q i e.by e.verb e.answer)) (leadership r (part r past))) k)
