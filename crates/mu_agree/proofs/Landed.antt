-- What landed, and what stands in a log of it.
use Rattle.std.proofs.Common.{◌≡◌, ℕ, zero, suc, ◌<◌, ◌≤◌, inl, inr, Bool, true, false, cond, ◌&&◌, ◌==◌, List, [], ◌∷◌, ◌++◌, refl, sym, ◌∙◌, ap, arith, Some, subst, eqb-true, true≢false, length, set}
use Rattle.std.specs.List.{slice_get}
use Rattle.std.proofs.lemmas.Bool.{and_parts, and_from, eqb-false, eq-eqb}
use Rattle.mu_model.specs.declared.config.Config.{Config}
use Rattle.mu_model.specs.declared.event.Event.{Event}
use Rattle.mu_model.specs.declared.event.Verb.{Verb}
use Rattle.mu_model.specs.declared.event.Answer.{Answer}
use Rattle.mu_model.specs.Allowed.{Needs}
use Rattle.mu_model.specs.Answers.{drained, put_answer}
use Rattle.mu_model.specs.Histories.{has, part}
use Rattle.mu_model.specs.Legal.{IsLegalHistory}
use Rattle.mu_model.specs.Regions.{region_log, region_min}
use Rattle.mu_agree.proofs.Legal.{event_after, legal_induction}
use Rattle.mu_agree.proofs.Minimum.{rises_step}
use Rattle.mu_agree.proofs.Members.{slot_number}
use Rattle.mu_agree.proofs.Slots.{put_in', get_put}
use Rattle.mu_agree.proofs.Landings.{no_gaps, has_more, has_implied, is_landed_at, below_all}
use Rattle.mu_model.proofs.Basics.{same_some}
use Rattle.mu_model.proofs.Putting.{put_facts}

-- (b, v) landed at p in position i
abbrev pub slot_landed : ℕ → ℕ → ℕ → ℕ → Verb → Answer → Bool
slot_landed p i b v (Verb.PutSlot q j n w) Answer.Done = (q == p) && ((j == i) && ((n == b) && (w == v)))
slot_landed p i b v _ _ = false

abbrev pub has_landed : ℕ → ℕ → ℕ → ℕ → List Event → Bool
has_landed p i b v past = has (λ e. slot_landed p i b v e.verb e.answer) past

-- what a put that landed says
pub record IsPut (p i b v q j n w : ℕ) : Type 0 where
  pub at : q ≡ p
  pub position : j ≡ i
  pub number : n ≡ b
  pub value : w ≡ v

pub is_put : (p i b v q j n w : ℕ) → ((q == p) && ((j == i) && ((n == b) && (w == v)))) ≡ true → IsPut p i b v q j n w
is_put p i b v q j n w m =
    let x = and_parts (q == p) ((j == i) && ((n == b) && (w == v))) m in
    let y = and_parts (j == i) ((n == b) && (w == v)) x.1 in
    let z = and_parts (n == b) (w == v) y.1 in
    record { at = eqb-true q p x.0; position = eqb-true j i y.0; number = eqb-true n b z.0; value = eqb-true w v z.1 }

self : (n : ℕ) → (n == n) ≡ true
self n = eq-eqb n n refl

-- what stands at j after a put there, and elsewhere
get_end : (log : List (ℕ × ℕ)) (j : ℕ) (z : ℕ × ℕ) → j ≡ length log → slice_get (log ++ z ∷ []) j ≡ Some z
get_end [] zero z e = refl
get_end [] (suc j) z e = absurd (omega arith)
get_end (x ∷ log) zero z e = absurd (omega arith)
get_end (x ∷ log) (suc j) z e = get_end log j z (omega arith)

get_here : (log : List (ℕ × ℕ)) (j : ℕ) (z : ℕ × ℕ) → j < length log → slice_get (set log j z) j ≡ Some z
get_here [] j z h = absurd (omega arith)
get_here (x ∷ log) zero z h = refl
get_here (x ∷ log) (suc j) z h = get_here log j z (omega arith)

pub get_put_same : (log : List (ℕ × ℕ)) (j : ℕ) (z : ℕ × ℕ) → j ≤ length log → slice_get (put_in' log j z) j ≡ Some z
get_put_same log j z h = go (j == length log) refl
  where
    go : (t : Bool) → (j == length log) ≡ t → slice_get (cond t (log ++ z ∷ []) (set log j z)) j ≡ Some z
    go true k = get_end log j z (eqb-true j (length log) k)
    go false k = let n = eqb-false j (length log) k in get_here log j z (omega arith)

-- the place of a landing put is within the log or at its end
pub lands_within : (c : Config) (p by i b v : ℕ) (past : List Event) → IsLegalHistory c past → Needs c by (part by past) (Verb.PutSlot p i b v) → i ≤ length (region_log p past)
lands_within c p by i b v past h may = below_all c by p i 0 past (no_gaps c p past h) (put_facts c by (part by past) p i b v may).caught_up

pub record LandedFacts (p : ℕ) (past : List Event) : Type 0 where
  pub in_log : (i b v : ℕ) → slice_get (region_log p past) i ≡ Some (b, v) → has_landed p i b v past ≡ true
  pub most : (i b v : ℕ) (y : ℕ × ℕ) → has_landed p i b v past ≡ true → slice_get (region_log p past) i ≡ Some y → b ≤ y.0
  pub least : (i b v : ℕ) → has_landed p i b v past ≡ true → b ≤ region_min p past

facts_put : (c : Config) (p by q j n w : ℕ) (past : List Event) → IsLegalHistory c past → Needs c by (part by past) (Verb.PutSlot q j n w) → LandedFacts p past
    → (a : Answer) → put_answer (drained by q past) ≡ a → (t : Bool) → (q == p) ≡ t
    → LandedFacts p (record { by = by; verb = Verb.PutSlot q j n w; answer = a } ∷ past)
facts_put c p by q j n w past h may f Answer.Done e true hq = record { in_log = rw hq in_log'; most = rw hq most'; least = rw hq least' }
  where
    num : n ≡ region_min p past
    num = slot_number c by q j n w past h may e ∙ ap (λ x. region_min x past) (eqb-true q p hq)

    room : j ≤ length (region_log p past)
    room = subst (λ x. j ≤ length (region_log x past)) (eqb-true q p hq) (lands_within c q by j n w past h may)

    in_log' : (i b v : ℕ) → slice_get (put_in' (region_log p past) j (n, w)) i ≡ Some (b, v) → cond ((j == i) && ((n == b) && (w == v))) true (has_landed p i b v past) ≡ true
    in_log' i b v k = elim (get_put (region_log p past) j i (n, w) (b, v) k) [
      | inl m ↦ or_true ((j == i) && ((n == b) && (w == v))) (has_landed p i b v past) (f.in_log i b v m)
      | inr m ↦ (let x : b ≡ n = ap (λ z. z.0) m.1 in let y : v ≡ w = ap (λ z. z.1) m.1 in rw (m.0, x, y, self j, self n, self w) refl)
    ]
      where
        or_true : (t u : Bool) → u ≡ true → cond t true u ≡ true
        or_true true u g = refl
        or_true false u g = g

    most' : (i b v : ℕ) (y : ℕ × ℕ) → cond ((j == i) && ((n == b) && (w == v))) true (has_landed p i b v past) ≡ true → slice_get (put_in' (region_log p past) j (n, w)) i ≡ Some y → b ≤ y.0
    most' i b v y k l = go (j == i) refl ((n == b) && (w == v)) refl k
      where
        go : (t : Bool) → (j == i) ≡ t → (u : Bool) → ((n == b) && (w == v)) ≡ u → cond (t && u) true (has_landed p i b v past) ≡ true → b ≤ y.0
        go true ht u hu m =
            let z : (n, w) ≡ y = same_some (n, w) y (sym (get_put_same (region_log p past) j (n, w) room) ∙ ap (slice_get (put_in' (region_log p past) j (n, w))) (eqb-true j i ht) ∙ l) in
            let first : n ≡ y.0 = ap (λ x. x.0) z in
            below u hu m first
          where
            below : (u : Bool) → ((n == b) && (w == v)) ≡ u → cond u true (has_landed p i b v past) ≡ true → n ≡ y.0 → b ≤ y.0
            below true hu m first = let o = eqb-true n b (and_parts (n == b) (w == v) hu).0 in omega arith
            below false hu m first = let o = f.least i b v m in let nm = num in omega arith
        go false ht u hu m = elim (get_put (region_log p past) j i (n, w) y l) [
          | inl o ↦ f.most i b v y m o
          | inr o ↦ absurd (eqb-false j i ht (sym o.0))
        ]

    least' : (i b v : ℕ) → cond ((j == i) && ((n == b) && (w == v))) true (has_landed p i b v past) ≡ true → b ≤ region_min p past
    least' i b v k = go ((j == i) && ((n == b) && (w == v))) refl k
      where
        go : (t : Bool) → ((j == i) && ((n == b) && (w == v))) ≡ t → cond t true (has_landed p i b v past) ≡ true → b ≤ region_min p past
        go true ht m = let o = eqb-true n b (and_parts (n == b) (w == v) (and_parts (j == i) ((n == b) && (w == v)) ht).1).0 in let nm = num in omega arith
        go false ht m = f.least i b v m
facts_put c p by q j n w past h may f Answer.Done e false hq = record { in_log = rw hq f.in_log; most = rw hq f.most; least = rw hq f.least }
facts_put c p by q j n w past h may f a e t hq = record { in_log = f.in_log; most = f.most; least = f.least }

facts_step : (c : Config) (p by : ℕ) (v : Verb) (past : List Event) → IsLegalHistory c past → Needs c by (part by past) v → LandedFacts p past → LandedFacts p (event_after c past by v ∷ past)
facts_step c p by (Verb.PutSlot q j n w) past h may f = facts_put c p by q j n w past h may f (put_answer (drained by q past)) refl (q == p) refl
facts_step c p by (Verb.PutMin q b) past h may f = record { in_log = f.in_log; most = f.most; least = λ i n v k. rises_step c p by n (Verb.PutMin q b) past h may (f.least i n v k) }
facts_step c p by v past h may f = record { in_log = f.in_log; most = f.most; least = f.least }

pub landed_facts : (c : Config) (p : ℕ) (past : List Event) → IsLegalHistory c past → LandedFacts p past
landed_facts c p = legal_induction c (LandedFacts p) (record { in_log = λ i b v k. cc; most = λ i b v y k. cc; least = λ i b v k. cc }) (λ past by v h may f. facts_step c p by v past h may.may f)

-- what landed stands within the log
pub landed_within : (c : Config) (p i b v : ℕ) (past : List Event) → IsLegalHistory c past → has_landed p i b v past ≡ true → i < length (region_log p past)
landed_within c p i b v past h k =
    (no_gaps c p past h).stands i (has_implied (λ e. slot_landed p i b v e.verb e.answer) (λ e. is_landed_at p i e.verb e.answer) (λ e m. at e.verb e.answer m) past k)
  where
    at : (verb : Verb) (a : Answer) → slot_landed p i b v verb a ≡ true → is_landed_at p i verb a ≡ true
    at (Verb.PutSlot q j n w) Answer.Done m = let x = and_parts (q == p) ((j == i) && ((n == b) && (w == v))) m in and_from (q == p) (j == i) x.0 (and_parts (j == i) ((n == b) && (w == v)) x.1).0
    at verb a m = absurd (true≢false (sym m))

-- a number below the minimum lands no more
pub lands_no_more : (c : Config) (p i b w by : ℕ) (v : Verb) (past : List Event) → IsLegalHistory c past → Needs c by (part by past) v → b < region_min p past → has_landed p i b w past ≡ false → has_landed p i b w (event_after c past by v ∷ past) ≡ false
lands_no_more c p i b w by (Verb.PutSlot q j n x) past h may l f = go (put_answer (drained by q past)) refl
  where
    go : (a : Answer) → put_answer (drained by q past) ≡ a → has_landed p i b w (record { by = by; verb = Verb.PutSlot q j n x; answer = a } ∷ past) ≡ false
    go Answer.Done e = at ((q == p) && ((j == i) && ((n == b) && (x == w)))) refl
      where
        at : (t : Bool) → ((q == p) && ((j == i) && ((n == b) && (x == w)))) ≡ t → cond t true (has_landed p i b w past) ≡ false
        at true k =
            let o = is_put p i b w q j n x k in
            let m : n ≡ region_min p past = slot_number c by q j n x past h may e ∙ ap (λ z. region_min z past) o.at in
            let u = o.number in absurd (omega arith)
        at false k = f
    go a e = f
lands_no_more c p i b w by v past h may l f = f

-- what landed before has landed
pub landed_stays : (p i b w : ℕ) (e : Event) (past : List Event) → has_landed p i b w past ≡ true → has_landed p i b w (e ∷ past) ≡ true
landed_stays p i b w e past h = has_more (λ f. slot_landed p i b w f.verb f.answer) e past h
