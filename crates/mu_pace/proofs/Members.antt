-- Counting members.
use Rattle.std.proofs.Common.{◌≡◌, ℕ, zero, suc, ◌+◌, ◌*◌, ◌/◌, ◌<◌, ◌≤◌, ◌⊎◌, inl, inr, Bool, true, false, cond, ◌==◌, ◌&&◌, ne_eqb, List, ◌∷◌, refl, sym, ◌∙◌, ap, arith, subst, true≢false, Some, None, is_some}
use Rattle.std.specs.declared.option.Option.{Option}
use Rattle.std.specs.Prelude.{if◌then◌else◌, nat_le, nat_lt}
use Rattle.std.proofs.lemmas.Bool.{and_from, and_parts, cases_eq, cases_lt, le-leb, leb-true, lt-leb, lt-ltb, ltb-true}
use Rattle.mu_model.specs.declared.config.Config.{Config}
use Rattle.mu_model.specs.declared.event.Answer.{Answer}
use Rattle.mu_model.specs.declared.event.Event.{Event}
use Rattle.mu_model.specs.declared.event.Verb.{Verb}
use Rattle.mu_model.specs.Bounds.{members}
use Rattle.mu_model.specs.Histories.{count_below, newer_or, event_by}
use Rattle.mu_model.specs.Leaderships.{grant_at_joining, has_quorum, is_member, majority_of, noted_grant}
use Rattle.mu_model.proofs.Basics.{same_number, false_and, and_false}
use Rattle.mu_pace.specs.Members.{CountsOfMembers, IsNextMember, members_below, members_from}

-- tests that are the same below n count the same
count_same : (n : ℕ) (f g : ℕ → Bool) → ((k : ℕ) → k < n → f k ≡ g k) → count_below n f ≡ count_below n g
count_same zero f g s = refl
count_same (suc n) f g s = rw (s n (omega arith), count_same n f g (λ k l. s k (omega arith))) refl

one_more : (t u : Bool) (x y : ℕ) → t ≡ u → x ≡ y + 1 → cond t (x + 1) x ≡ cond u (y + 1) y + 1
one_more true true x y e h = omega arith
one_more true false x y e h = absurd (true≢false e)
one_more false true x y e h = absurd (true≢false (sym e))
one_more false false x y e h = h

-- two tests that differ only at p
pub count_one : (n p : ℕ) (f g : ℕ → Bool) → p < n → f p ≡ true → g p ≡ false → ((k : ℕ) → (k ≡ p → ⊥) → f k ≡ g k) → count_below n f ≡ count_below n g + 1
count_one zero p f g l h e s = absurd (omega arith)
count_one (suc n) p f g l h e s = elim (cases_eq n p) [
  | inl x ↦ (
      let a : f n ≡ true = subst (λ y. f y ≡ true) (sym x) h in
      let b : g n ≡ false = subst (λ y. g y ≡ false) (sym x) e in
      rw (a, b) (ap (λ y. y + 1) (count_same n f g (λ k u. s k (λ z. absurd (omega arith))))))
  | inr x ↦ one_more (f n) (g n) (count_below n f) (count_below n g) (s n x) (count_one n p f g (let d = x in elim (cases_lt p n) [ inl l' ↦ l' | inr m ↦ absurd (x (omega arith)) ]) h e s)
]

le_true : (p q : ℕ) (b : Bool) → p ≤ q → (nat_le p q && b) ≡ b
le_true p q b l = go (nat_le p q) (le-leb p q l)
  where
    go : (t : Bool) → t ≡ true → (t && b) ≡ b
    go true h = refl
    go false h = absurd (true≢false (sym h))

le_false : (p q : ℕ) (b : Bool) → q < p → (nat_le p q && b) ≡ false
le_false p q b l = false_and (nat_le p q) b (lt-leb p q l)

lt_true : (q p : ℕ) (b : Bool) → q < p → (nat_lt q p && b) ≡ b
lt_true q p b l = go (nat_lt q p) (lt-ltb q p l)
  where
    go : (t : Bool) → t ≡ true → (t && b) ≡ b
    go true h = refl
    go false h = absurd (true≢false (sym h))

lt_false : (q p : ℕ) (b : Bool) → p ≤ q → (nat_lt q p && b) ≡ false
lt_false q p b l = go (nat_lt q p) refl
  where
    go : (t : Bool) → nat_lt q p ≡ t → (t && b) ≡ false
    go true h = absurd (let k = ltb-true q p h in omega arith)
    go false h = refl

next : (c : Config) (r p q : ℕ) (past : List Event) → IsNextMember c r p q past → members_from c r p past ≡ members_from c r q past + 1
next c r p q past m =
    let up = m.above in
    count_one c.replicas p (λ k. nat_le p k && is_member r k past) (λ k. nat_le q k && is_member r k past) m.there (le_true p p (is_member r p past) (omega arith) ∙ m.member) (le_false q p (is_member r p past) up)
    (λ k d. elim (cases_lt k p) [
      | inl x ↦ le_false p k (is_member r k past) x ∙ sym (le_false q k (is_member r k past) (omega arith))
      | inr x ↦ elim (cases_lt k q) [
        | inl y ↦ (let z : is_member r k past ≡ false = m.between k (elim (cases_lt p k) [ inl l ↦ l | inr g ↦ absurd (d (omega arith)) ]) y in and_false (nat_le p k) (is_member r k past) z ∙ sym (and_false (nat_le q k) (is_member r k past) z))
        | inr y ↦ le_true p k (is_member r k past) x ∙ sym (le_true q k (is_member r k past) y)
      ]
    ])

split_one : (p n : ℕ) (m : Bool) (a b x : ℕ) → a + b ≡ x → (if nat_lt n p && m then a + 1 else a) + (if nat_le p n && m then b + 1 else b) ≡ (if m then x + 1 else x)
split_one p n m a b x h = elim (cases_lt n p) [
  | inl l ↦ rw (lt_true n p m l, le_false p n m l) (low m)
  | inr l ↦ rw (lt_false n p m l, le_true p n m l) (high m)
]
  where
    low : (t : Bool) → (if t then a + 1 else a) + b ≡ (if t then x + 1 else x)
    low true = omega arith
    low false = h

    high : (t : Bool) → a + (if t then b + 1 else b) ≡ (if t then x + 1 else x)
    high true = omega arith
    high false = h

split_count : (n p : ℕ) (f : ℕ → Bool) → count_below n (λ q. nat_lt q p && f q) + count_below n (λ q. nat_le p q && f q) ≡ count_below n f
split_count zero p f = refl
split_count (suc n) p f = split_one p n (f n) (count_below n (λ q. nat_lt q p && f q)) (count_below n (λ q. nat_le p q && f q)) (count_below n f) (split_count n p f)

all : (c : Config) (r p : ℕ) (past : List Event) → members_below c r p past + members_from c r p past ≡ members c r past
all c r p past = split_count c.replicas p (λ q. is_member r q past)

next_below : (c : Config) (r p q : ℕ) (past : List Event) → IsNextMember c r p q past → members_below c r q past ≡ members_below c r p past + 1
next_below c r p q past m = let a = all c r p past in let b = all c r q past in let n = next c r p q past m in omega arith

some : (c : Config) (r p : ℕ) (past : List Event) → p < c.replicas → is_member r p past ≡ true → 1 ≤ members_from c r p past
some c r p past l m =
    let one = count_one c.replicas p (λ k. nat_le p k && is_member r k past) (λ k. nat_le (p + 1) k && is_member r k past) l (le_true p p (is_member r p past) (omega arith) ∙ m) (le_false (p + 1) p (is_member r p past) (omega arith))
    (λ k d. elim (cases_lt k p) [
      | inl x ↦ le_false p k (is_member r k past) x ∙ sym (le_false (p + 1) k (is_member r k past) (omega arith))
      | inr x ↦ le_true p k (is_member r k past) x ∙ sym (le_true (p + 1) k (is_member r k past) (elim (cases_lt p k) [ inl l' ↦ omega arith | inr g ↦ absurd (d (omega arith)) ]))
    ]) in omega arith

pub none_counted : (n : ℕ) (f : ℕ → Bool) → ((k : ℕ) → k < n → f k ≡ false) → count_below n f ≡ 0
none_counted zero f h = refl
none_counted (suc n) f h = rw (h n (omega arith)) (none_counted n f (λ k l. h k (omega arith)))

none_below : (c : Config) (r p : ℕ) (past : List Event) → ((k : ℕ) → k < p → is_member r k past ≡ false) → members_below c r p past ≡ 0
none_below c r p past h = none_counted c.replicas (λ q. nat_lt q p && is_member r q past) (λ k l. elim (cases_lt k p) [ inl x ↦ and_false (nat_lt k p) (is_member r k past) (h k x) | inr x ↦ lt_false k p (is_member r k past) x ])

-- who is a member after a number landed at p
landed_here : (t : Bool) (old new : Option (Option ℕ)) → t ≡ true → new ≡ Some (None) ⊎ (is_some new ≡ true) → is_some (if t then newer_or old new else old) ≡ true
landed_here true None new h (inl k) = rw k refl
landed_here true None new h (inr k) = k
landed_here true (Some x) new h k = refl
landed_here false old new h k = absurd (true≢false (sym h))

landed_other : (t : Bool) (old new : Option (Option ℕ)) → t ≡ false → is_some (if t then newer_or old new else old) ≡ is_some old
landed_other true old new h = absurd (true≢false h)
landed_other false old new h = refl

joined : (c : Config) (r p b : ℕ) (past : List Event) → p < c.replicas → is_member r p past ≡ false → members c r (event_by r (Verb.PutMin p b) Answer.Done ∷ past) ≡ members c r past + 1
joined c r p b past l m =
    count_one c.replicas p (λ q. is_member r q (event_by r (Verb.PutMin p b) Answer.Done ∷ past)) (λ q. is_member r q past) l
    (landed_here ((r == r) && (p == p)) (grant_at_joining r p past) (Some (noted_grant r p past)) (and_from (r == r) (p == p) (same_number r) (same_number p)) (inr refl)) m
    (λ k d. landed_other ((r == r) && (p == k)) (grant_at_joining r k past) (Some (noted_grant r k past)) (and_false (r == r) (p == k) (ne_eqb p k (λ e. d (sym e)))))

majority : (c : Config) (r : ℕ) (past : List Event) → has_quorum c r past ≡ true → c.replicas < 2 * members c r past
majority c r past h =
    let k = leb-true (majority_of c.replicas) (members c r past) (and_parts (is_member r r past) (nat_le (majority_of c.replicas) (members c r past)) h).1 in
    half c.replicas (members c r past) k
  where
    half : (n m : ℕ) → n / 2 + 1 ≤ m → n < 2 * m
    half n m l = omega arith

pub counts_of_members : CountsOfMembers
counts_of_members = record { next = next; next_below = next_below; some = some; all = all; none_below = none_below; joined = joined; majority = majority }
