-- Orders: each row of a writer stands once, and its rows stand in their order.
use Rattle.std.proofs.Common.{◌≡◌, ◌≢◌, ◌⊎◌, ℕ, ◌<◌, ◌≤◌, ◌==◌, ◌&&◌, Bool, true, false, cond, List, [], ◌∷◌, inl, inr, refl, sym, ap, subst, ◌∙◌, eqb-true, arith, true≢false}
use Rattle.std.proofs.lemmas.Bool.{and_parts, cases_lt, or_cases}
use Rattle.mu_inbox.specs.declared.access.Verb.{Verb}
use Rattle.mu_inbox.specs.Entries.{place_word}
use Rattle.mu_inbox.specs.Memory.{AreAnswered, IsAnsweredOnce, Made, has_taken, is_reference, own_of, puts_at}
use Rattle.mu_inbox.proofs.Places.{front_law, made_of, not_zero}
use Rattle.mu_inbox.proofs.Rows.{is_row, taken_stands}

-- an access that took place p for row j found it free, behind the rows that were taken before
record Takes (past : List Made) (r p j : ℕ) : Type 0 where
  free : place_word past p ≡ 0
  last : (q i : ℕ) → has_taken q i (own_of r past) ≡ true → i < j

takes_by : (past : List Made) (r : ℕ) (v : Verb) (word p j : ℕ) → IsAnsweredOnce past (made_of r v word) → (puts_at p j v && (word == 0)) ≡ true → Takes past r p j
takes_by past r (Verb.Put q i) word p j once is =
    let both = and_parts ((p == q) && (j == i)) (word == 0) is in
    let at = and_parts (p == q) (j == i) both.0 in
    record {
      free = ap (place_word past) (eqb-true p q at.0) ∙ (sym (once.found refl) ∙ eqb-true word 0 both.1);
      last = λ x y t. subst (λ (z : ℕ). y < z) (sym (eqb-true j i at.1)) (once.allowed.last x y t);
    }
takes_by past r (Verb.Look q) word p j once is = absurd (true≢false (sym (and_parts false (word == 0) is).0))
takes_by past r (Verb.Write i k x) word p j once is = absurd (true≢false (sym (and_parts false (word == 0) is).0))
takes_by past r (Verb.Close q) word p j once is = absurd (true≢false (sym (and_parts false (word == 0) is).0))
takes_by past r (Verb.Read w i k) word p j once is = absurd (true≢false (sym (and_parts false (word == 0) is).0))

-- both in one
one_verb : (v : Verb) (p q j i : ℕ) → puts_at p j v ≡ true → puts_at q i v ≡ true → (p ≡ q) × (j ≡ i)
one_verb (Verb.Put x y) p q j i a b =
    let left = and_parts (p == x) (j == y) a in
    let right = and_parts (q == x) (i == y) b in
    (eqb-true p x left.0 ∙ sym (eqb-true q x right.0), eqb-true j y left.1 ∙ sym (eqb-true i y right.1))
one_verb (Verb.Look x) p q j i a b = absurd (true≢false (sym a))
one_verb (Verb.Write x y z) p q j i a b = absurd (true≢false (sym a))
one_verb (Verb.Close x) p q j i a b = absurd (true≢false (sym a))
one_verb (Verb.Read x y z) p q j i a b = absurd (true≢false (sym a))

-- of two rows of a writer that were taken, the places are as their numbers
pub record InOrder (p q j i : ℕ) : Type 0 where
  pub once : j ≡ i → p ≡ q
  pub order : j < i → p < q

behind : (past : List Made) → AreAnswered past → (p q : ℕ) → place_word past p ≢ 0 → place_word past q ≡ 0 → p < q
behind past answered p q full free = go (cases_lt p q)
  where
    last : (q < p) ⊎ (p ≤ q) → p < q
    last (inl less) = absurd (not_zero is_reference (place_word past q) refl (front_law past answered q p less full) free)
    last (inr least) = strict (cases_lt p q)
      where
        same : q ≤ p → p ≡ q
        same most = omega (arith, least, most)

        strict : (p < q) ⊎ (q ≤ p) → p < q
        strict (inl less) = less
        strict (inr most) = absurd (full (ap (place_word past) (same most) ∙ free))

    go : (p < q) ⊎ (q ≤ p) → p < q
    go (inl less) = less
    go (inr most) = last (cases_lt q p)

pub behind_law : (past : List Made) → AreAnswered past → (p q : ℕ) → place_word past p ≢ 0 → place_word past q ≡ 0 → p < q
behind_law past answered p q full free = behind past answered p q full free

pub in_order : (made : List Made) → AreAnswered made → (r p q j i : ℕ) → has_taken p j (own_of r made) ≡ true → has_taken q i (own_of r made) ≡ true → InOrder p q j i
in_order [] answered r p q j i a b = absurd (true≢false (sym a))
in_order (m ∷ past) answered r p q j i a b = by_whom (in_order past answered.0 r p q j i) (r == m.by) refl a b
  where
    takes : r ≡ m.by → (x y : ℕ) → (puts_at x y m.verb && (m.word == 0)) ≡ true → Takes past r x y
    takes who x y t = subst (λ (z : ℕ). Takes past z x y) (sym who) (takes_by past m.by m.verb m.word x y answered.1 t)

    full : (x y : ℕ) → has_taken x y (own_of r past) ≡ true → place_word past x ≢ 0
    full x y t = not_zero is_reference (place_word past x) refl (ap is_reference (taken_stands past answered.0 r x y t).place ∙ is_row r y)

    both_new : (puts_at p j m.verb && (m.word == 0)) ≡ true → (puts_at q i m.verb && (m.word == 0)) ≡ true → InOrder p q j i
    both_new s t =
        let one = one_verb m.verb p q j i (and_parts (puts_at p j m.verb) (m.word == 0) s).0 (and_parts (puts_at q i m.verb) (m.word == 0) t).0 in
        let same = one.1 in
        record { once = λ e. one.0; order = λ less. absurd (not_less same less) }
      where
        not_less : j ≡ i → j < i → ⊥
        not_less e less = omega (arith, e, less)

    first_new : Takes past r p j → has_taken q i (own_of r past) ≡ true → InOrder p q j i
    first_new s t =
        let less = s.last q i t in
        record { once = λ e. absurd (no_same less e); order = λ more. absurd (no_more less more) }
      where
        no_same : i < j → j ≡ i → ⊥
        no_same less e = omega (arith, less, e)

        no_more : i < j → j < i → ⊥
        no_more less more = omega (arith, less, more)

    second_new : has_taken p j (own_of r past) ≡ true → Takes past r q i → InOrder p q j i
    second_new s t =
        let less = t.last p j s in
        record { once = λ e. absurd (no_same less e); order = λ more. behind past answered.0 p q (full p j s) t.free }
      where
        no_same : j < i → j ≡ i → ⊥
        no_same less e = omega (arith, less, e)

    either : (has_taken p j (own_of r past) ≡ true → has_taken q i (own_of r past) ≡ true → InOrder p q j i) → r ≡ m.by → ((puts_at p j m.verb && (m.word == 0)) ≡ true) ⊎ (has_taken p j (own_of r past) ≡ true) → ((puts_at q i m.verb && (m.word == 0)) ≡ true) ⊎ (has_taken q i (own_of r past) ≡ true) → InOrder p q j i
    either ih who (inl s) (inl t) = both_new s t
    either ih who (inl s) (inr t) = first_new (takes who p j s) t
    either ih who (inr s) (inl t) = second_new s (takes who q i t)
    either ih who (inr s) (inr t) = ih s t

    by_whom : (has_taken p j (own_of r past) ≡ true → has_taken q i (own_of r past) ≡ true → InOrder p q j i) → (b : Bool) → (r == m.by) ≡ b → has_taken p j (cond b (m ∷ own_of r past) (own_of r past)) ≡ true → has_taken q i (cond b (m ∷ own_of r past) (own_of r past)) ≡ true → InOrder p q j i
    by_whom ih true e s t = either ih (eqb-true r m.by e) (or_cases (puts_at p j m.verb && (m.word == 0)) (has_taken p j (own_of r past)) s) (or_cases (puts_at q i m.verb && (m.word == 0)) (has_taken q i (own_of r past)) t)
    by_whom ih false e s t = ih s t
