-- Places: what stands at one stays, who filled it, and that they fill from the front.
use Rattle.std.proofs.Common.{◌≡◌, ◌≢◌, ◌⊎◌, ℕ, suc, zero, ◌<◌, ◌≤◌, ◌==◌, ◌&&◌, Bool, true, false, cond, List, [], ◌∷◌, inl, inr, refl, sym, ap, subst, ◌∙◌, eqb-true, ne_eqb, eq-eqb, arith, true≢false}
use Rattle.std.proofs.lemmas.Bool.{and_parts, and_from, or_cases, cases_eq, cases_lt}
use Rattle.lone_words.specs.Memory.{left_by}
use Rattle.mu_inbox.specs.declared.access.Cell.{Cell}
use Rattle.mu_inbox.specs.declared.access.Verb.{Verb}
use Rattle.mu_inbox.specs.Entries.{place_word}
use Rattle.mu_inbox.specs.Memory.{AreAnswered, IsAnsweredOnce, Made, MayPut, cell_of, has_found, has_passed, is_about, is_reference, is_same_cell, own_of, puts_at, reference, step_of}

-- an access by its parts
abbrev pub made_of : ℕ → Verb → ℕ → Made
made_of r v word = record { by = r; verb = v; word = word }

pub same_both : (b : Bool) (x s : ℕ) → x ≡ s → cond b x s ≡ s
same_both true x s e = e
same_both false x s e = refl

not_free : (s x : ℕ) → s ≢ 0 → cond (0 == s) x s ≡ s
not_free s x ne = ap (λ (b : Bool). cond b x s) (ne_eqb 0 s (λ e. ne (sym e)))

is_free : (s x : ℕ) → s ≡ 0 → cond (0 == s) x s ≡ x
is_free s x e = ap (λ (b : Bool). cond b x s) (eq-eqb 0 s (sym e))

kept_at : (r : ℕ) (v : Verb) (p s : ℕ) → s ≢ 0 → cond (is_same_cell (Cell.Place p) (cell_of r v)) (left_by (step_of r v) s) s ≡ s
kept_at r (Verb.Look q) p s ne = same_both (p == q) s s refl
kept_at r (Verb.Write j k x) p s ne = refl
kept_at r (Verb.Put q j) p s ne = same_both (p == q) (cond (0 == s) (reference r j) s) s (not_free s (reference r j) ne)
kept_at r (Verb.Close q) p s ne = same_both (p == q) (cond (0 == s) 1 s) s (not_free s 1 ne)
kept_at r (Verb.Read w j k) p s ne = refl

-- what stands at a place stays
pub place_kept : (past : List Made) (m : Made) (p : ℕ) → place_word past p ≢ 0 → place_word (m ∷ past) p ≡ place_word past p
place_kept past m p ne = kept_at m.by m.verb p (place_word past p) ne

-- a row was put at a free place, or it was closed
pub record PutHere (past : List Made) (m : Made) (p : ℕ) : Type 0 where
  pub row : ℕ
  pub taken : (puts_at p row m.verb && (m.word == 0)) ≡ true
  pub may : MayPut m.by p row (own_of m.by past)
  pub now : place_word (m ∷ past) p ≡ reference m.by row

pub record ClosedHere (past : List Made) (m : Made) (p : ℕ) : Type 0 where
  pub passed : has_passed p (own_of m.by past) ≡ true
  pub now : place_word (m ∷ past) p ≡ 1

put_here : (past : List Made) (r q j word p : ℕ) → MayPut r q j (own_of r past) → word ≡ place_word past q → place_word past p ≡ 0 → (b : Bool) → (p == q) ≡ b
    → cond b (cond (0 == place_word past p) (reference r j) (place_word past p)) (place_word past p) ≢ 0 → PutHere past (made_of r (Verb.Put q j) word) p
put_here past r q j word p may found free false k now = absurd (now free)
put_here past r q j word p may found free true k now =
    let same = eqb-true p q k in
    record {
      row = j;
      taken = and_from ((p == q) && (j == j)) (word == 0) (and_from (p == q) (j == j) k (eq-eqb j j refl)) (eq-eqb word 0 (found ∙ (ap (place_word past) (sym same) ∙ free)));
      may = subst (λ (x : ℕ). MayPut r x j (own_of r past)) (sym same) may;
      now = ap (λ (b : Bool). cond b (cond (0 == place_word past p) (reference r j) (place_word past p)) (place_word past p)) k ∙ is_free (place_word past p) (reference r j) free;
    }

closed_here : (past : List Made) (r q word p : ℕ) → has_passed q (own_of r past) ≡ true → place_word past p ≡ 0 → (b : Bool) → (p == q) ≡ b
    → cond b (cond (0 == place_word past p) 1 (place_word past p)) (place_word past p) ≢ 0 → ClosedHere past (made_of r (Verb.Close q) word) p
closed_here past r q word p passed free false k now = absurd (now free)
closed_here past r q word p passed free true k now =
    let same = eqb-true p q k in
    record {
      passed = subst (λ (x : ℕ). has_passed x (own_of r past) ≡ true) (sym same) passed;
      now = ap (λ (b : Bool). cond b (cond (0 == place_word past p) 1 (place_word past p)) (place_word past p)) k ∙ is_free (place_word past p) 1 free;
    }

fills_by : (past : List Made) (r : ℕ) (v : Verb) (word p : ℕ) → IsAnsweredOnce past (made_of r v word) → place_word past p ≡ 0 → place_word (made_of r v word ∷ past) p ≢ 0
    → PutHere past (made_of r v word) p ⊎ ClosedHere past (made_of r v word) p
fills_by past r (Verb.Look q) word p once free now = absurd (now (same_both (p == q) (place_word past p) (place_word past p) refl ∙ free))
fills_by past r (Verb.Write j k x) word p once free now = absurd (now free)
fills_by past r (Verb.Put q j) word p once free now = inl (put_here past r q j word p once.allowed (once.found refl) free (p == q) refl now)
fills_by past r (Verb.Close q) word p once free now = inr (closed_here past r q word p once.allowed free (p == q) refl now)
fills_by past r (Verb.Read w j k) word p once free now = absurd (now free)

-- who fills a free place
pub fills : (past : List Made) (m : Made) (p : ℕ) → IsAnsweredOnce past m → place_word past p ≡ 0 → place_word (m ∷ past) p ≢ 0 → PutHere past m p ⊎ ClosedHere past m p
fills past m p once free now = fills_by past m.by m.verb m.word p once free now

-- what passes a test that a free place doesn't pass
pub not_zero : (test : ℕ → Bool) (s : ℕ) → test 0 ≡ false → test s ≡ true → s ≢ 0
not_zero test s none is e = true≢false (sym is ∙ (ap test e ∙ none))

about_found : (past : List Made) (r : ℕ) (v : Verb) (word p : ℕ) → IsAnsweredOnce past (made_of r v word) → is_about p v ≡ true → word ≡ place_word past p
about_found past r (Verb.Look q) word p once is = once.found refl ∙ ap (place_word past) (sym (eqb-true p q is))
about_found past r (Verb.Write j k x) word p once is = absurd (true≢false (sym is))
about_found past r (Verb.Put q j) word p once is = once.found refl ∙ ap (place_word past) (sym (eqb-true p q is))
about_found past r (Verb.Close q) word p once is = once.found refl ∙ ap (place_word past) (sym (eqb-true p q is))
about_found past r (Verb.Read w j k) word p once is = absurd (true≢false (sym is))

-- what a process has found at a place still passes there
pub found_stays : (made : List Made) → AreAnswered made → (r p : ℕ) (test : ℕ → Bool) → test 0 ≡ false → has_found p test (own_of r made) ≡ true → test (place_word made p) ≡ true
found_stays [] answered r p test none is = absurd (true≢false (sym is))
found_stays (m ∷ past) answered r p test none is = by_whom (found_stays past answered.0 r p test none) (r == m.by) is
  where
    stays : test (place_word past p) ≡ true → test (place_word (m ∷ past) p) ≡ true
    stays t = ap test (place_kept past m p (not_zero test (place_word past p) none t)) ∙ t

    here : (is_about p m.verb && test m.word) ≡ true → test (place_word past p) ≡ true
    here t =
        let both = and_parts (is_about p m.verb) (test m.word) t in
        ap test (sym (about_found past m.by m.verb m.word p answered.1 both.0)) ∙ both.1

    either : (has_found p test (own_of r past) ≡ true → test (place_word past p) ≡ true) → ((is_about p m.verb && test m.word) ≡ true) ⊎ (has_found p test (own_of r past) ≡ true) → test (place_word (m ∷ past) p) ≡ true
    either ih (inl t) = stays (here t)
    either ih (inr t) = stays (ih t)

    by_whom : (has_found p test (own_of r past) ≡ true → test (place_word past p) ≡ true) → (b : Bool) → has_found p test (cond b (m ∷ own_of r past) (own_of r past)) ≡ true → test (place_word (m ∷ past) p) ≡ true
    by_whom ih true t = either ih (or_cases (is_about p m.verb && test m.word) (has_found p test (own_of r past)) t)
    by_whom ih false t = stays (ih t)

-- a place is filled only if the one before it is known to be
before_by : (past : List Made) (m : Made) (p : ℕ) → PutHere past m p ⊎ ClosedHere past m p → has_passed p (own_of m.by past) ≡ true
before_by past m p (inl put) = put.may.passed
before_by past m p (inr closed) = closed.passed

pub front_next : (made : List Made) → AreAnswered made → (p : ℕ) → place_word made (suc p) ≢ 0 → is_reference (place_word made p) ≡ true
front_next [] answered p ne = absurd (ne refl)
front_next (m ∷ past) answered p ne = either (front_next past answered.0 p) (cases_eq (place_word past (suc p)) 0)
  where
    stays : is_reference (place_word past p) ≡ true → is_reference (place_word (m ∷ past) p) ≡ true
    stays t = ap is_reference (place_kept past m p (not_zero is_reference (place_word past p) refl t)) ∙ t

    either : (place_word past (suc p) ≢ 0 → is_reference (place_word past p) ≡ true) → (place_word past (suc p) ≡ 0) ⊎ (place_word past (suc p) ≡ 0 → ⊥) → is_reference (place_word (m ∷ past) p) ≡ true
    either ih (inl free) = stays (found_stays past answered.0 m.by p is_reference refl (before_by past m (suc p) (fills past m (suc p) answered.1 free ne)))
    either ih (inr full) = stays (ih full)

below_next : (p q : ℕ) → p < suc q → (p < q) ⊎ (p ≡ q)
below_next p q below = go (cases_lt p q)
  where
    same : q ≤ p → p ≡ q
    same more = omega (arith, below, more)

    go : (p < q) ⊎ (q ≤ p) → (p < q) ⊎ (p ≡ q)
    go (inl less) = inl less
    go (inr more) = inr (same more)

pub front_law : (made : List Made) → AreAnswered made → (p q : ℕ) → p < q → place_word made q ≢ 0 → is_reference (place_word made p) ≡ true
front_law made answered p zero below ne = absurd (none below)
  where
    none : p < 0 → ⊥
    none b = omega (arith, b)
front_law made answered p (suc q) below ne = go (front_law made answered p q) (below_next p q below)
  where
    last : is_reference (place_word made q) ≡ true
    last = front_next made answered q ne

    go : (p < q → place_word made q ≢ 0 → is_reference (place_word made p) ≡ true) → (p < q) ⊎ (p ≡ q) → is_reference (place_word made p) ≡ true
    go ih (inl less) = ih less (not_zero is_reference (place_word made q) refl last)
    go ih (inr same) = subst (λ (x : ℕ). is_reference (place_word made x) ≡ true) (sym same) last
