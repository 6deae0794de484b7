-- Rows: the words of one are what its writer wrote, and don't change once it was put.
use Rattle.std.proofs.Common.{◌≡◌, ◌⊎◌, ℕ, ◌<◌, ◌≤◌, ◌==◌, ◌&&◌, ◌||◌, Bool, true, false, cond, List, [], ◌∷◌, None, Some, inl, inr, refl, sym, ap, subst, ◌∙◌, eqb-true, ne_eqb, eq-eqb, arith, true≢false}
use Rattle.std.proofs.lemmas.Bool.{and_parts, cases_eq, le-leb, leb-true, or_cases, or_left, or_right}
use Rattle.mu_inbox.specs.declared.access.Cell.{Cell}
use Rattle.mu_inbox.specs.declared.access.Verb.{Verb}
use Rattle.mu_inbox.specs.Entries.{place_word, read_at, reads}
use Rattle.mu_inbox.specs.Memory.{Allowed, AreAnswered, IsAnsweredOnce, Made, has_found, has_put, has_taken, held, is_reference, own_of, puts, puts_at, reference, row_in, written, written_by, writer_in}
use Rattle.mu_inbox.proofs.Places.{ClosedHere, PutHere, fills, found_stays, made_of, not_zero, place_kept, same_both}

-- what a reference says
pub row_of : (r j : ℕ) → r < 256 → row_in (reference r j) ≡ j
row_of r j few = omega (arith, few)

pub writer_of : (r j : ℕ) → r < 256 → writer_in (reference r j) ≡ r
writer_of r j few = omega (arith, few)

pub is_row : (r j : ℕ) → is_reference (reference r j) ≡ true
is_row r j = le-leb 256 (reference r j) (omega arith)

-- what was put was put, also after one access more
pub put_of_taken : (p j : ℕ) (own : List Made) → has_taken p j own ≡ true → has_put j own ≡ true
put_of_taken p j [] is = is
put_of_taken p j (m ∷ own) is = go (put_of_taken p j own) (or_cases (puts_at p j m.verb && (m.word == 0)) (has_taken p j own) is)
  where
    puts_too : (v : Verb) → puts_at p j v ≡ true → puts j v ≡ true
    puts_too (Verb.Put q i) t = (and_parts (p == q) (j == i) t).1
    puts_too (Verb.Look q) t = t
    puts_too (Verb.Write i k x) t = t
    puts_too (Verb.Close q) t = t
    puts_too (Verb.Read w i k) t = t

    go : (has_taken p j own ≡ true → has_put j own ≡ true) → ((puts_at p j m.verb && (m.word == 0)) ≡ true) ⊎ (has_taken p j own ≡ true) → (puts j m.verb || has_put j own) ≡ true
    go ih (inl t) = or_left (puts j m.verb) (has_put j own) (puts_too m.verb (and_parts (puts_at p j m.verb) (m.word == 0) t).0)
    go ih (inr t) = or_right (puts j m.verb) (has_put j own) (ih t)

pub taken_grows : (past : List Made) (m : Made) (r p j : ℕ) → has_taken p j (own_of r past) ≡ true → has_taken p j (own_of r (m ∷ past)) ≡ true
taken_grows past m r p j is = go (r == m.by)
  where
    go : (b : Bool) → has_taken p j (cond b (m ∷ own_of r past) (own_of r past)) ≡ true
    go true = or_right (puts_at p j m.verb && (m.word == 0)) (has_taken p j (own_of r past)) is
    go false = is

taken_here : (past : List Made) (m : Made) (p j : ℕ) → (puts_at p j m.verb && (m.word == 0)) ≡ true → has_taken p j (own_of m.by (m ∷ past)) ≡ true
taken_here past m p j is =
    ap (λ (b : Bool). has_taken p j (cond b (m ∷ own_of m.by past) (own_of m.by past))) (eq-eqb m.by m.by refl)
    ∙ or_left (puts_at p j m.verb && (m.word == 0)) (has_taken p j (own_of m.by past)) is

-- a row that stands at a place was put there by its writer
pub taken_by_writer : (made : List Made) → AreAnswered made → (p : ℕ) → is_reference (place_word made p) ≡ true → has_taken p (row_in (place_word made p)) (own_of (writer_in (place_word made p)) made) ≡ true
taken_by_writer [] answered p is = absurd (true≢false (sym is))
taken_by_writer (m ∷ past) answered p is = either (taken_by_writer past answered.0 p) (cases_eq (place_word past p) 0)
  where
    by_word : (word : ℕ) → place_word (m ∷ past) p ≡ word → has_taken p (row_in word) (own_of (writer_in word) (m ∷ past)) ≡ true → has_taken p (row_in (place_word (m ∷ past) p)) (own_of (writer_in (place_word (m ∷ past) p)) (m ∷ past)) ≡ true
    by_word word e t = subst (λ (w : ℕ). has_taken p (row_in w) (own_of (writer_in w) (m ∷ past)) ≡ true) (sym e) t

    filled : PutHere past m p ⊎ ClosedHere past m p → has_taken p (row_in (place_word (m ∷ past) p)) (own_of (writer_in (place_word (m ∷ past) p)) (m ∷ past)) ≡ true
    filled (inl put) = by_word (reference m.by put.row) put.now
        (ap (λ (j : ℕ). has_taken p j (own_of (writer_in (reference m.by put.row)) (m ∷ past))) (row_of m.by put.row put.may.writer)
        ∙ (ap (λ (r : ℕ). has_taken p put.row (own_of r (m ∷ past))) (writer_of m.by put.row put.may.writer) ∙ taken_here past m p put.row put.taken))
    filled (inr closed) = absurd (true≢false (sym is ∙ ap is_reference closed.now))

    either : (is_reference (place_word past p) ≡ true → has_taken p (row_in (place_word past p)) (own_of (writer_in (place_word past p)) past) ≡ true) → (place_word past p ≡ 0) ⊎ (place_word past p ≡ 0 → ⊥) → has_taken p (row_in (place_word (m ∷ past) p)) (own_of (writer_in (place_word (m ∷ past) p)) (m ∷ past)) ≡ true
    either ih (inl free) = filled (fills past m p answered.1 free (not_zero is_reference (place_word (m ∷ past) p) refl is))
    either ih (inr full) =
        let same = place_kept past m p full in
        by_word (place_word past p) same
        (taken_grows past m (writer_in (place_word past p)) p (row_in (place_word past p)) (ih (ap is_reference (sym same) ∙ is)))

-- a row that was taken stands at its place
pub record Stands (made : List Made) (r p j : ℕ) : Type 0 where
  pub place : place_word made p ≡ reference r j
  pub writer : r < 256

taken_now : (past : List Made) (r : ℕ) (v : Verb) (word p j : ℕ) → IsAnsweredOnce past (made_of r v word) → puts_at p j v ≡ true → word ≡ 0 → Stands (made_of r v word ∷ past) r p j
taken_now past r (Verb.Put q i) word p j once puts none =
    let both = and_parts (p == q) (j == i) puts in
    let place = eqb-true p q both.0 in
    let free : place_word past p ≡ 0 = ap (place_word past) place ∙ (sym (once.found refl) ∙ none) in
    record {
      place =
          ap (λ (b : Bool). cond b (cond (0 == place_word past p) (reference r i) (place_word past p)) (place_word past p)) both.0
          ∙ (ap (λ (b : Bool). cond b (reference r i) (place_word past p)) (eq-eqb 0 (place_word past p) (sym free)) ∙ ap (reference r) (sym (eqb-true j i both.1)));
      writer = once.allowed.writer;
    }
taken_now past r (Verb.Look q) word p j once puts none = absurd (true≢false (sym puts))
taken_now past r (Verb.Write i k x) word p j once puts none = absurd (true≢false (sym puts))
taken_now past r (Verb.Close q) word p j once puts none = absurd (true≢false (sym puts))
taken_now past r (Verb.Read w i k) word p j once puts none = absurd (true≢false (sym puts))

pub taken_stands : (made : List Made) → AreAnswered made → (r p j : ℕ) → has_taken p j (own_of r made) ≡ true → Stands made r p j
taken_stands [] answered r p j is = absurd (true≢false (sym is))
taken_stands (m ∷ past) answered r p j is = by_whom (λ t. old (taken_stands past answered.0 r p j t)) (r == m.by) refl is
  where
    old : Stands past r p j → Stands (m ∷ past) r p j
    old before =
        record {
          place = place_kept past m p (not_zero is_reference (place_word past p) refl (ap is_reference before.place ∙ is_row r j)) ∙ before.place;
          writer = before.writer;
        }

    new : r ≡ m.by → ((puts_at p j m.verb && (m.word == 0)) ≡ true) → Stands (m ∷ past) r p j
    new who t =
        let both = and_parts (puts_at p j m.verb) (m.word == 0) t in
        subst (λ (x : ℕ). Stands (m ∷ past) x p j) (sym who) (taken_now past m.by m.verb m.word p j answered.1 both.0 (eqb-true m.word 0 both.1))

    either : (has_taken p j (own_of r past) ≡ true → Stands (m ∷ past) r p j) → r ≡ m.by → ((puts_at p j m.verb && (m.word == 0)) ≡ true) ⊎ (has_taken p j (own_of r past) ≡ true) → Stands (m ∷ past) r p j
    either ih who (inl t) = new who t
    either ih who (inr t) = ih t

    by_whom : (has_taken p j (own_of r past) ≡ true → Stands (m ∷ past) r p j) → (b : Bool) → (r == m.by) ≡ b → has_taken p j (cond b (m ∷ own_of r past) (own_of r past)) ≡ true → Stands (m ∷ past) r p j
    by_whom ih true k t = either ih (eqb-true r m.by k) (or_cases (puts_at p j m.verb && (m.word == 0)) (has_taken p j (own_of r past)) t)
    by_whom ih false k t = ih t

-- the words of a writer's rows are what it wrote last
unwritten : (own : List Made) (s : ℕ) (v : Verb) (word j k : ℕ) → written_by j k v (written j k own) ≡ written j k own → (b : Bool) → written j k (cond b (made_of s v word ∷ own) own) ≡ written j k own
unwritten own s v word j k e true = e
unwritten own s v word j k e false = refl

write_step : (past : List Made) (s i l x word r j k : ℕ) → held past (Cell.Word r j k) ≡ written j k (own_of r past) → (b : Bool)
    → cond (b && ((j == i) && (k == l))) x (held past (Cell.Word r j k)) ≡ written j k (cond b (made_of s (Verb.Write i l x) word ∷ own_of r past) (own_of r past))
write_step past s i l x word r j k same true = ap (λ (w : ℕ). cond ((j == i) && (k == l)) x w) same
write_step past s i l x word r j k same false = same

word_step : (past : List Made) (s : ℕ) (v : Verb) (word r j k : ℕ) → held past (Cell.Word r j k) ≡ written j k (own_of r past) → held (made_of s v word ∷ past) (Cell.Word r j k) ≡ written j k (own_of r (made_of s v word ∷ past))
word_step past s (Verb.Look q) word r j k same = same ∙ sym (unwritten (own_of r past) s (Verb.Look q) word j k refl (r == s))
word_step past s (Verb.Write i l x) word r j k same = write_step past s i l x word r j k same (r == s)
word_step past s (Verb.Put q i) word r j k same = same ∙ sym (unwritten (own_of r past) s (Verb.Put q i) word j k refl (r == s))
word_step past s (Verb.Close q) word r j k same = same ∙ sym (unwritten (own_of r past) s (Verb.Close q) word j k refl (r == s))
word_step past s (Verb.Read w i l) word r j k same =
    same_both ((r == w) && ((j == i) && (k == l))) (held past (Cell.Word r j k)) (held past (Cell.Word r j k)) refl
    ∙ (same ∙ sym (unwritten (own_of r past) s (Verb.Read w i l) word j k refl (r == s)))

pub word_held : (made : List Made) (r j k : ℕ) → held made (Cell.Word r j k) ≡ written j k (own_of r made)
word_held [] r j k = refl
word_held (m ∷ past) r j k = word_step past m.by m.verb m.word r j k (word_held past r j k)

-- a row that was put isn't written any more
write_kept : (own : List Made) (s i l x j k : ℕ) → has_put i own ≡ false → has_put j own ≡ true → (b : Bool) → (j == i) ≡ b → cond (b && (k == l)) x (written j k own) ≡ written j k own
write_kept own s i l x j k none put true e = absurd (true≢false (sym put ∙ (ap (λ (z : ℕ). has_put z own) (eqb-true j i e) ∙ none)))
write_kept own s i l x j k none put false e = refl

written_kept : (own : List Made) (s : ℕ) (v : Verb) (j k : ℕ) → Allowed s own v → has_put j own ≡ true → written_by j k v (written j k own) ≡ written j k own
written_kept own s (Verb.Look q) j k may put = refl
written_kept own s (Verb.Write i l x) j k may put = write_kept own s i l x j k may put (j == i) refl
written_kept own s (Verb.Put q i) j k may put = refl
written_kept own s (Verb.Close q) j k may put = refl
written_kept own s (Verb.Read w i l) j k may put = refl

pub own_kept : (past : List Made) (m : Made) (r j k : ℕ) → Allowed m.by (own_of m.by past) m.verb → has_put j (own_of r past) ≡ true → written j k (own_of r (m ∷ past)) ≡ written j k (own_of r past)
own_kept past m r j k may put = go (r == m.by) refl
  where
    go : (b : Bool) → (r == m.by) ≡ b → written j k (cond b (m ∷ own_of r past) (own_of r past)) ≡ written j k (own_of r past)
    go true e =
        let who = eqb-true r m.by e in
        written_kept (own_of r past) m.by m.verb j k (subst (λ (x : ℕ). Allowed m.by (own_of x past) m.verb) (sym who) may) put
    go false e = refl

-- so the words of a row that stands at a place stay
pub row_kept : (past : List Made) (m : Made) (p k : ℕ) → AreAnswered past → IsAnsweredOnce past m → is_reference (place_word past p) ≡ true
    → held (m ∷ past) (Cell.Word (writer_in (place_word past p)) (row_in (place_word past p)) k) ≡ held past (Cell.Word (writer_in (place_word past p)) (row_in (place_word past p)) k)
row_kept past m p k answered once is =
    let r = writer_in (place_word past p) in
    let j = row_in (place_word past p) in
    let put = put_of_taken p j (own_of r past) (taken_by_writer past answered p is) in
    word_held (m ∷ past) r j k ∙ (own_kept past m r j k once.allowed put ∙ sym (word_held past r j k))

-- what a process has read at a place stands there
pub record StandsRead (made : List Made) (p word k x : ℕ) : Type 0 where
  pub place : place_word made p ≡ word
  pub held : held made (Cell.Word (writer_in word) (row_in word) k) ≡ x

reads_cell : (past : List Made) (r : ℕ) (v : Verb) (told word k : ℕ) → IsAnsweredOnce past (made_of r v told) → reads word k v ≡ true → told ≡ held past (Cell.Word (writer_in word) (row_in word) k)
reads_cell past r (Verb.Read w j l) told word k once is =
    let both = and_parts (writer_in word == w) ((row_in word == j) && (k == l)) is in
    let rest = and_parts (row_in word == j) (k == l) both.1 in
    let a = eqb-true (writer_in word) w both.0 in
    let b = eqb-true (row_in word) j rest.0 in
    let c = eqb-true k l rest.1 in
    once.found refl ∙ (λ i. held past (Cell.Word ((sym a) i) ((sym b) i) ((sym c) i)))
reads_cell past r (Verb.Look q) told word k once is = absurd (true≢false (sym is))
reads_cell past r (Verb.Write i l x) told word k once is = absurd (true≢false (sym is))
reads_cell past r (Verb.Put q i) told word k once is = absurd (true≢false (sym is))
reads_cell past r (Verb.Close q) told word k once is = absurd (true≢false (sym is))

read_kept : (past : List Made) (m : Made) (p word k x : ℕ) → AreAnswered past → IsAnsweredOnce past m → is_reference word ≡ true → StandsRead past p word k x → StandsRead (m ∷ past) p word k x
read_kept past m p word k x answered once row is =
    let filled : is_reference (place_word past p) ≡ true = ap is_reference is.place ∙ row in
    record {
      place = place_kept past m p (not_zero is_reference (place_word past p) refl filled) ∙ is.place;
      held =
          subst (λ (w : ℕ). held (m ∷ past) (Cell.Word (writer_in w) (row_in w) k) ≡ held past (Cell.Word (writer_in w) (row_in w) k)) is.place (row_kept past m p k answered once filled)
          ∙ is.held;
    }

some_is : (a b : ℕ) → Some a ≡ Some b → a ≡ b
some_is a b e = cc

pub read_stands : (made : List Made) → AreAnswered made → (r p word k x : ℕ) → is_reference word ≡ true → read_at p word k (own_of r made) ≡ Some x → StandsRead made p word k x
read_stands [] answered r p word k x row is = absurd (none is)
  where
    none : None ≡ Some x → ⊥
    none e = cc
read_stands (m ∷ past) answered r p word k x row is = by_whom (λ t. read_kept past m p word k x answered.0 answered.1 row (read_stands past answered.0 r p word k x row t)) (r == m.by) refl is
  where
    new : (reads word k m.verb && has_found p (λ n. n == word) (own_of r past)) ≡ true → Some m.word ≡ Some x → StandsRead (m ∷ past) p word k x
    new t e =
        let both = and_parts (reads word k m.verb) (has_found p (λ n. n == word) (own_of r past)) t in
        let place = eqb-true (place_word past p) word (found_stays past answered.0 r p (λ n. n == word) (ne_eqb 0 word (λ z. not_zero is_reference word refl row (sym z))) both.1) in
        read_kept past m p word k x answered.0 answered.1 row
        (record { place = place; held = sym (reads_cell past m.by m.verb m.word word k answered.1 both.0) ∙ some_is m.word x e })

    either : (read_at p word k (own_of r past) ≡ Some x → StandsRead (m ∷ past) p word k x) → (b : Bool) → (reads word k m.verb && has_found p (λ n. n == word) (own_of r past)) ≡ b → cond b (Some m.word) (read_at p word k (own_of r past)) ≡ Some x → StandsRead (m ∷ past) p word k x
    either ih true k t = new k t
    either ih false k t = ih t

    by_whom : (read_at p word k (own_of r past) ≡ Some x → StandsRead (m ∷ past) p word k x) → (b : Bool) → (r == m.by) ≡ b → read_at p word k (cond b (m ∷ own_of r past) (own_of r past)) ≡ Some x → StandsRead (m ∷ past) p word k x
    by_whom ih true e t = either ih (reads word k m.verb && has_found p (λ n. n == word) (own_of r past)) refl t
    by_whom ih false e t = ih t
