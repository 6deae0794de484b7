-- What an event keeps that neither teaches an entry nor completes a row of one.
use Rattle.std.proofs.Common.{◌≡◌, ◌∙◌, ◌≢◌, ℕ, zero, suc, ◌+◌, ◌%◌, ◌<◌, ◌≤◌, ◌==◌, ◌&&◌, ◌||◌, ◌++◌, ◌⊎◌, inl, inr, Bool, true, false, None, Some, List, [], ◌∷◌, ap, arith, length, refl, subst, sym}
use Rattle.std.specs.Prelude.{if◌then◌else◌, nat_le, nat_lt, not}
use Rattle.std.specs.declared.option.Option.{Option}
use Rattle.std.specs.List.{slice_get}
use Rattle.std.proofs.lemmas.Bool.{and_parts, cases_eq, eq-eqb, le-leb, lt-ltb, ne_eqb, true≢false}
use Rattle.std.proofs.lemmas.List.{length_push}
use Rattle.mu_model.specs.declared.config.Config.{Config}
use Rattle.mu_model.specs.declared.event.Answer.{Answer}
use Rattle.mu_model.specs.declared.event.Event.{Event}
use Rattle.mu_model.specs.declared.event.Verb.{Verb}
use Rattle.mu_model.specs.Answers.{shown}
use Rattle.mu_model.specs.Contents.{is_batch, rest_of}
use Rattle.mu_model.specs.Diligence.{completes_row, completes_row_verb, is_row_of}
use Rattle.mu_model.specs.Ends.{outrun}
use Rattle.mu_model.specs.Histories.{all_below, earlier_or, max_with, event_by}
use Rattle.mu_model.specs.Knowledge.{applied, fuo_read, front, greatest_fuo_read, grown, has_entry, has_row, has_word, is_known_decided, known, learnt_by}
use Rattle.mu_model.specs.Parts.{IsPossible}
use Rattle.mu_model.specs.Regions.{region_log}
use Rattle.mu_model.specs.Scores.{least_below}
use Rattle.mu_model.specs.Steps.{knows_more}
use Rattle.mu_model.proofs.Basics.{or_true, same_number, same_some, true_or}
use Rattle.mu_model.proofs.Scans.{all_at, each_all}
use Rattle.mu_agree.proofs.Possible.{answered, at_event, part_looks_find_law}
use Rattle.mu_knowledge.proofs.Fetched.{read_word}
use Rattle.mu_follow.specs.Due.{rows_had}

-- a list that isn't longer with a value that may have come is the same
grown_same : (xs : List ℕ) (o : Option ℕ) → nat_lt (length xs) (length (grown xs o)) ≡ false → grown xs o ≡ xs
grown_same xs None no_more = refl
grown_same xs (Some v) no_more = let one = length_push xs v in absurd (true≢false (sym (lt-ltb (length xs) (length (xs ++ v ∷ [])) (omega (arith, one))) ∙ no_more))

-- who learns nothing knows the same
pub known_same : (c : Config) (r : ℕ) (past : List Event) (e : Event) → knows_more c r past e ≡ false → known c r (e ∷ past) ≡ known c r past
known_same c r past e no_more = grown_same (known c r past) (learnt_by c r past (length (known c r past)) e.by e.verb e.answer (e ∷ past)) no_more

-- the verb writes a word of a row
abbrev pub is_write : Verb → Bool
is_write (Verb.WriteRow j k x) = true
is_write _ = false

-- two tests that are the same below n
all_same : (n : ℕ) (f g : ℕ → Bool) → ((k : ℕ) → k < n → f k ≡ g k) → all_below n f ≡ all_below n g
all_same zero f g same = refl
all_same (suc n) f g same = ap (λ t. t && all_below n f) (same n (omega arith)) ∙ ap (λ t. g n && t) (all_same n f g (λ k low. same k (omega (arith, low))))

-- a row that is had stays had
row_grows : (r u w word : ℕ) (answer : Answer) (past : List Event) → has_row r u past ≡ true → has_row r u (event_by r (Verb.ReadRow w word) answer ∷ past) ≡ true
row_grows r u w word answer past had = each_all 12 (λ k. has_word r u k (event_by r (Verb.ReadRow w word) answer ∷ past)) (λ k low.
    sym (read_word r u k w word (event_by r (Verb.ReadRow w word) answer) past refl (same_number r)) ∙ or_true ((u == w) && (k == word)) (has_word r u k past) (all_at 12 (λ k. has_word r u k past) had k low))

-- a row of a known entry, at an event that completes none
row_same : (c : Config) (r u : ℕ) (past : List Event) (verb : Verb) (answer : Answer) → is_write verb ≡ false → is_row_of c u (known c r past) ≡ true → completes_row_verb c r past (event_by r verb answer ∷ past) verb ≡ false
    → has_row r u (event_by r verb answer ∷ past) ≡ has_row r u past
row_same c r u past (Verb.WriteRow j k x) answer no_write of_known completes = absurd (true≢false no_write)
row_same c r u past (Verb.ReadRow w word) answer no_write of_known completes = elim (cases_eq u w) [
  | inl same ↦ (
      let here : (is_row_of c u (known c r past) && (not (has_row r u past) && has_row r u (event_by r (Verb.ReadRow w word) answer ∷ past))) ≡ false = subst (λ z. (is_row_of c z (known c r past) && (not (has_row r z past) && has_row r z (event_by r (Verb.ReadRow w word) answer ∷ past))) ≡ false) (sym same) completes in
      by_cases (has_row r u past) (has_row r u (event_by r (Verb.ReadRow w word) answer ∷ past)) (sym (ap (λ t. t && (not (has_row r u past) && has_row r u (event_by r (Verb.ReadRow w word) answer ∷ past))) of_known) ∙ here) (row_grows r u w word answer past))
  | inr other ↦ all_same 12 (λ k. has_word r u k (event_by r (Verb.ReadRow w word) answer ∷ past)) (λ k. has_word r u k past) (λ k low.
      sym (read_word r u k w word (event_by r (Verb.ReadRow w word) answer) past refl (same_number r)) ∙ ap (λ t. (t && (k == word)) || has_word r u k past) (ne_eqb u w other))
]
  where
    by_cases : (before now : Bool) → (not before && now) ≡ false → (before ≡ true → now ≡ true) → now ≡ before
    by_cases true now none grows = grows refl
    by_cases false false none grows = refl
    by_cases false true none grows = absurd (true≢false none)
row_same c r u past verb answer no_write of_known completes = refl

-- the values before the first that fails, by two tests that are the same for each of them
pub front_same : (c : Config) (row_before row_now : ℕ → Bool) (xs : List ℕ) → ((u : ℕ) → is_row_of c u xs ≡ true → row_now u ≡ row_before u)
    → length (front (λ v. not (is_batch c v) || all_below (rest_of c (v % 4096) + 1) (λ t. row_now (v + t))) xs) ≡ length (front (λ v. not (is_batch c v) || all_below (rest_of c (v % 4096) + 1) (λ t. row_before (v + t))) xs)
front_same c row_before row_now [] same = refl
front_same c row_before row_now (v ∷ vs) same = go (is_batch c v) refl (front_same c row_before row_now vs (λ u is. same u (or_true (is_batch c v && (nat_le v u && nat_le u (v + rest_of c (v % 4096)))) (is_row_of c u vs) is)))
  where
    n : ℕ
    n = rest_of c (v % 4096) + 1

    rows : is_batch c v ≡ true → all_below n (λ t. row_now (v + t)) ≡ all_below n (λ t. row_before (v + t))
    rows batch = all_same n (λ t. row_now (v + t)) (λ t. row_before (v + t)) (λ t low. same (v + t)
        (true_or (is_batch c v && (nat_le v (v + t) && nat_le (v + t) (v + rest_of c (v % 4096)))) (is_row_of c (v + t) vs) (rw (batch, within v t, above v t (rest_of c (v % 4096)) (omega (arith, low))) refl)))
      where
        within : (v t : ℕ) → nat_le v (v + t) ≡ true
        within v t = le-leb v (v + t) (omega arith)

        above : (v t m : ℕ) → t ≤ m → nat_le (v + t) (v + m) ≡ true
        above v t m low = le-leb (v + t) (v + m) (omega (arith, low))

    more : (a b : Bool) (xs ys : List ℕ) → a ≡ b → length xs ≡ length ys → length (if a then (v ∷ xs) else []) ≡ length (if b then (v ∷ ys) else [])
    more true true xs ys is long = omega (arith, long)
    more false false xs ys is long = refl
    more true false xs ys is long = absurd (true≢false is)
    more false true xs ys is long = absurd (true≢false (sym is))

    go : (t : Bool) → is_batch c v ≡ t → length (front (λ v. not (is_batch c v) || all_below (rest_of c (v % 4096) + 1) (λ t. row_now (v + t))) vs) ≡ length (front (λ v. not (is_batch c v) || all_below (rest_of c (v % 4096) + 1) (λ t. row_before (v + t))) vs)
        → length (if (not t || all_below n (λ t. row_now (v + t))) then (v ∷ front (λ v. not (is_batch c v) || all_below (rest_of c (v % 4096) + 1) (λ t. row_now (v + t))) vs) else [])
        ≡ length (if (not t || all_below n (λ t. row_before (v + t))) then (v ∷ front (λ v. not (is_batch c v) || all_below (rest_of c (v % 4096) + 1) (λ t. row_before (v + t))) vs) else [])
    go true batch ih = more (all_below n (λ t. row_now (v + t))) (all_below n (λ t. row_before (v + t))) (front (λ v. not (is_batch c v) || all_below (rest_of c (v % 4096) + 1) (λ t. row_now (v + t))) vs)
        (front (λ v. not (is_batch c v) || all_below (rest_of c (v % 4096) + 1) (λ t. row_before (v + t))) vs) (rows batch) ih
    go false batch ih = omega (arith, ih)

-- the first value that fails
front_stops : (test : ℕ → Bool) (xs : List ℕ) → length (front test xs) < length xs → (v : ℕ) × ((slice_get xs (length (front test xs)) ≡ Some v) × (test v ≡ false))
front_stops test [] low = absurd (omega (arith, low))
front_stops test (x ∷ xs) low = go (test x) refl low (front_stops test xs)
  where
    go : (t : Bool) → test x ≡ t → length (if t then (x ∷ front test xs) else []) < suc (length xs) → (length (front test xs) < length xs → (v : ℕ) × ((slice_get xs (length (front test xs)) ≡ Some v) × (test v ≡ false)))
        → (v : ℕ) × ((slice_get (x ∷ xs) (length (if t then (x ∷ front test xs) else [])) ≡ Some v) × (test v ≡ false))
    go true is low ih = ih (omega (arith, low))
    go false is low ih = (x, (refl, is))

-- some row of it is missing, the first that is
pub record IsMissing (c : Config) (r : ℕ) (past : List Event) (v : ℕ) : Type 0 where
  pub batch : is_batch c v ≡ true
  pub within : rows_had c r past v < rest_of c (v % 4096) + 1
  pub missing : has_row r (v + rows_had c r past v) past ≡ false

-- the first number that fails
first_failing : (n : ℕ) (f : ℕ → Bool) → all_below n f ≡ false → (least_below n (λ t. not (f t)) < n) × (f (least_below n (λ t. not (f t))) ≡ false)
first_failing zero f none = absurd (true≢false none)
first_failing (suc n) f none = go (λ some. first_failing n f some) (all_below n f) refl (f n) refl none
  where
    test : ℕ → Bool
    test t = not (f t)

    all_fail : (m : ℕ) → all_below m f ≡ true → least_below m (λ t. not (f t)) ≡ m
    all_fail zero all = refl
    all_fail (suc m) all =
        let parts = and_parts (f m) (all_below m f) all in
        let before = all_fail m parts.1 in
        let one : m + 1 ≡ suc m = omega arith in
        ap (λ s. if s then (if not (f m) then m else m + 1) else least_below m (λ t. not (f t))) (eq-eqb (least_below m (λ t. not (f t))) m before) ∙ (ap (λ t. if not t then m else m + 1) parts.0 ∙ one)

    go : (all_below n f ≡ false → (least_below n (λ t. not (f t)) < n) × (f (least_below n (λ t. not (f t))) ≡ false)) → (a : Bool) → all_below n f ≡ a → (b : Bool) → f n ≡ b → (b && a) ≡ false
        → ((if least_below n (λ t. not (f t)) == n then (if not (f n) then n else n + 1) else least_below n (λ t. not (f t))) < suc n) × (f (if least_below n (λ t. not (f t)) == n then (if not (f n) then n else n + 1) else least_below n (λ t. not (f t))) ≡ false)
    go before true all true last none = absurd (true≢false none)
    go before true all false last none = rw (eq-eqb (least_below n (λ t. not (f t))) n (all_fail n all), last) (omega arith, last)
    go before false some b last none =
        let ih = before some in
        let low = ih.0 in
        rw (ne_eqb (least_below n (λ t. not (f t))) n (λ e. omega (arith, low, e))) (omega (arith, low), ih.1)

entry_missing : (c : Config) (r v : ℕ) (past : List Event) → has_entry c r v past ≡ false → IsMissing c r past v
entry_missing c r v past none = go (is_batch c v) refl none
  where
    n : ℕ
    n = rest_of c (v % 4096) + 1

    find : all_below n (λ t. has_row r (v + t) past) ≡ false → (rows_had c r past v < n) × (has_row r (v + rows_had c r past v) past ≡ false)
    find none = first_failing n (λ t. has_row r (v + t) past) none

    go : (t : Bool) → is_batch c v ≡ t → (not t || all_below n (λ t. has_row r (v + t) past)) ≡ false → IsMissing c r past v
    go true batch none = let found = find none in record { batch = batch; within = found.0; missing = found.1 }
    go false batch none = absurd (true≢false none)

-- a row of the first known entry that isn't applied, which r doesn't have
pub record IsNextRow (c : Config) (r : ℕ) (past : List Event) : Type 0 where
  pub value : ℕ
  pub at : slice_get (known c r past) (length (applied c r past)) ≡ Some value
  pub row : IsMissing c r past value

pub next_row : (c : Config) (r : ℕ) (past : List Event) → length (applied c r past) < length (known c r past) → IsNextRow c r past
next_row c r past low =
    let stop = front_stops (λ v. has_entry c r v past) (known c r past) low in
    record { value = stop.0; at = stop.1.0; row = entry_missing c r stop.0 past stop.1.1 }

-- it is one of a known entry
pub row_of_known : (c : Config) (i v u : ℕ) (xs : List ℕ) → slice_get xs i ≡ Some v → is_batch c v ≡ true → v ≤ u → u ≤ v + rest_of c (v % 4096) → is_row_of c u xs ≡ true
row_of_known c i v u [] at batch low high = cc
row_of_known c zero v u (x ∷ xs) at batch low high =
    let same = same_some x v at in
    true_or (is_batch c x && (nat_le x u && nat_le u (x + rest_of c (x % 4096)))) (is_row_of c u xs) (rw (same, batch, le-leb v u low, le-leb u (v + rest_of c (v % 4096)) high) refl)
row_of_known c (suc i) v u (x ∷ xs) at batch low high = or_true (is_batch c x && (nat_le x u && nat_le u (x + rest_of c (x % 4096)))) (is_row_of c u xs) (row_of_known c i v u xs at batch low high)

-- a look at the next position below a FUO that was read teaches, or finds the place used again
pub look_teaches : (c : Config) (r : ℕ) (past : List Event) (answer : Answer) → length (known c r past) < greatest_fuo_read r r past → IsPossible c r (event_by r (Verb.Look r (length (known c r past))) answer ∷ past)
    → (knows_more c r past (event_by r (Verb.Look r (length (known c r past))) answer) ≡ true) ⊎ (outrun c r (event_by r (Verb.Look r (length (known c r past))) answer ∷ past) ≡ None → ⊥)
look_teaches c r past answer below possible = found answer (shows (nat_lt (i + c.ring) (length (region_log r older))) (slice_get (region_log r older) i) answer (answered c r past e (Verb.Look r i) possible refl)) (part_looks_find_law c r r i past e possible refl below)
  where
    i : ℕ
    i = length (known c r past)

    e : Event
    e = event_by r (Verb.Look r (length (known c r past))) answer

    older : List Event
    older = (at_event c r past e possible).older

    shows : (t : Bool) (o : Option (ℕ × ℕ)) (a : Answer) → a ≡ (if t then Answer.Past else shown o) → (a ≡ Answer.Past) ⊎ ((a ≡ Answer.Empty) ⊎ ((b : ℕ) × ((v : ℕ) × (a ≡ Answer.Entry b v))))
    shows true o a is = inl is
    shows false None a is = inr (inl is)
    shows false (Some entry) a is = inr (inr (entry.0, (entry.1, is)))

    taught : (v : ℕ) (o : Option ℕ) → o ≡ Some v → nat_lt (length (known c r past)) (length (grown (known c r past) o)) ≡ true
    taught v o is = let one = length_push (known c r past) v in subst (λ p. nat_lt (length (known c r past)) (length (grown (known c r past) p)) ≡ true) (sym is) (lt-ltb (length (known c r past)) (length (known c r past ++ v ∷ [])) (omega (arith, one)))

    decided : is_known_decided r past r i ≡ true
    decided = true_or (nat_lt i (greatest_fuo_read r r past)) _ (lt-ltb i (greatest_fuo_read r r past) below)

    all : ((r == r) && ((length (known c r past) == length (known c r past)) && is_known_decided r past r (length (known c r past)))) ≡ true
    all = ap (λ t. t && ((length (known c r past) == length (known c r past)) && is_known_decided r past r (length (known c r past)))) (same_number r) ∙ (ap (λ t. t && is_known_decided r past r (length (known c r past))) (same_number (length (known c r past))) ∙ decided)

    found : (a : Answer) → (a ≡ Answer.Past) ⊎ ((a ≡ Answer.Empty) ⊎ ((b : ℕ) × ((v : ℕ) × (a ≡ Answer.Entry b v)))) → a ≢ Answer.Empty
        → (knows_more c r past (event_by r (Verb.Look r (length (known c r past))) a) ≡ true) ⊎ (outrun c r (event_by r (Verb.Look r (length (known c r past))) a ∷ past) ≡ None → ⊥)
    found a (inl is) some = rw is (inr (again (outrun c r past)))
      where
        again : (o : Option (ℕ × ℕ)) → earlier_or (if (r == r) && nat_le (length (known c r past)) (length (known c r past)) then Some (r, length (known c r past)) else None) o ≡ None → ⊥
        again o none = let own : ((r == r) && nat_le (length (known c r past)) (length (known c r past))) ≡ true = rw (same_number r, le-leb (length (known c r past)) (length (known c r past)) (omega arith)) refl in
            some_none o (subst (λ t. earlier_or (if t then Some (r, length (known c r past)) else None) o ≡ None) own none)
          where
            some_none : (o : Option (ℕ × ℕ)) → earlier_or (Some (r, length (known c r past))) o ≡ None → ⊥
            some_none None none = cc
            some_none (Some x) none = cc
    found a (inr (inl is)) some = absurd (some is)
    found a (inr (inr entry)) some = rw entry.1.1 (inl (taught entry.1.0 (if (r == r) && ((length (known c r past) == length (known c r past)) && is_known_decided r past r (length (known c r past))) then Some entry.1.0 else None) (ap (λ t. if t then Some entry.1.0 else None) all)))

-- FUOs that were read don't fall
pub fuo_rises : (r : ℕ) (past : List Event) (e : Event) → greatest_fuo_read r r past ≤ greatest_fuo_read r r (e ∷ past)
fuo_rises r past e = grows (fuo_read r r e.by e.verb e.answer) (greatest_fuo_read r r past)
  where
    grows : (o : Option ℕ) (x : ℕ) → x ≤ max_with o x
    grows None x = omega arith
    grows (Some y) x = omega arith

-- an own event that completes no row leaves the same rows there
pub own_row_same : (c : Config) (r u : ℕ) (past : List Event) (e : Event) → e.by ≡ r → is_write e.verb ≡ false → is_row_of c u (known c r past) ≡ true → completes_row c r past e ≡ false → has_row r u (e ∷ past) ≡ has_row r u past
own_row_same c r u past e own =
    subst (λ b. is_write e.verb ≡ false → is_row_of c u (known c r past) ≡ true → completes_row c r past (event_by b e.verb e.answer) ≡ false → has_row r u (event_by b e.verb e.answer ∷ past) ≡ has_row r u past) (sym own)
    (λ no_write of_known completes. row_same c r u past e.verb e.answer no_write of_known completes)
