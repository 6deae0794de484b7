-- What a replica has gained of the first entries: how many of these it knows, and rows of them it has. If
-- rows are read in order, who lacks one of these entries gains in two rounds, and is never ahead of
-- those that have applied them all.
use Rattle.std.proofs.Common.{◌≡◌, ℕ, zero, suc, ◌+◌, ◌%◌, ◌<◌, ◌≤◌, ◌||◌, ◌&&◌, not, inl, inr, Bool, true, false, cond, Some, List, [], ◌∷◌, ◌++◌, length, refl, sym, ◌∙◌, ap, arith, subst, take, true≢false}
use Rattle.std.specs.List.{slice_get}
use Rattle.std.specs.Prelude.{nat_le}
use Rattle.std.proofs.lemmas.Bool.{and_parts, cases_lt}
use Rattle.std.proofs.lemmas.List.{length-append, length-take}
use Rattle.mu_model.specs.declared.config.Config.{Config}
use Rattle.mu_model.specs.declared.event.Event.{Event}
use Rattle.mu_model.specs.declared.event.Verb.{Verb}
use Rattle.mu_model.specs.Contents.{is_batch, rest_of}
use Rattle.mu_model.specs.Diligence.{completes_row, completes_row_verb, is_row_of}
use Rattle.mu_model.specs.Histories.{all_below, count_below, part}
use Rattle.mu_model.specs.Knowledge.{applied, front, has_entry, has_row, known}
use Rattle.mu_model.specs.Legal.{IsLegalHistory}
use Rattle.mu_model.specs.Stretches.{some_step}
use Rattle.mu_model.proofs.Basics.{same_some}
use Rattle.mu_model.proofs.Lists.{get_front}
use Rattle.mu_agree.proofs.Knowing.{known_stays}
use Rattle.mu_agree.proofs.Prefixes.{known_agree}
use Rattle.mu_agree.specs.Moments.{AtEachStep}
use Rattle.mu_alive.specs.Stopping.{ReadsInOrder}
use Rattle.mu_alive.proofs.Fetching.{applied_grows, got_both, more_got, more_of_entry, one_more, row_on, rows_got, rows_of_entry}
use Rattle.mu_alive.proofs.Gaining.{all_rows, full_count, gain}
use Rattle.mu_alive.proofs.Spreading.{get_take}

abbrev pub gain_of : Config → ℕ → List Event → List ℕ → ℕ
gain_of c r past values = length values + rows_got c r past values

abbrev pub gain_up_to : Config → ℕ → ℕ → List Event → ℕ
gain_up_to c k r past = gain_of c r past (take k (known c r past))

-- the first entries of a longer list begin with those of a shorter one
take_more : (k l : ℕ) (xs ys : List ℕ) → k ≤ l → (more : List ℕ) × (take l (xs ++ ys) ≡ take k xs ++ more)
take_more zero l xs ys less = (take l (xs ++ ys), refl)
take_more (suc k) l [] ys less = (take l ys, refl)
take_more (suc k) zero (x ∷ xs) ys less = absurd (omega (arith, less))
take_more (suc k) (suc l) (x ∷ xs) ys less = let ih = take_more k l xs ys (omega (arith, less)) in (ih.0, ap (λ zs. x ∷ zs) ih.1)

take_first : (k : ℕ) (xs : List ℕ) → (more : List ℕ) × (xs ≡ take k xs ++ more)
take_first zero xs = (xs, refl)
take_first (suc k) [] = ([], refl)
take_first (suc k) (x ∷ xs) = let ih = take_first k xs in (ih.0, ap (λ zs. x ∷ zs) ih.1)

-- more entries, and more events, are no less of a gain
more_entries : (c : Config) (r : ℕ) (past : List Event) (xs ys zs : List ℕ) → zs ≡ xs ++ ys → gain_of c r past xs ≤ gain_of c r past zs
more_entries c r past xs ys zs is =
    let long = ap length is ∙ length-append xs ys in
    let got = got_both c r past xs ys in
    let same = ap (rows_got c r past) is in
    omega (arith, long, got, same)

got_later : (c : Config) (r : ℕ) (newer older : List Event) (values : List ℕ) → rows_got c r older values ≤ rows_got c r (newer ++ older) values
got_later c r [] older values = omega arith
got_later c r (e ∷ newer) older values = let ih = got_later c r newer older values in let one = more_got c r e (newer ++ older) values in omega (arith, ih, one)

pub up_to_grows : (c : Config) (k l r : ℕ) (newer older : List Event) → k ≤ l → gain_up_to c k r older ≤ gain_up_to c l r (newer ++ older)
up_to_grows c k l r newer older less =
    let stays = known_stays c r newer older in
    let parts = take_more k l (known c r older) stays.0 less in
    let same = ap (take l) stays.1 in
    let more = more_entries c r (newer ++ older) (take k (known c r older)) parts.0 (take l (known c r (newer ++ older))) (same ∙ parts.1) in
    let later = got_later c r newer older (take k (known c r older)) in
    omega (arith, more, later)

pub up_to_gain : (c : Config) (k r : ℕ) (past : List Event) → gain_up_to c k r past ≤ gain c r past
up_to_gain c k r past = let parts = take_first k (known c r past) in more_entries c r past (take k (known c r past)) parts.0 (known c r past) parts.1

-- who has applied the first entries has gained as much of them as anybody
front_takes : (test : ℕ → Bool) (k : ℕ) (xs : List ℕ) → k ≤ length (front test xs) → k ≤ length (front test (take k xs))
front_takes test zero xs long = omega arith
front_takes test (suc k) [] long = long
front_takes test (suc k) (x ∷ xs) long = go (test x) long (front_takes test k xs)
  where
    go : (t : Bool) → suc k ≤ length (cond t (x ∷ front test xs) []) → (k ≤ length (front test xs) → k ≤ length (front test (take k xs))) → suc k ≤ length (cond t (x ∷ front test (take k xs)) [])
    go true long ih = let more = ih (omega (arith, long)) in omega (arith, more)
    go false long ih = absurd (omega (arith, long))

pub applied_up_to : (c : Config) (k q r : ℕ) (past : List Event) → IsLegalHistory c past → k ≤ length (applied c r (part r past)) → gain_up_to c k q (part q past) ≤ gain_up_to c k r (part r past)
applied_up_to c k q r past legal long =
    all_rows c q r (part q past) (part r past) (take k (known c q (part q past))) (take k (known c r (part r past)))
    (let few = length-take k (known c q (part q past)) in let all = front_takes (λ v. has_entry c r v (part r past)) k (known c r (part r past)) long in omega (arith, few, all))
    (λ i v w at there. known_agree c q r past legal i v w (get_take k (known c q (part q past)) i v at) (get_take k (known c r (part r past)) i w there))

-- an entry that has come to be had has more rows
lacks_some : (n : ℕ) (f g : ℕ → Bool) → ((x : ℕ) → f x ≡ true → g x ≡ true) → all_below n f ≡ false → all_below n g ≡ true → count_below n f + 1 ≤ count_below n g
lacks_some zero f g stays lacks all = absurd (true≢false lacks)
lacks_some (suc n) f g stays lacks all = go (f n) refl (g n) refl lacks all (lacks_some n f g stays)
  where
    go : (t : Bool) → f n ≡ t → (u : Bool) → g n ≡ u → (t && all_below n f) ≡ false → (u && all_below n g) ≡ true → (all_below n f ≡ false → all_below n g ≡ true → count_below n f + 1 ≤ count_below n g) → cond t (count_below n f + 1) (count_below n f) + 1 ≤ cond u (count_below n g + 1) (count_below n g)
    go true ft true gt lacks all ih = let more = ih lacks all in omega (arith, more)
    go false ft true gt lacks all ih = let most = full_count n g f all in omega (arith, most)
    go t ft false gt lacks all ih = absurd (true≢false (sym all))

row_later : (r u : ℕ) (newer older : List Event) → has_row r u older ≡ true → has_row r u (newer ++ older) ≡ true
row_later r u [] older had = had
row_later r u (e ∷ newer) older had = row_on r u e (newer ++ older) (row_later r u newer older had)

entry_more : (c : Config) (r v : ℕ) (newer older : List Event) → has_entry c r v older ≡ false → has_entry c r v (newer ++ older) ≡ true → rows_of_entry c r older v + 1 ≤ rows_of_entry c r (newer ++ older) v
entry_more c r v newer older lacks has_it = go (is_batch c v) lacks has_it
  where
    go : (t : Bool) → (not t || all_below (rest_of c (v % 4096) + 1) (λ x. has_row r (v + x) older)) ≡ false → (not t || all_below (rest_of c (v % 4096) + 1) (λ x. has_row r (v + x) (newer ++ older))) ≡ true
        → cond t (count_below (rest_of c (v % 4096) + 1) (λ x. has_row r (v + x) older)) 0 + 1 ≤ cond t (count_below (rest_of c (v % 4096) + 1) (λ x. has_row r (v + x) (newer ++ older))) 0
    go true lacks all = lacks_some (rest_of c (v % 4096) + 1) (λ x. has_row r (v + x) older) (λ x. has_row r (v + x) (newer ++ older)) (λ x had. row_later r (v + x) newer older had) lacks all
    go false lacks all = absurd (true≢false lacks)

entry_later : (c : Config) (r v : ℕ) (newer older : List Event) → rows_of_entry c r older v ≤ rows_of_entry c r (newer ++ older) v
entry_later c r v [] older = omega arith
entry_later c r v (e ∷ newer) older = let ih = entry_later c r v newer older in let one = more_of_entry c r e (newer ++ older) v in omega (arith, ih, one)

-- so who has come to have applied the first entries has gained
comes : (c : Config) (r k : ℕ) (newer older : List Event) (xs ys : List ℕ) → length (front (λ v. has_entry c r v older) xs) < k → k ≤ length (front (λ v. has_entry c r v (newer ++ older)) (xs ++ ys)) → gain_of c r older (take k xs) + 1 ≤ gain_of c r (newer ++ older) (take k (xs ++ ys))
comes c r zero newer older xs ys low high = absurd (omega (arith, low))
comes c r (suc k) newer older [] [] low high = absurd (omega (arith, high))
comes c r (suc k) newer older [] (y ∷ ys) low high = omega arith
comes c r (suc k) newer older (x ∷ xs) ys low high = go (has_entry c r x older) refl (has_entry c r x (newer ++ older)) refl low high (λ l h. comes c r k newer older xs ys l h)
  where
    rest : gain_of c r older (take k xs) ≤ gain_of c r (newer ++ older) (take k (xs ++ ys))
    rest =
        let parts = take_more k k xs ys (omega arith) in
        let more = more_entries c r (newer ++ older) (take k xs) parts.0 (take k (xs ++ ys)) parts.1 in
        let later = got_later c r newer older (take k xs) in
        omega (arith, more, later)

    go : (t : Bool) → has_entry c r x older ≡ t → (u : Bool) → has_entry c r x (newer ++ older) ≡ u → length (cond t (x ∷ front (λ v. has_entry c r v older) xs) []) < suc k → suc k ≤ length (cond u (x ∷ front (λ v. has_entry c r v (newer ++ older)) (xs ++ ys)) [])
        → (length (front (λ v. has_entry c r v older) xs) < k → k ≤ length (front (λ v. has_entry c r v (newer ++ older)) (xs ++ ys)) → gain_of c r older (take k xs) + 1 ≤ gain_of c r (newer ++ older) (take k (xs ++ ys)))
        → suc (length (take k xs)) + (rows_of_entry c r older x + rows_got c r older (take k xs)) + 1 ≤ suc (length (take k (xs ++ ys))) + (rows_of_entry c r (newer ++ older) x + rows_got c r (newer ++ older) (take k (xs ++ ys)))
    go true was true is low high on =
        let ih = on (omega (arith, low)) (omega (arith, high)) in
        let one = entry_later c r x newer older in
        omega (arith, ih, one)
    go false was true is low high on = let one = entry_more c r x newer older was is in let all = rest in omega (arith, one, all)
    go t was false is low high on = absurd (omega (arith, high))

pub comes_to : (c : Config) (k r : ℕ) (newer older : List Event) → length (applied c r older) < k → k ≤ length (applied c r (newer ++ older)) → gain_up_to c k r older + 1 ≤ gain_up_to c k r (newer ++ older)
comes_to c k r newer older low high =
    let stays = known_stays c r newer older in
    let more = comes c r k newer older (known c r older) stays.0 low (subst (λ l. k ≤ length (front (λ v. has_entry c r v (newer ++ older)) l)) stays.1 high) in
    let same = ap (λ l. gain_of c r (newer ++ older) (take k l)) stays.1 in
    omega (arith, more, same)

-- a row of the first entries that is completed is one more
row_of_first : (c : Config) (u k l : ℕ) (xs : List ℕ) → k ≤ l → is_row_of c u (take k xs) ≡ true → is_row_of c u (take l xs) ≡ true
row_of_first c u zero l xs less is = absurd (true≢false (sym is))
row_of_first c u (suc k) l [] less is = absurd (true≢false (sym is))
row_of_first c u (suc k) zero (x ∷ xs) less is = absurd (omega (arith, less))
row_of_first c u (suc k) (suc l) (x ∷ xs) less is = go (is_batch c x && (nat_le x u && nat_le u (x + rest_of c (x % 4096)))) is (row_of_first c u k l xs (omega (arith, less)))
  where
    go : (t : Bool) → (t || is_row_of c u (take k xs)) ≡ true → (is_row_of c u (take k xs) ≡ true → is_row_of c u (take l xs) ≡ true) → (t || is_row_of c u (take l xs)) ≡ true
    go true is ih = refl
    go false is ih = ih is

completes_up_to : (c : Config) (k r : ℕ) (e : Event) (past : List Event) → ReadsInOrder c r past e → length (applied c r past) < k → completes_row c r past e ≡ true → gain_up_to c k r past + 1 ≤ gain_up_to c k r (e ∷ past)
completes_up_to c k r e past ordered low is = go e.verb refl is
  where
    go : (verb : Verb) → e.verb ≡ verb → completes_row_verb c r past (e ∷ past) verb ≡ true → gain_up_to c k r past + 1 ≤ gain_up_to c k r (e ∷ past)
    go (Verb.ReadRow u w) same is =
        let a = and_parts (is_row_of c u (known c r past)) (not (has_row r u past) && has_row r u (e ∷ past)) is in
        let b = and_parts (not (has_row r u past)) (has_row r u (e ∷ past)) a.1 in
        let first = row_of_first c u (length (applied c r past) + 1) k (known c r past) (omega (arith, low)) (ordered u w same) in
        let more = one_more c r u e past (take k (known c r past)) first (lacks (has_row r u past) b.0) b.1 in
        let stays = known_stays c r (e ∷ []) past in
        let parts = take_more k k (known c r past) stays.0 (omega arith) in
        let all = more_entries c r (e ∷ past) (take k (known c r past)) parts.0 (take k (known c r (e ∷ past))) (ap (take k) stays.1 ∙ parts.1) in
        omega (arith, more, all)
      where
        lacks : (t : Bool) → not t ≡ true → t ≡ false
        lacks true is = absurd (true≢false (sym is))
        lacks false is = refl
    go verb same is = absurd (true≢false (sym is))

some_up_to : (c : Config) (k r : ℕ) (window older : List Event) → AtEachStep (ReadsInOrder c r) (window ++ older) → length (applied c r (window ++ older)) < k → some_step (completes_row c r) window older ≡ true → gain_up_to c k r older + 1 ≤ gain_up_to c k r (window ++ older)
some_up_to c k r [] older ordered low some = absurd (true≢false (sym some))
some_up_to c k r (e ∷ window) older ordered low some =
    go (completes_row c r (window ++ older) e) refl some (some_up_to c k r window older ordered.0 before)
  where
    before : length (applied c r (window ++ older)) < k
    before = let more = applied_grows c r (e ∷ []) (window ++ older) in omega (arith, more, low)

    go : (t : Bool) → completes_row c r (window ++ older) e ≡ t → cond t true (some_step (completes_row c r) window older) ≡ true → (some_step (completes_row c r) window older ≡ true → gain_up_to c k r older + 1 ≤ gain_up_to c k r (window ++ older)) → gain_up_to c k r older + 1 ≤ gain_up_to c k r (e ∷ (window ++ older))
    go true is some ih = let one = completes_up_to c k r e (window ++ older) ordered.1 before is in let stays = up_to_grows c k k r window older (omega arith) in omega (arith, one, stays)
    go false is some ih = let more = ih some in let stays = up_to_grows c k k r (e ∷ []) (window ++ older) (omega arith) in omega (arith, more, stays)

-- so who fetches a row gains, if it hasn't applied the first entries
pub fetches_up_to : (c : Config) (k r : ℕ) (window older : List Event) → AtEachStep (ReadsInOrder c r) (window ++ older) → length (applied c r older) < k → some_step (completes_row c r) window older ≡ true → gain_up_to c k r older + 1 ≤ gain_up_to c k r (window ++ older)
fetches_up_to c k r window older ordered low some = elim (cases_lt (length (applied c r (window ++ older))) k) [
  | inl less ↦ some_up_to c k r window older ordered less some
  | inr all ↦ comes_to c k r window older low all
]

-- who has applied all that it knows, and gains, learns an entry
pub learns_up_to : (c : Config) (k r : ℕ) (newer older : List Event) → length (known c r older) ≤ length (applied c r older) → length (applied c r older) < k → gain c r older + 1 ≤ gain c r (newer ++ older) → gain_up_to c k r older + 1 ≤ gain_up_to c k r (newer ++ older)
learns_up_to c k r newer older all low more = elim (cases_lt (length (known c r older)) (length (known c r (newer ++ older)))) [
  | inr none ↦ absurd (let as_much = all_rows c r r (newer ++ older) older (known c r (newer ++ older)) (known c r older) (omega (arith, none, all)) agree in omega (arith, as_much, more))
  | inl longer ↦
      let few = length-take k (known c r older) in
      let many = length-take k (known c r (newer ++ older)) in
      let most = front_less (λ v. has_entry c r v older) (known c r older) in
      let parts = take_more k k (known c r older) stays.0 (omega arith) in
      let got = got_both c r (newer ++ older) (take k (known c r older)) parts.0 in
      let same = ap (rows_got c r (newer ++ older)) (ap (take k) stays.1 ∙ parts.1) in
      let later = got_later c r newer older (take k (known c r older)) in
      omega (arith, few, many, most, got, same, later, longer, low, all)
]
  where
    stays : (rest : List ℕ) × (known c r (newer ++ older) ≡ known c r older ++ rest)
    stays = known_stays c r newer older

    front_less : (test : ℕ → Bool) (xs : List ℕ) → length (front test xs) ≤ length xs
    front_less test [] = omega arith
    front_less test (x ∷ xs) = go (test x) (front_less test xs)
      where
        go : (t : Bool) → length (front test xs) ≤ length xs → length (cond t (x ∷ front test xs) []) ≤ suc (length xs)
        go true ih = omega (arith, ih)
        go false ih = omega arith

    agree : (i v w : ℕ) → slice_get (known c r (newer ++ older)) i ≡ Some v → slice_get (known c r older) i ≡ Some w → v ≡ w
    agree i v w at there = same_some v w (sym at ∙ ap (λ l. slice_get l i) stays.1 ∙ get_front (known c r older) stays.0 i w there)
