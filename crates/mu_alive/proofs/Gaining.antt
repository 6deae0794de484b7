-- What a replica gains: entries that it learns, and rows of these that it completes.
use Rattle.std.proofs.Common.{◌≡◌, ℕ, zero, suc, ◌+◌, ◌*◌, ◌%◌, ◌≤◌, ◌||◌, not, Bool, true, false, cond, Some, List, [], ◌∷◌, ◌++◌, length, refl, sym, ap, arith, true≢false}
use Rattle.std.specs.List.{slice_get}
use Rattle.std.proofs.lemmas.Bool.{and_parts, ltb-true}
use Rattle.std.proofs.Math.Nat.{mul-le-mul_left}
use Rattle.mu_model.specs.declared.config.Config.{Config}
use Rattle.mu_model.specs.declared.event.Event.{Event}
use Rattle.mu_model.specs.Contents.{IsConfig, is_batch, rest_of, row_count}
use Rattle.mu_model.specs.Diligence.{completes_row}
use Rattle.mu_model.specs.Histories.{all_below, count_below, part}
use Rattle.mu_model.specs.Knowledge.{applied, front, has_entry, has_row, known}
use Rattle.mu_model.specs.Legal.{IsLegalHistory}
use Rattle.mu_model.specs.Parts.{IsPossible}
use Rattle.mu_model.specs.Room.{reserve}
use Rattle.mu_model.specs.Steps.{knows_more}
use Rattle.mu_model.specs.Stretches.{some_step}
use Rattle.mu_agree.proofs.Prefixes.{known_agree}
use Rattle.mu_agree.proofs.Tame.{known_longer}
use Rattle.mu_pace.proofs.Growing.{known_grows}
use Rattle.mu_pace.proofs.Positions.{known_fits}
use Rattle.mu_alive.proofs.Fetching.{completes_one, few_rows, got_now, got_stays, rows_got, rows_of_entry}

-- how many entries r knows, and rows of these it has
abbrev pub gain : Config → ℕ → List Event → ℕ
gain c r past = length (known c r past) + got_now c r past

abbrev pub gains : Config → ℕ → List Event → Event → Bool
gains c r past e = knows_more c r past e || completes_row c r past e

pub gain_stays : (c : Config) (r : ℕ) (newer older : List Event) → gain c r older ≤ gain c r (newer ++ older)
gain_stays c r newer older = let k = known_grows c r newer older in let g = got_stays c r newer older in omega (arith, k, g)

pub gain_few : (c : Config) (r : ℕ) (past : List Event) → IsConfig c → IsPossible c r past → gain c r past ≤ (c.width + 1) * (row_count c + reserve c)
gain_few c r past good possible =
    let fits = known_fits c r past good possible in
    let rows = few_rows c r past (known c r past) good in
    let most : c.width * length (known c r past) ≤ c.width * (row_count c + reserve c) = mul-le-mul_left c.width fits in
    let all : (c.width + 1) * (row_count c + reserve c) ≡ c.width * (row_count c + reserve c) + (row_count c + reserve c) = omega arith in
    omega (arith, fits, rows, most, all)

-- an entry that is learnt, and a row that is completed, is one more
gain_one : (c : Config) (r : ℕ) (e : Event) (past : List Event) → gains c r past e ≡ true → gain c r past + 1 ≤ gain c r (e ∷ past)
gain_one c r e past is = go (knows_more c r past e) refl is
  where
    go : (t : Bool) → knows_more c r past e ≡ t → (t || completes_row c r past e) ≡ true → gain c r past + 1 ≤ gain c r (e ∷ past)
    go true more is =
        let l = ltb-true (length (known c r past)) (length (known c r (e ∷ past))) more in
        let g = got_stays c r (e ∷ []) past in
        omega (arith, l, g)
    go false more is = let k = known_longer c r e past in let g = completes_one c r e past is in omega (arith, k, g)

pub gain_some : (c : Config) (r : ℕ) (window older : List Event) → some_step (gains c r) window older ≡ true → gain c r older + 1 ≤ gain c r (window ++ older)
gain_some c r [] older some = absurd (true≢false (sym some))
gain_some c r (e ∷ window) older some = go (gains c r (window ++ older) e) refl some (gain_some c r window older)
  where
    go : (t : Bool) → gains c r (window ++ older) e ≡ t → cond t true (some_step (gains c r) window older) ≡ true → (some_step (gains c r) window older ≡ true → gain c r older + 1 ≤ gain c r (window ++ older)) → gain c r older + 1 ≤ gain c r (e ∷ (window ++ older))
    go true is some ih = let one = gain_one c r e (window ++ older) is in let stays = gain_stays c r window older in omega (arith, one, stays)
    go false is some ih = let more = ih some in let stays = gain_stays c r (e ∷ []) (window ++ older) in omega (arith, more, stays)

-- who has all rows of an entry has as many as anybody
pub full_count : (n : ℕ) (f g : ℕ → Bool) → all_below n f ≡ true → count_below n g ≤ count_below n f
full_count zero f g all = omega arith
full_count (suc n) f g all =
    let both = and_parts (f n) (all_below n f) all in
    go (f n) both.0 (g n) (full_count n f g both.1)
  where
    go : (t : Bool) → t ≡ true → (u : Bool) → count_below n g ≤ count_below n f → cond u (count_below n g + 1) (count_below n g) ≤ cond t (count_below n f + 1) (count_below n f)
    go true is true ih = omega (arith, ih)
    go true is false ih = omega (arith, ih)
    go false is u ih = absurd (true≢false (sym is))

full_rows : (c : Config) (q r v : ℕ) (theirs mine : List Event) → has_entry c r v mine ≡ true → rows_of_entry c q theirs v ≤ rows_of_entry c r mine v
full_rows c q r v theirs mine is = go (is_batch c v) is
  where
    go : (t : Bool) → (not t || all_below (rest_of c (v % 4096) + 1) (λ x. has_row r (v + x) mine)) ≡ true → cond t (count_below (rest_of c (v % 4096) + 1) (λ x. has_row q (v + x) theirs)) 0 ≤ cond t (count_below (rest_of c (v % 4096) + 1) (λ x. has_row r (v + x) mine)) 0
    go true is = full_count (rest_of c (v % 4096) + 1) (λ x. has_row r (v + x) mine) (λ x. has_row q (v + x) theirs) is
    go false is = omega arith

-- the same over a list that the entries that r applied begin with
pub all_rows : (c : Config) (q r : ℕ) (theirs mine : List Event) (xs ys : List ℕ) → length xs ≤ length (front (λ v. has_entry c r v mine) ys) → ((i v w : ℕ) → slice_get xs i ≡ Some v → slice_get ys i ≡ Some w → v ≡ w)
    → length xs + rows_got c q theirs xs ≤ length ys + rows_got c r mine ys
all_rows c q r theirs mine [] ys long agree = omega arith
all_rows c q r theirs mine (x ∷ xs) [] long agree = absurd (omega (arith, long))
all_rows c q r theirs mine (x ∷ xs) (y ∷ ys) long agree = go (has_entry c r y mine) refl long (λ l. all_rows c q r theirs mine xs ys l (λ i v w at there. agree (suc i) v w at there))
  where
    go : (t : Bool) → has_entry c r y mine ≡ t → suc (length xs) ≤ length (cond t (y ∷ front (λ v. has_entry c r v mine) ys) []) → (length xs ≤ length (front (λ v. has_entry c r v mine) ys) → length xs + rows_got c q theirs xs ≤ length ys + rows_got c r mine ys)
        → suc (length xs) + (rows_of_entry c q theirs x + rows_got c q theirs xs) ≤ suc (length ys) + (rows_of_entry c r mine y + rows_got c r mine ys)
    go true has_it long rest =
        let ih = rest (omega (arith, long)) in
        let same = ap (rows_of_entry c q theirs) (agree 0 x y refl refl) in
        let one = full_rows c q r y theirs mine has_it in
        omega (arith, ih, same, one)
    go false lacks long rest = absurd (omega (arith, long))

-- who has applied as many entries as another knows has gained as much
pub caught_up_gains : (c : Config) (q r : ℕ) (past : List Event) → IsLegalHistory c past → length (known c q (part q past)) ≤ length (applied c r (part r past)) → gain c q (part q past) ≤ gain c r (part r past)
caught_up_gains c q r past legal long = all_rows c q r (part q past) (part r past) (known c q (part q past)) (known c r (part r past)) long (λ i v w at there. known_agree c q r past legal i v w at there)

-- and nobody gains more than all rows that are known
pub gain_known : (c : Config) (r : ℕ) (past : List Event) → IsConfig c → gain c r past ≤ (c.width + 1) * length (known c r past)
gain_known c r past good =
    let rows = few_rows c r past (known c r past) good in
    let all : (c.width + 1) * length (known c r past) ≡ c.width * length (known c r past) + length (known c r past) = omega arith in
    omega (arith, rows, all)
