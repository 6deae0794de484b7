-- What a replica has of the rows of known entries, though it writes rows.
use Rattle.std.proofs.Common.{◌≡◌, ◌∙◌, ℕ, suc, zero, ◌+◌, ◌-◌, ◌/◌, ◌%◌, ◌<◌, ◌≤◌, ◌==◌, ◌&&◌, ◌||◌, Bool, true, false, Some, List, [], ◌∷◌, ◌++◌, arith, refl, subst, sym}
use Rattle.std.specs.Prelude.{nat_le}
use Rattle.std.specs.List.{slice_get}
use Rattle.std.proofs.lemmas.Bool.{and_from, eqb-true, leb-true, true≢false}
use Rattle.mu_model.specs.declared.config.Config.{Config}
use Rattle.mu_model.specs.declared.event.Event.{Event}
use Rattle.mu_model.specs.declared.event.Verb.{Verb}
use Rattle.mu_model.specs.Contents.{IsConfig, is_batch, rest_of}
use Rattle.mu_model.specs.Diligence.{completes_row, is_row_of}
use Rattle.mu_model.specs.Histories.{all_below, has, part}
use Rattle.mu_model.specs.Knowledge.{has_row, has_word, is_read, is_written, known, wrote, wrote_batch}
use Rattle.mu_model.specs.Legal.{IsLegalHistory}
use Rattle.mu_model.specs.Parts.{IsPossible}
use Rattle.mu_model.proofs.Basics.{true_or, or_true}
use Rattle.mu_model.proofs.Owned.{has-part}
use Rattle.mu_model.proofs.Scans.{all_at, each_all}
use Rattle.mu_agree.proofs.Phases.{known_chosen}
use Rattle.mu_agree.proofs.Sessions.{batch_within, mark_no_batch, row_within}
use Rattle.mu_agree.proofs.Sound.{Fits, by_batch, by_mark, chosen_sound}
use Rattle.mu_follow.proofs.Waiting.{is_write, own_row_same, row_of_known}
use Rattle.mu_agree.proofs.Landings.{has_more}
use Rattle.mu_pace.proofs.Pasts.{written-own}

-- a word that r has it goes on having
pub word_on : (r u k : ℕ) (e : Event) (past : List Event) → has_word r u k past ≡ true → has_word r u k (e ∷ past) ≡ true
word_on r u k e past is = go (u / 4096 == r) (wrote r (u % 4096) k past) refl (has (λ f. is_read r u k f.by f.verb) past) refl is
  where
    go : (t w : Bool) → wrote r (u % 4096) k past ≡ w → (x : Bool) → has (λ f. is_read r u k f.by f.verb) past ≡ x → ((t && w) || x) ≡ true → ((t && wrote r (u % 4096) k (e ∷ past)) || has (λ f. is_read r u k f.by f.verb) (e ∷ past)) ≡ true
    go t w hw true hx is = or_true (t && wrote r (u % 4096) k (e ∷ past)) (has (λ f. is_read r u k f.by f.verb) (e ∷ past)) (has_more (λ f. is_read r u k f.by f.verb) e past hx)
    go true true hw false hx is = true_or (wrote r (u % 4096) k (e ∷ past)) (has (λ f. is_read r u k f.by f.verb) (e ∷ past)) (has_more (λ f. is_written r (u % 4096) k f.by f.verb) e past hw)
    go true false hw false hx is = absurd (true≢false (sym is))
    go false w hw false hx is = absurd (true≢false (sym is))

-- the entry that a row is of
record RowOf (c : Config) (u : ℕ) (values : List ℕ) : Type 0 where
  index : ℕ
  value : ℕ
  at : slice_get values index ≡ Some value
  batch : is_batch c value ≡ true
  low : value ≤ u
  high : u ≤ value + rest_of c (value % 4096)

row_entry : (c : Config) (u : ℕ) (values : List ℕ) → is_row_of c u values ≡ true → RowOf c u values
row_entry c u [] is = absurd (true≢false (sym is))
row_entry c u (v ∷ vs) is = go (is_batch c v) refl (nat_le v u) refl (nat_le u (v + rest_of c (v % 4096))) refl is (row_entry c u vs)
  where
    later : (is_row_of c u vs ≡ true → RowOf c u vs) → is_row_of c u vs ≡ true → RowOf c u (v ∷ vs)
    later ih there = let k = ih there in record { index = suc k.index; value = k.value; at = k.at; batch = k.batch; low = k.low; high = k.high }

    go : (b : Bool) → is_batch c v ≡ b → (l : Bool) → nat_le v u ≡ l → (h : Bool) → nat_le u (v + rest_of c (v % 4096)) ≡ h → ((b && (l && h)) || is_row_of c u vs) ≡ true → (is_row_of c u vs ≡ true → RowOf c u vs) → RowOf c u (v ∷ vs)
    go true hb true hl true hh is ih = record { index = 0; value = v; at = refl; batch = hb; low = leb-true v u hl; high = leb-true u (v + rest_of c (v % 4096)) hh }
    go true hb true hl false hh is ih = later ih is
    go true hb false hl h hh is ih = later ih is
    go false hb l hl h hh is ih = later ih is

pub row_of_more : (c : Config) (u : ℕ) (xs ys : List ℕ) → is_row_of c u xs ≡ true → is_row_of c u (xs ++ ys) ≡ true
row_of_more c u xs ys is = let k = row_entry c u xs is in row_of_known c k.index k.value u (xs ++ ys) (there xs k.index k.value k.at) k.batch k.low k.high
  where
    there : (zs : List ℕ) (i v : ℕ) → slice_get zs i ≡ Some v → slice_get (zs ++ ys) i ≡ Some v
    there [] i v at = cc
    there (z ∷ zs) zero v at = at
    there (z ∷ zs) (suc i) v at = there zs i v at

whole_had : (c : Config) (r u : ℕ) (whole : List Event) → IsConfig c → IsLegalHistory c whole → is_row_of c u (known c r (part r whole)) ≡ true → (u / 4096 == r) ≡ true → has_row r u (part r whole) ≡ true
whole_had c r u whole good legal is own = each_all 12 (λ k. has_word r u k (part r whole)) (λ k few. word k few)
  where
    row : RowOf c u (known c r (part r whole))
    row = row_entry c u (known c r (part r whole)) is

    fits : (values : List ℕ) → Fits c row.value values whole → wrote_batch c (row.value / 4096) (row.value % 4096) whole ≡ true
    fits values (by_batch b w n) = w
    fits values (by_mark q m n _) = absurd (mark_no_batch c q row.value good m row.batch)

    written : wrote_batch c (row.value / 4096) (row.value % 4096) whole ≡ true
    written =
        let x = known_chosen c r row.index row.value whole legal row.at in
        let s = chosen_sound c row.index row.value whole legal (x.b, x.is) in
        fits s.values s.fits

    most : row.value % 4096 + rest_of c (row.value % 4096) < 1500
    most = let m = batch_within c good (rest_of c (row.value % 4096)) (row.value % 4096) (row_within c row.value row.batch) refl in let all = good.few in omega (arith, m, all)

    word : (k : ℕ) → k < 12 → has_word r u k (part r whole) ≡ true
    word k few =
        let low = row.low in
        let high = row.high in
        let by : u / 4096 ≡ r = eqb-true (u / 4096) r own in
        let small = most in
        let same : row.value / 4096 ≡ r = omega (arith, low, high, small, by) in
        let place : row.value % 4096 + (u - row.value) ≡ u % 4096 = omega (arith, low, high, small) in
        let there : wrote (row.value / 4096) (row.value % 4096 + (u - row.value)) k whole ≡ true =
        all_at 12 (λ k. wrote (row.value / 4096) (row.value % 4096 + (u - row.value)) k whole) (all_at (rest_of c (row.value % 4096) + 1) (λ t. all_below 12 (λ k. wrote (row.value / 4096) (row.value % 4096 + t) k whole)) written (u - row.value) (omega (arith, low, high))) k few in
        let mine : wrote r (u % 4096) k (part r whole) ≡ true = has-part (λ e. is_written r (u % 4096) k e.by e.verb) r (written-own r (u % 4096) k) whole ∙ subst (λ i. wrote r i k whole ≡ true) place (subst (λ q. wrote q (row.value % 4096 + (u - row.value)) k whole ≡ true) same there) in
        true_or ((u / 4096 == r) && wrote r (u % 4096) k (part r whole)) (has (λ e. is_read r u k e.by e.verb) (part r whole)) (and_from (u / 4096 == r) (wrote r (u % 4096) k (part r whole)) own mine)

own_had : (c : Config) (r u : ℕ) (past : List Event) → IsConfig c → IsPossible c r past → is_row_of c u (known c r past) ≡ true → (u / 4096 == r) ≡ true → has_row r u past ≡ true
own_had c r u past good p = subst (λ z. is_row_of c u (known c r z) ≡ true → (u / 4096 == r) ≡ true → has_row r u z ≡ true) p.is (whole_had c r u p.past good p.legal)

-- so a row of a known entry stays as it is if none is completed
pub rows_stay : (c : Config) (r u : ℕ) (past : List Event) (e : Event) → IsConfig c → IsPossible c r past → e.by ≡ r → completes_row c r past e ≡ false → is_row_of c u (known c r past) ≡ true → has_row r u (e ∷ past) ≡ has_row r u past
rows_stay c r u past e good possible own none of_known = go (is_write e.verb) refl (has_row r u past) refl
  where
    kept : (f : Event) → has_row r u past ≡ true → has_row r u (f ∷ past) ≡ true
    kept f had = each_all 12 (λ k. has_word r u k (f ∷ past)) (λ k low. word_on r u k f past (all_at 12 (λ k. has_word r u k past) had k low))

    others : (by : ℕ) (verb : Verb) → is_write verb ≡ true → (u / 4096 == r) ≡ false → has_row r u (record { by = by; verb = verb; answer = e.answer } ∷ past) ≡ has_row r u past
    others by (Verb.WriteRow j k x) writes other = rw other refl
    others by verb writes other = absurd (true≢false (sym writes))

    mine : is_write e.verb ≡ true → has_row r u past ≡ false → (t : Bool) → (u / 4096 == r) ≡ t → has_row r u (e ∷ past) ≡ false
    mine writes lacks true is = absurd (true≢false (sym (own_had c r u past good possible of_known is) ∙ lacks))
    mine writes lacks false other = others e.by e.verb writes other ∙ lacks

    go : (w : Bool) → is_write e.verb ≡ w → (t : Bool) → has_row r u past ≡ t → has_row r u (e ∷ past) ≡ has_row r u past
    go false no_write t is = own_row_same c r u past e own no_write of_known none
    go true writes true had = kept e had ∙ sym had
    go true writes false lacks = mine writes lacks (u / 4096 == r) refl ∙ sym lacks
