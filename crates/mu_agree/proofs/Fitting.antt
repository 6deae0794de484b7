-- There is a position for what isn't known yet.
use Rattle.std.proofs.Common.{◌≡◌, ℕ, zero, suc, ◌+◌, ◌-◌, ◌/◌, ◌%◌, ◌<◌, inl, inr, Bool, true, false, ◌&&◌, ◌==◌, List, [], ◌∷◌, ◌++◌, length, refl, sym, ◌∙◌, ap, arith, Some, subst, eqb-true, true≢false}
use Rattle.std.specs.Prelude.{if◌then◌else◌, nat_lt}
use Rattle.std.specs.List.{slice_get, IsDistinct, AllByRecursion, list_any}
use Rattle.std.proofs.lemmas.Map.Steps.{length-le_from_distinct_below}
use Rattle.std.proofs.lemmas.Map.Keys.{IsDistinct-cons}
use Rattle.std.proofs.lemmas.List.{length-append}
use Rattle.std.proofs.lemmas.Bool.{and_parts, or_cases, eq-eqb, ltb-true, false_from_ne_true}
use Rattle.std.proofs.Math.Dec.{eqb}
use Rattle.mu_model.specs.declared.config.Config.{Config}
use Rattle.mu_model.specs.declared.event.Event.{Event}
use Rattle.mu_agree.specs.Possible.{PartPositionsSuffice}
use Rattle.mu_model.specs.Chosen.{IsChosen}
use Rattle.mu_model.specs.Contents.{IsConfig, client_of, counted, holds_all, includes, is_batch, is_mark, number_of, numbers_in, rest_of, row_count, rows_from, rows_in, rows_of, session}
use Rattle.mu_model.specs.Histories.{part}
use Rattle.mu_model.specs.Knowledge.{known}
use Rattle.mu_model.specs.Legal.{IsLegalHistory}
use Rattle.mu_model.specs.Room.{reserve}
use Rattle.mu_agree.proofs.Phases.{one_chosen}
use Rattle.mu_agree.proofs.Room.{mark_version}
use Rattle.mu_agree.proofs.Sound.{Fits, by_batch, by_mark, Sound, chosen_sound, some_fails}
use Rattle.mu_model.proofs.Scans.{session_append}
use Rattle.mu_agree.proofs.Sessions.{AreChosen, known_are_chosen, marked_once, mark_no_batch, mark_place, row_within, batch_numbers, length_counted, same_list}
use Rattle.mu_model.proofs.Lists.{get_front, item_below}

-- each entry has a place of its own: the row with which its batch begins, or one beyond the rows
abbrev pub key : Config → ℕ → ℕ
key c v = if is_batch c v then v % 4096 else row_count c + (v % 4096 - 4080)

abbrev pub keys : (ℕ → ℕ) → List ℕ → List ℕ
keys key [] = []
keys key (v ∷ vs) = key v ∷ keys key vs

key_of_batch : (c : Config) (v : ℕ) → is_batch c v ≡ true → key c v ≡ v % 4096
key_of_batch c v h = rw h refl

key_of_mark : (c : Config) (q v : ℕ) → IsConfig c → is_mark c q v ≡ true → key c v ≡ row_count c + q
key_of_mark c q v g h = go (is_batch c v) refl
  where
    go : (t : Bool) → is_batch c v ≡ t → (if t then v % 4096 else row_count c + (v % 4096 - 4080)) ≡ row_count c + q
    go true b = absurd (mark_no_batch c q v g h b)
    go false b = let p = mark_place c q v h in omega arith

-- a list in two, at an element
record Split (xs : List ℕ) (i x : ℕ) : Type 0 where
  front : List ℕ
  back : List ℕ
  is : xs ≡ front ++ x ∷ back
  count : length front ≡ i

split : (xs : List ℕ) (i x : ℕ) → slice_get xs i ≡ Some x → Split xs i x
split [] i x e = cc
split (y ∷ xs) zero x e = let same : y ≡ x = cc in record { front = []; back = xs; is = ap (λ z. z ∷ xs) same; count = refl }
split (y ∷ xs) (suc i) x e = let s = split xs i x e in record { front = y ∷ s.front; back = s.back; is = ap (λ z. y ∷ z) s.is; count = ap suc s.count }

-- a batch isn't chosen at two positions
batch_once : (c : Config) (i j v w : ℕ) (past : List Event) → IsConfig c → IsLegalHistory c past → IsChosen c past i v → IsChosen c past j w → is_batch c v ≡ true → is_batch c w ≡ true → v % 4096 ≡ w % 4096 → i < j → ⊥
batch_once c i j v w past g h a b bv bw same l = go (chosen_sound c i v past h a).fits (chosen_sound c j w past h b).fits
  where
    sv : Sound c i v past
    sv = chosen_sound c i v past h a

    sw : Sound c j w past
    sw = chosen_sound c j w past h b

    go : Fits c v sv.values past → Fits c w sw.values past → ⊥
    go (by_mark q m n _) f = mark_no_batch c q v g m bv
    go (by_batch x y z) (by_mark q m n _) = mark_no_batch c q w g m bw
    go (by_batch x y z) (by_batch x' y' z') =
        let at = item_below sw.values i (let k = sw.count in omega arith) in
        let ch = sw.chosen i at.0 at.1 in
        let is : at.0 ≡ v = one_chosen c i ch.0 at.0 a.0 v past h ch.1 a.1 in
        let s = split sw.values i v (at.1 ∙ ap Some is) in
        let fronts : s.front ≡ sv.values = same_list s.front sv.values (s.count ∙ sym sv.count) (λ k p q d e.
        let u = sw.chosen k p (subst (λ t. slice_get t k ≡ Some p) (sym s.is) (get_front s.front (v ∷ s.back) k p d)) in
        let o = sv.chosen k q e in
        one_chosen c k u.0 p o.0 q past h u.1 o.1) in
        let client : ℕ = client_of c (v % 4096) in
        let own = batch_numbers c g client (rest_of c (v % 4096)) (v % 4096) (row_within c v bv) refl in
        let yes : length (numbers_in c client (rows_of c v)) ≡ suc (rest_of c (v % 4096)) = batch_length c v g bv in
        let parts : session c client sw.values ≡ session c client s.front ++ session c client (v ∷ s.back) = ap (session c client) s.is ∙ session_append c client s.front (v ∷ s.back) in
        let long : length (session c client sw.values) ≡ length (session c client s.front) + length (session c client (v ∷ s.back)) = ap (λ t. length t) parts ∙ length-append (session c client s.front) (session c client (v ∷ s.back)) in
        let tail : length (session c client (v ∷ s.back)) ≡ length (numbers_in c client (rows_of c v)) + length (session c client s.back) = length-append (numbers_in c client (rows_of c v)) (session c client s.back) in
        let first : length (session c client s.front) ≡ length (session c client sv.values) = ap (λ t. length (session c client t)) fronts in
        let later : number_of c (v % 4096) ≡ length (session c client sw.values) + 1 = subst (λ t. number_of c t ≡ length (session c (client_of c t) sw.values) + 1) (sym same) z' in
        omega arith
      where
        batch_length : (c : Config) (v : ℕ) → IsConfig c → is_batch c v ≡ true → length (numbers_in c (client_of c (v % 4096)) (rows_of c v)) ≡ suc (rest_of c (v % 4096))
        batch_length c v g b =
            let one : rest_of c (v % 4096) + 1 ≡ suc (rest_of c (v % 4096)) = omega arith in
            rw b (ap (λ z. length (numbers_in c (client_of c (v % 4096)) (rows_from z (v % 4096)))) one
            ∙ ap (λ z. length z) (batch_numbers c g (client_of c (v % 4096)) (rest_of c (v % 4096)) (v % 4096) (row_within c v b) refl)
            ∙ mine (client_of c (v % 4096) == client_of c (v % 4096)) (eq-eqb (client_of c (v % 4096)) (client_of c (v % 4096)) refl))
          where
            mine : (t : Bool) → t ≡ true → length (if t then counted (suc (rest_of c (v % 4096))) (number_of c (v % 4096)) else []) ≡ suc (rest_of c (v % 4096))
            mine true e = length_counted (suc (rest_of c (v % 4096))) (number_of c (v % 4096))
            mine false e = absurd (true≢false (sym e))

-- two positions have two keys
pub keys_differ : (c : Config) (i j v w : ℕ) (past : List Event) → IsConfig c → IsLegalHistory c past → IsChosen c past i v → IsChosen c past j w → i < j → key c v ≡ key c w → ⊥
keys_differ c i j v w past g h a b l e = go (chosen_sound c i v past h a).fits (chosen_sound c j w past h b).fits
  where
    go : Fits c v (chosen_sound c i v past h a).values past → Fits c w (chosen_sound c j w past h b).values past → ⊥
    go (by_batch x _ _) (by_batch y _ _) = batch_once c i j v w past g h a b x y (sym (key_of_batch c v x) ∙ e ∙ key_of_batch c w y) l
    go (by_batch x _ _) (by_mark q y _ _) = let r = row_within c v x in let s = key_of_batch c v x in let t = key_of_mark c q w g y in omega arith
    go (by_mark q x _ _) (by_batch y _ _) = let r = row_within c w y in let s = key_of_batch c w y in let t = key_of_mark c q v g x in omega arith
    go (by_mark q x _ _) (by_mark q' y _ _) =
        let s = key_of_mark c q v g x in
        let t = key_of_mark c q' w g y in
        let same : q' ≡ q = omega arith in
        let k = marked_once c q i j v w past g h a b x (subst (λ z. is_mark c z w ≡ true) same y) in omega arith

-- keys are below the rows and the reserve
pub mark_within : (c : Config) (q v : ℕ) → is_mark c q v ≡ true → q < c.replicas
mark_within c q v h =
    let x = and_parts (c.version == 2) (nat_lt q c.replicas && (v % 4096 == 4080 + q)) (and_parts (nat_lt (v / 4096) c.replicas) ((c.version == 2) && (nat_lt q c.replicas && (v % 4096 == 4080 + q))) h).1 in
    ltb-true q c.replicas (and_parts (nat_lt q c.replicas) (v % 4096 == 4080 + q) x.1).0

pub reserve_is : (c : Config) → c.version ≡ 2 → reserve c ≡ c.replicas
reserve_is c e = go (c.version == 2) (eq-eqb c.version 2 e)
  where
    go : (t : Bool) → t ≡ true → (if t then c.replicas else 0) ≡ c.replicas
    go true h = refl
    go false h = absurd (true≢false (sym h))

pub key_below : (c : Config) (i v : ℕ) (past : List Event) → IsConfig c → IsLegalHistory c past → IsChosen c past i v → key c v < row_count c + reserve c
key_below c i v past g h a = go (chosen_sound c i v past h a).fits
  where
    go : Fits c v (chosen_sound c i v past h a).values past → key c v < row_count c + reserve c
    go (by_batch x _ _) = let r = row_within c v x in let s = key_of_batch c v x in omega arith
    go (by_mark q x _ _) = let s = key_of_mark c q v g x in let t = mark_within c q v x in let u = reserve_is c (mark_version c q v x) in omega arith

-- what isn't included is no key
included : (j : ℕ) (xs ys : List ℕ) → includes j (xs ++ ys) ≡ false → (includes j xs ≡ false) × (includes j ys ≡ false)
included j [] ys h = (refl, h)
included j (x ∷ xs) ys h = go (x == j) h (included j xs ys)
  where
    go : (t : Bool) → (if t then true else includes j (xs ++ ys)) ≡ false → (includes j (xs ++ ys) ≡ false → (includes j xs ≡ false) × (includes j ys ≡ false)) → ((if t then true else includes j xs) ≡ false) × (includes j ys ≡ false)
    go true h ih = absurd (true≢false h)
    go false h ih = ih h

not_begun : (c : Config) (j v : ℕ) → includes j (rows_of c v) ≡ false → is_batch c v ≡ true → v % 4096 ≡ j → ⊥
not_begun c j v h b e = go (subst (λ t. includes j (if t then rows_from (rest_of c (v % 4096) + 1) (v % 4096) else []) ≡ false) b h)
  where
    one : rest_of c (v % 4096) + 1 ≡ suc (rest_of c (v % 4096))
    one = omega arith

    here : (t : Bool) → t ≡ true → (if t then true else includes j (rows_from (rest_of c (v % 4096)) (v % 4096 + 1))) ≡ false → ⊥
    here true k m = true≢false m
    here false k m = true≢false (sym k)

    go : includes j (rows_from (rest_of c (v % 4096) + 1) (v % 4096)) ≡ false → ⊥
    go m = here (v % 4096 == j) (eq-eqb (v % 4096) j e) (subst (λ z. includes j (rows_from z (v % 4096)) ≡ false) one m)

pub apart : (key : ℕ → ℕ) (n : ℕ) (xs : List ℕ) → ((j w : ℕ) → slice_get xs j ≡ Some w → n ≡ key w → ⊥) → AllByRecursion (λ y. eqb n y ≡ false) (keys key xs)
apart key n [] d = tt
apart key n (x ∷ xs) d = (false_from_ne_true (eqb n (key x)) (λ e. d 0 x refl (eqb-true n (key x) e)), apart key n xs (λ j w e. d (suc j) w e))

pub distinct_keys : (key : ℕ → ℕ) (xs : List ℕ) → ((i j v w : ℕ) → slice_get xs i ≡ Some v → slice_get xs j ≡ Some w → i < j → key v ≡ key w → ⊥) → IsDistinct eqb (keys key xs)
unfolding IsDistinct
distinct_keys key [] f = tt
distinct_keys key (x ∷ xs) f = IsDistinct-cons eqb (key x) (keys key xs) (apart key (key x) xs (λ j w e. f 0 (suc j) x w refl e (omega arith))) (distinct_keys key xs (λ i j v w a b l. f (suc i) (suc j) v w a b (omega arith)))

pub keys_short : (key : ℕ → ℕ) (xs : List ℕ) → length (keys key xs) ≡ length xs
keys_short key [] = refl
keys_short key (x ∷ xs) = ap suc (keys_short key xs)

pub among_keys : (key : ℕ → ℕ) (q n : ℕ) (xs : List ℕ) → ((i v : ℕ) → slice_get xs i ≡ Some v → key v < n) → list_any (eqb q) (keys key xs) ≡ true → q < n
among_keys key q n [] f h = absurd (true≢false (sym h))
among_keys key q n (x ∷ xs) f h = elim (or_cases (eqb q (key x)) (list_any (eqb q) (keys key xs)) h) [
  | inl e ↦ (let a = eqb-true q (key x) e in let b = f 0 x refl in omega arith)
  | inr e ↦ among_keys key q n xs (λ i v k. f (suc i) v k) e
]

away : (c : Config) (j : ℕ) (xs : List ℕ) → j < row_count c → includes j (rows_in c xs) ≡ false → AllByRecursion (λ y. eqb j y ≡ false) (keys (key c) xs)
away c j [] l h = tt
away c j (x ∷ xs) l h =
    let k = included j (rows_of c x) (rows_in c xs) h in
    (false_from_ne_true (eqb j (key c x)) (λ e. differs (is_batch c x) refl k.0 (eqb-true j (key c x) e)), away c j xs l k.1)
  where
    differs : (t : Bool) → is_batch c x ≡ t → includes j (rows_of c x) ≡ false → j ≡ key c x → ⊥
    differs true b m e = not_begun c j x m b (sym (key_of_batch c x b) ∙ sym e)
    differs false b m e = let z : key c x ≡ row_count c + (x % 4096 - 4080) = rw b refl in omega arith

-- so there is room for one more
pub fits_one_more : (c : Config) (past : List Event) (xs : List ℕ) → IsConfig c → IsLegalHistory c past → AreChosen c xs past → holds_all c xs ≡ false → length xs < row_count c + reserve c
fits_one_more c past xs g h k m =
    let f = some_fails (row_count c) (λ j. includes j (rows_in c xs)) m in
    let all : IsDistinct eqb (f.who ∷ keys (key c) xs) = IsDistinct-cons eqb f.who (keys (key c) xs) (away c f.who xs f.below f.fails) (distinct_keys (key c) xs (λ i j v w a b l e. keys_differ c i j v w past g h (k i v a) (k j w b) l e)) in
    let low = f.below in
    let most = length-le_from_distinct_below (f.who ∷ keys (key c) xs) (row_count c + reserve c) all (λ q e. elim (or_cases (eqb q f.who) (list_any (eqb q) (keys (key c) xs)) e) [
      | inl x ↦ (let y = eqb-true q f.who x in omega arith)
      | inr x ↦ among_keys (key c) q (row_count c + reserve c) xs (λ i v a. key_below c i v past g h (k i v a)) x
    ]) in
    let same = keys_short (key c) xs in omega arith

pub part_positions_suffice_law : PartPositionsSuffice
part_positions_suffice_law c r mine g p m =
    subst (λ z. length (known c r z) < row_count c + reserve c) p.is
    (fits_one_more c p.past (known c r (part r p.past)) g p.legal (known_are_chosen c r p.past p.legal) (subst (λ z. holds_all c (known c r z) ≡ false) (sym p.is) m))
