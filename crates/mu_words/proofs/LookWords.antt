-- The law of word steps for looks: a place with another lap is empty or past.
use Rattle.std.proofs.Common.{◌≡◌, ℕ, zero, suc, ◌+◌, ◌*◌, ◌/◌, ◌%◌, ◌<◌, ◌≤◌, ◌⊎◌, inl, inr, Bool, true, false, cond, ◌&&◌, ◌==◌, List, [], ◌∷◌, refl, sym, ◌∙◌, ap, arith, Some, subst, eqb-true, length}
use Rattle.std.specs.List.{slice_get}
use Rattle.std.specs.Prelude.{nat_lt}
use Rattle.std.proofs.lemmas.Bool.{cases_lt, eqb-false, le-ltb, lt-ltb, ne_eqb}
use Rattle.std.proofs.lemmas.Option.{slice_get_past}
use Rattle.std.proofs.Math.Nat.{div-add-mod, lt_of_mul-lt-mul_left}
use Rattle.mu_model.specs.declared.config.Config.{Config}
use Rattle.mu_model.specs.declared.event.Answer.{Answer}
use Rattle.mu_model.specs.declared.event.Event.{Event}
use Rattle.mu_model.specs.declared.event.Target.{Target}
use Rattle.mu_model.specs.declared.event.Verb.{Verb}
use Rattle.mu_model.specs.Legal.{IsLegalHistory}
use Rattle.mu_model.specs.Regions.{region_log}
use Rattle.mu_model.proofs.Basics.{same_number}
use Rattle.mu_words.specs.Standing.{stamp, fields, entry_fields, place_fields_below, place_fields}
use Rattle.mu_words.specs.Steps.{StepsByWord}
use Rattle.mu_words.specs.Verbs.{slot_answer}
use Rattle.mu_words.proofs.Limits.{Limits}
use Rattle.mu_words.proofs.Others.{others_keep}
use Rattle.mu_words.proofs.PlaceTies.{look_of, add-mod}
use Rattle.mu_words.proofs.Contents.{mod_near}
use Rattle.mu_words.proofs.Entries.{EntryFits, entry_fits, lap_fits, log_fits}

-- the last position below n at the place s
pub record LastAt (ring s : ℕ) (log : List (ℕ × ℕ)) (n : ℕ) : Type 0 where
  pub j : ℕ
  pub below : j < n
  pub here : j % ring ≡ s
  pub last : (k : ℕ) → j < k → k < n → k % ring ≡ s → ⊥
  pub shows : place_fields_below ring s log n ≡ entry_fields ring j (slice_get log j)

pub record NoneAt (ring s : ℕ) (log : List (ℕ × ℕ)) (n : ℕ) : Type 0 where
  pub none : (k : ℕ) → k < n → k % ring ≡ s → ⊥
  pub shows : place_fields_below ring s log n ≡ 0

earlier : (ring s n k : ℕ) → (n % ring == s) ≡ false → k < suc n → k % ring ≡ s → k < n
earlier ring s n k h l e = elim (cases_lt k n) [ inl m ↦ m | inr m ↦ absurd (eqb-false (n % ring) s h (ap (λ x. x % ring) (let o : n ≡ k = omega arith in o) ∙ e)) ]

last_at : (ring s : ℕ) (log : List (ℕ × ℕ)) (n : ℕ) → LastAt ring s log n ⊎ NoneAt ring s log n
last_at ring s log zero = inr (record { none = λ k l e. omega arith; shows = refl })
last_at ring s log (suc n) = go (n % ring == s) refl (last_at ring s log n)
  where
    go : (t : Bool) → (n % ring == s) ≡ t → LastAt ring s log n ⊎ NoneAt ring s log n → LastAt ring s log (suc n) ⊎ NoneAt ring s log (suc n)
    go true h o = inl (record { j = n; below = omega arith; here = eqb-true (n % ring) s h; last = λ k a b e. omega arith; shows = rw h refl })
    go false h (inl x) = inl (record {
      j = x.j;
      below = (let b = x.below in omega arith);
      here = x.here;
      last = λ k a b e. x.last k a (earlier ring s n k h b e) e;
      shows = ap (λ t. cond t (entry_fields ring n (slice_get log n)) (place_fields_below ring s log n)) h ∙ x.shows;
    })
    go false h (inr x) = inr (record { none = λ k b e. x.none k (earlier ring s n k h b e) e; shows = ap (λ t. cond t (entry_fields ring n (slice_get log n)) (place_fields_below ring s log n)) h ∙ x.shows })

-- of two positions of one place the smaller has the smaller lap
lap_below : (ring i j : ℕ) → i < j → i % ring ≡ j % ring → i / ring < j / ring
lap_below ring i j h e =
    let a = div-add-mod i ring in
    let b = div-add-mod j ring in
    lt_of_mul-lt-mul_left ring (let k : ring * (i / ring) < ring * (j / ring) = omega arith in k)

-- what is read off a slot word
read_slot : (ring i st lap b v : ℕ) → lap < 512 → b < 8388608 → v < 32768
    → slot_answer ring i (st * 140737488355328 + (lap * 274877906944 + b * 32768 + v)) ≡ cond (nat_lt (i / ring) lap) Answer.Past (cond ((lap == i / ring) && nat_lt 0 b) (Answer.Entry b v) Answer.Empty)
read_slot ring i st lap b v h g k =
    let e : (st * 140737488355328 + (lap * 274877906944 + b * 32768 + v)) / 274877906944 % 512 ≡ lap = omega arith in
    let f : (st * 140737488355328 + (lap * 274877906944 + b * 32768 + v)) / 32768 % 8388608 ≡ b = omega arith in
    let m : (st * 140737488355328 + (lap * 274877906944 + b * 32768 + v)) % 32768 ≡ v = omega arith in
    rw (e, f, m) refl

read_empty : (ring i st : ℕ) → slot_answer ring i (st * 140737488355328 + 0) ≡ Answer.Empty
read_empty ring i st = read_slot ring i st 0 0 0 (omega arith) (omega arith) (omega arith) ∙ go (0 == i / ring)
  where
    go : (t : Bool) → cond (nat_lt (i / ring) 0) Answer.Past (cond (t && nat_lt 0 0) (Answer.Entry 0 0) Answer.Empty) ≡ Answer.Empty
    go true = rw (le-ltb (i / ring) 0 (omega arith)) refl
    go false = rw (le-ltb (i / ring) 0 (omega arith)) refl

-- no entry at i, and none beyond
look_none : (ring : ℕ) (log : List (ℕ × ℕ)) (i : ℕ) → length log ≤ i → look_of ring log i ≡ Answer.Empty
look_none ring log i h = rw (le-ltb (i + ring) (length log) (omega arith), slice_get_past log i h) refl

entry_at : (log : List (ℕ × ℕ)) (j : ℕ) → j < length log → (y : ℕ × ℕ) × (slice_get log j ≡ Some y)
entry_at [] j h = absurd (omega arith)
entry_at (x ∷ log) zero h = (x, refl)
entry_at (x ∷ log) (suc j) h = entry_at log j (omega arith)

read_entry : (ring st i : ℕ) (log : List (ℕ × ℕ)) → (x : LastAt ring (i % ring) log (length log)) → (y : ℕ × ℕ) → slice_get log x.j ≡ Some y → EntryFits y → x.j / ring < 512 → 1 ≤ ring
    → slot_answer ring i (st * 140737488355328 + fields ring x.j y.0 y.1) ≡ look_of ring log i
read_entry ring st i log x y e f g pos =
    read_slot ring i st (x.j / ring) y.0 y.1 g f.number f.value
    ∙ elim (cases_lt x.j i) [
      | inl m ↦ early m
      | inr m ↦ (elim (cases_lt i x.j) [ inl n ↦ late n | inr n ↦ here (let o : x.j ≡ i = omega arith in o) ])
    ]
  where
    early : x.j < i → cond (nat_lt (i / ring) (x.j / ring)) Answer.Past (cond ((x.j / ring == i / ring) && nat_lt 0 y.0) (Answer.Entry y.0 y.1) Answer.Empty) ≡ look_of ring log i
    early m =
        let l = lap_below ring x.j i m x.here in
        let out : length log ≤ i = elim (cases_lt i (length log)) [ inl n ↦ absurd (x.last i m n refl) | inr n ↦ n ] in
        rw (le-ltb (i / ring) (x.j / ring) (omega arith), ne_eqb (x.j / ring) (i / ring) (λ z. omega (arith, z))) (sym (look_none ring log i out))

    late : i < x.j → cond (nat_lt (i / ring) (x.j / ring)) Answer.Past (cond ((x.j / ring == i / ring) && nat_lt 0 y.0) (Answer.Entry y.0 y.1) Answer.Empty) ≡ look_of ring log i
    late m =
        let l = lap_below ring i x.j m (sym x.here) in
        let far : i + ring ≤ x.j = elim (cases_lt x.j (i + ring)) [ inl n ↦ absurd (mod_near ring i x.j m n x.here) | inr n ↦ n ] in
        let b = x.below in
        rw (lt-ltb (i / ring) (x.j / ring) l, lt-ltb (i + ring) (length log) (omega arith)) refl

    here : x.j ≡ i → cond (nat_lt (i / ring) (x.j / ring)) Answer.Past (cond ((x.j / ring == i / ring) && nat_lt 0 y.0) (Answer.Entry y.0 y.1) Answer.Empty) ≡ look_of ring log i
    here m =
        let near : length log ≤ i + ring = elim (cases_lt (i + ring) (length log)) [ inl n ↦ absurd (x.last (i + ring) (omega (arith, m)) n (add-mod ring i)) | inr n ↦ n ] in
        let at : slice_get log i ≡ Some y = subst (λ z. slice_get log z ≡ Some y) m e in
        let b = f.least in
        rw (m, le-ltb (i / ring) (i / ring) (omega arith), same_number (i / ring), lt-ltb 0 y.0 (omega arith), le-ltb (i + ring) (length log) near, at) refl

pub look_step : (c : Config) (past : List Event) (r p i : ℕ) → Limits c → IsLegalHistory c past → StepsByWord c r past (Verb.Look p i)
look_step c past r p i l h = record { answer = answer (last_at c.ring (i % c.ring) (region_log p past) (length (region_log p past))); here = refl; others = others_keep c past r (Verb.Look p i) }
  where
    answer : LastAt c.ring (i % c.ring) (region_log p past) (length (region_log p past)) ⊎ NoneAt c.ring (i % c.ring) (region_log p past) (length (region_log p past))
        → slot_answer c.ring i (stamp c p (Target.Place (i % c.ring)) past * 140737488355328 + place_fields c.ring (i % c.ring) (region_log p past)) ≡ look_of c.ring (region_log p past) i
    answer (inl x) =
        let b = x.below in
        let m = (log_fits c p past l h).most in
        let y = entry_at (region_log p past) x.j x.below in
        ap (λ z. slot_answer c.ring i (stamp c p (Target.Place (i % c.ring)) past * 140737488355328 + z)) (x.shows ∙ ap (entry_fields c.ring x.j) y.1)
        ∙ read_entry c.ring (stamp c p (Target.Place (i % c.ring)) past) i (region_log p past) x y.0 y.1 (entry_fits c p past l h x.j y.0 y.1) (lap_fits c x.j l (omega arith)) (let q = l.ring_least in omega arith)
    answer (inr x) =
        let out : length (region_log p past) ≤ i = elim (cases_lt i (length (region_log p past))) [ inl n ↦ absurd (x.none i n refl) | inr n ↦ n ] in
        ap (λ z. slot_answer c.ring i (stamp c p (Target.Place (i % c.ring)) past * 140737488355328 + z)) x.shows
        ∙ read_empty c.ring i (stamp c p (Target.Place (i % c.ring)) past) ∙ sym (look_none c.ring (region_log p past) i out)
