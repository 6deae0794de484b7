-- Different names have different places.
use Rattle.std.proofs.Common.{◌≡◌, ℕ, zero, suc, ◌+◌, ◌-◌, ◌*◌, ◌/◌, ◌%◌, ◌≤◌, ◌<◌, ◌⊎◌, inl, inr, Bool, true, false, ◌==◌, refl, sym, ◌∙◌, ap, arith, subst}
use Rattle.std.specs.Prelude.{nat_lt, if◌then◌else◌}
use Rattle.std.proofs.lemmas.Nat.{same_from_place, mul-add-lt, div_below, mod_below}
use Rattle.std.proofs.Math.Nat.{div-add-mod}
use Rattle.std.proofs.lemmas.Bool.{cases_lt}
use Rattle.mu_words.specs.declared.layout.Layout.{Layout}
use Rattle.mu_words.specs.declared.layout.Name.{Name}
use Rattle.mu_words.specs.Places.{region_size, rows_start, place_of, word_count, IsName, PlacesAreInside, PlacesDiffer}

-- the name at an offset of a region
abbrev late_name : Layout → ℕ → ℕ → Bool → Name
late_name l p o true = Name.Ask p (o - 5)
late_name l p o false = Name.Slot p (o - 5 - l.replicas)

abbrev name_in : Layout → ℕ → ℕ → Name
name_in l p o = if o == 0 then Name.Fence p else if o == 1 then Name.Min p else if o == 2 then Name.Fuo p else if o == 3 then Name.Head p else if o == 4 then Name.Beat p else late_name l p o (nat_lt (o - 5) l.replicas)

record InRegion (l : Layout) (n : Name) : Type 0 where
  p : ℕ
  o : ℕ
  inside : p < l.replicas
  within : o < region_size l
  is : place_of l n ≡ p * region_size l + o
  named : n ≡ name_in l p o

record InRow (l : Layout) (n : Name) : Type 0 where
  r : ℕ
  j : ℕ
  k : ℕ
  replica : r < l.replicas
  row : j < l.rows
  word : k < 12
  is : n ≡ Name.Row r j k

ask_named : (l : Layout) (p w : ℕ) → w < l.replicas → Name.Ask p w ≡ name_in l p (5 + w)
ask_named l p w h = grind (arith)

slot_named : (l : Layout) (p s : ℕ) → Name.Slot p s ≡ name_in l p (5 + l.replicas + s)
slot_named l p s = grind (arith)

where_is : (l : Layout) (n : Name) → IsName l n → InRegion l n ⊎ InRow l n
where_is l (Name.Fence p) h = inl (record { p = p; o = 0; inside = h; within = omega arith; is = omega arith; named = refl })
where_is l (Name.Min p) h = inl (record { p = p; o = 1; inside = h; within = omega arith; is = refl; named = refl })
where_is l (Name.Fuo p) h = inl (record { p = p; o = 2; inside = h; within = omega arith; is = refl; named = refl })
where_is l (Name.Head p) h = inl (record { p = p; o = 3; inside = h; within = omega arith; is = refl; named = refl })
where_is l (Name.Beat p) h = inl (record { p = p; o = 4; inside = h; within = omega arith; is = refl; named = refl })
where_is l (Name.Ask p w) h = inl (record { p = p; o = 5 + w; inside = h.0; within = (let i = h.1 in omega arith); is = omega arith; named = ask_named l p w h.1 })
where_is l (Name.Slot p s) h = inl (record { p = p; o = 5 + l.replicas + s; inside = h.0; within = (let i = h.1 in omega arith); is = omega arith; named = slot_named l p s })
where_is l (Name.Row r j k) h = inr (record { r = r; j = j; k = k; replica = h.0; row = h.1; word = h.2; is = refl })

below_rows : (l : Layout) (p o : ℕ) → p < l.replicas → o < region_size l → p * region_size l + o < rows_start l
below_rows l p o h g = grind (arith, mul-add-lt p (region_size l) o l.replicas h g)

two_regions : (l : Layout) (a b : Name) → InRegion l a → InRegion l b → place_of l a ≡ place_of l b → a ≡ b
two_regions l a b x y e =
    let k = same_from_place x.p x.o y.p y.o (region_size l) x.within y.within (sym x.is ∙ e ∙ y.is) in
    x.named ∙ ap (λ p. name_in l p x.o) k.0 ∙ ap (name_in l y.p) k.1 ∙ sym y.named

row_apart : (l : Layout) (a b : Name) → InRegion l a → InRow l b → place_of l a ≡ place_of l b → ⊥
row_apart l a b x y e =
    let k : place_of l b ≡ rows_start l + (y.r * l.rows + y.j) * 12 + y.k = ap (place_of l) y.is in
    let i = below_rows l x.p x.o x.inside x.within in
    let m : x.p * region_size l + x.o ≡ rows_start l + (y.r * l.rows + y.j) * 12 + y.k = sym x.is ∙ e ∙ k in
    omega arith

two_rows : (l : Layout) (a b : Name) → InRow l a → InRow l b → place_of l a ≡ place_of l b → a ≡ b
two_rows l a b x y e =
    let m : rows_start l + (x.r * l.rows + x.j) * 12 + x.k ≡ rows_start l + (y.r * l.rows + y.j) * 12 + y.k = sym (ap (place_of l) x.is) ∙ e ∙ ap (place_of l) y.is in
    let n : (x.r * l.rows + x.j) * 12 + x.k ≡ (y.r * l.rows + y.j) * 12 + y.k = omega arith in
    let k = same_from_place (x.r * l.rows + x.j) x.k (y.r * l.rows + y.j) y.k 12 x.word y.word n in
    let i = same_from_place x.r x.j y.r y.j l.rows x.row y.row k.0 in
    x.is ∙ ap (λ r. Name.Row r x.j x.k) i.0 ∙ ap (λ j. Name.Row y.r j x.k) i.1 ∙ ap (Name.Row y.r y.j) k.1 ∙ sym y.is

pub places_differ_law : PlacesDiffer
places_differ_law l a b h g e =
    elim (where_is l a h) [
      | inl x ↦ elim (where_is l b g) [ inl y ↦ two_regions l a b x y e | inr y ↦ absurd (row_apart l a b x y e) ]
      | inr x ↦ elim (where_is l b g) [ inl y ↦ absurd (row_apart l b a y x (sym e)) | inr y ↦ two_rows l a b x y e ]
    ]

row_below : (l : Layout) (r j k : ℕ) → r < l.replicas → j < l.rows → k < 12 → (r * l.rows + j) * 12 + k < l.replicas * l.rows * 12
row_below l r j k h g m =
    let a : r * l.rows + j < l.rows * l.replicas = mul-add-lt r l.rows j l.replicas h g in
    let b : l.rows * l.replicas ≡ l.replicas * l.rows = swap l.rows l.replicas in
    omega (arith, b)
  where
    swap : (a b : ℕ) → a * b ≡ b * a
    swap a b = grind (arith)

region_place : (l : Layout) (n : Name) → InRegion l n ⊎ InRow l n → place_of l n < word_count l
region_place l n (inl x) = let a = below_rows l x.p x.o x.inside x.within in let b = x.is in omega arith
region_place l n (inr x) = subst (λ z. place_of l z < word_count l) (sym x.is) (let a = row_below l x.r x.j x.k x.replica x.row x.word in omega arith)

-- every place is one of the table's
pub places_inside_law : PlacesAreInside
places_inside_law l n h = region_place l n (where_is l n h)

-- every place has a name
pub record Named (l : Layout) (i : ℕ) : Type 0 where
  pub name : Name
  pub is_name : IsName l name
  pub at : place_of l name ≡ i

turned : (a b : ℕ) → a * b ≡ b * a
turned a b = grind (arith)

offset_named : (l : Layout) (p o i : ℕ) → p < l.replicas → o < region_size l → p * region_size l + o ≡ i → Named l i
offset_named l p o i h g e = go (cases_lt o 5)
  where
    five : (o : ℕ) → o < 5 → p * region_size l + o ≡ i → Named l i
    five zero m e = record { name = Name.Fence p; is_name = h; at = (let k = e in omega arith) }
    five (suc zero) m e = record { name = Name.Min p; is_name = h; at = e }
    five (suc (suc zero)) m e = record { name = Name.Fuo p; is_name = h; at = e }
    five (suc (suc (suc zero))) m e = record { name = Name.Head p; is_name = h; at = e }
    five (suc (suc (suc (suc zero)))) m e = record { name = Name.Beat p; is_name = h; at = e }
    five (suc (suc (suc (suc (suc n))))) m e = absurd (omega arith)

    go : (o < 5) ⊎ (5 ≤ o) → Named l i
    go (inl m) = five o m e
    go (inr m) = elim (cases_lt (o - 5) l.replicas) [
      | inl n ↦ record { name = Name.Ask p (o - 5); is_name = (h, n); at = omega (arith, e) }
      | inr n ↦ record { name = Name.Slot p (o - 5 - l.replicas); is_name = (h, omega arith); at = omega (arith, e) }
    ]

row_named : (l : Layout) (i : ℕ) → i < l.replicas * l.rows * 12 → Named l (rows_start l + i)
row_named l i h =
    let y = i / 12 in
    let below : y < l.replicas * l.rows = omega arith in
    let some : 0 < l.rows = positive l.replicas l.rows y below in
    let split = div-add-mod y l.rows in
    let t = turned l.rows (y / l.rows) in
    record {
      name = Name.Row (y / l.rows) (y % l.rows) (i % 12);
      is_name = (div_below y l.rows l.replicas some below, mod_below y l.rows some, omega arith);
      at = (let z : y / l.rows * l.rows + y % l.rows ≡ y = omega arith in omega arith);
    }
  where
    positive : (a b y : ℕ) → y < a * b → 0 < b
    positive a zero y k = absurd (let m : a * zero ≡ 0 = omega arith in omega (arith, m, k))
    positive a (suc b) y k = omega arith

pub every_place : (l : Layout) (i : ℕ) → i < word_count l → Named l i
every_place l i h = go (cases_lt i (rows_start l))
  where
    go : (i < rows_start l) ⊎ (rows_start l ≤ i) → Named l i
    go (inl m) =
        let split = div-add-mod i (region_size l) in
        let t = turned (region_size l) (i / region_size l) in
        offset_named l (i / region_size l) (i % region_size l) i (div_below i (region_size l) l.replicas (omega arith) m) (mod_below i (region_size l) (omega arith)) (omega arith)
    go (inr m) = subst (Named l) (let e : rows_start l + (i - rows_start l) ≡ i = omega arith in e) (row_named l (i - rows_start l) (omega arith))
