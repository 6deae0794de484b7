-- Different names have different spots: the spot tells the place in the list of all words.
use Rattle.std.proofs.Common.{◌≡◌, ℕ, ◌+◌, ◌-◌, ◌*◌, ◌<◌, ◌==◌, ◌&&◌, Bool, true, false, sym, ◌∙◌, ap, arith, eqb-true, eq-eqb, true≢false}
use Rattle.std.specs.Prelude.{nat_lt}
use Rattle.std.proofs.lemmas.Bool.{and_parts, le-ltb, lt-ltb}
use Rattle.mu_words.specs.declared.layout.Name.{Name}
use Rattle.mu_words.specs.Places.{IsName, place_of, region_start, rows_start}
use Rattle.mu_words.proofs.Places.{places_differ_law}
use Rattle.lone_words.specs.declared.access.Shape.{Shape}
use Rattle.lone_words.specs.declared.access.Spot.{Spot}
use Rattle.lone_words.specs.Spots.{SpotsDiffer, first_row, is_same_spot, layout_of, spot_at, spot_of}

-- the place in the list of all words that a spot has: in the region of its host, or else in its rows
abbrev place_by : Shape → ℕ → ℕ → Bool → ℕ
place_by s h o true = h * first_row s + o
place_by s h o false = s.replicas * first_row s + h * (s.rows * 12) + (o - first_row s)

abbrev place_at : Shape → ℕ → ℕ → ℕ
place_at s h o = place_by s h o (nat_lt o (first_row s))

in_region : (s : Shape) (h o : ℕ) → o < first_row s → place_at s h o ≡ h * first_row s + o
in_region s h o below = ap (place_by s h o) (lt-ltb o (first_row s) below)

after_less : (n o : ℕ) → n + o - n ≡ o
after_less n o = omega arith

in_rows : (s : Shape) (h o : ℕ) → place_at s h (first_row s + o) ≡ s.replicas * first_row s + h * (s.rows * 12) + o
in_rows s h o =
    ap (place_by s h (first_row s + o)) (le-ltb (first_row s + o) (first_row s) (omega arith))
    ∙ ap (λ (k : ℕ). s.replicas * first_row s + h * (s.rows * 12) + k) (after_less (first_row s) o)

spread : (r n j k : ℕ) → (r * n + j) * 12 + k ≡ r * (n * 12) + (j * 12 + k)
spread r n j k = grind (arith)

place_is : (s : Shape) (n : Name) → IsName (layout_of s) n → place_of (layout_of s) n ≡ place_at s (spot_of s n).host (spot_of s n).place
place_is s (Name.Fence p) h = omega arith ∙ sym (in_region s p 0 (omega arith))
place_is s (Name.Min p) h = sym (in_region s p 1 (omega arith))
place_is s (Name.Fuo p) h = sym (in_region s p 2 (omega arith))
place_is s (Name.Head p) h = sym (in_region s p 3 (omega arith))
place_is s (Name.Beat p) h = sym (in_region s p 4 (omega arith))
place_is s (Name.Ask p w) h =
    let i = h.1 in
    let e : region_start (layout_of s) p + 5 + w ≡ p * first_row s + (5 + w) = omega arith in
    e ∙ sym (in_region s p (5 + w) (omega (arith, i)))
place_is s (Name.Slot p i) h =
    let b = h.1 in
    let e : region_start (layout_of s) p + 5 + s.replicas + i ≡ p * first_row s + (5 + s.replicas + i) = omega arith in
    e ∙ sym (in_region s p (5 + s.replicas + i) (omega (arith, b)))
place_is s (Name.Row r j k) h =
    let a = spread r s.rows j k in
    let b = in_rows s r (j * 12 + k) in
    let d : rows_start (layout_of s) + (r * s.rows + j) * 12 + k ≡ s.replicas * first_row s + r * (s.rows * 12) + (j * 12 + k) = omega (arith, a) in
    let f : first_row s + (j * 12 + k) ≡ first_row s + j * 12 + k = omega arith in
    d ∙ (sym b ∙ ap (place_at s r) f)

pub spots_differ_law : SpotsDiffer
spots_differ_law s a b h g same =
    places_differ_law (layout_of s) a b h g
    (place_is s a h ∙ (ap (λ (p : Spot). place_at s p.host p.place) same ∙ sym (place_is s b g)))

-- spots that are told to be one are one
pub same_spot : (a b : Spot) → is_same_spot a b ≡ true → a ≡ b
same_spot a b is =
    let both = and_parts (a.host == b.host) (a.place == b.place) is in
    λ i. spot_at ((eqb-true a.host b.host both.0) i) ((eqb-true a.place b.place both.1) i)

-- and those that are one are told to be
pub differ : (a b : Spot) → a ≡ b → is_same_spot a b ≡ false → ⊥
differ a b same off =
    let yes : is_same_spot a b ≡ true = λ i. (eq-eqb a.host b.host (ap (λ (x : Spot). x.host) same)) i && (eq-eqb a.place b.place (ap (λ (x : Spot). x.place) same)) i in
    true≢false (sym yes ∙ off)
