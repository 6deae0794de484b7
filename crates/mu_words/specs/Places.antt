-- name, place, layout: what a word holds, and where it stands in the list of all words.
--
-- First come the regions in order, then the rows. The words of a region are its fence, minimum,
-- FUO, head, beat, an ask for each replica, and the slots of the ring.
use Rattle.std.specs.Prelude.{ℕ, ◌*◌, ◌+◌, ◌<◌, ◌≡◌, ◌≤◌}
use Rattle.mu_model.specs.declared.config.Config.{Config}
use Rattle.mu_model.specs.Contents.{row_count}
use Rattle.mu_words.specs.declared.layout.Layout.{Layout}
use Rattle.mu_words.specs.declared.layout.Name.{Name}

-- how many words a region has
abbrev pub region_size : Layout → ℕ
region_size l = 5 + l.replicas + l.ring

-- the place at which region p begins
abbrev pub region_start : Layout → ℕ → ℕ
region_start l p = p * region_size l

-- the place at which the rows begin
abbrev pub rows_start : Layout → ℕ
rows_start l = l.replicas * region_size l

-- the place of the word of this name
abbrev pub place_of : Layout → Name → ℕ
place_of l (Name.Fence p) = region_start l p
place_of l (Name.Min p) = region_start l p + 1
place_of l (Name.Fuo p) = region_start l p + 2
place_of l (Name.Head p) = region_start l p + 3
place_of l (Name.Beat p) = region_start l p + 4
place_of l (Name.Ask p w) = region_start l p + 5 + w
place_of l (Name.Slot p s) = region_start l p + 5 + l.replicas + s
place_of l (Name.Row r j k) = rows_start l + (r * l.rows + j) * 12 + k

-- there is a word of this name
abbrev pub IsName : Layout → Name → Type 0
IsName l (Name.Fence p) = p < l.replicas
IsName l (Name.Min p) = p < l.replicas
IsName l (Name.Fuo p) = p < l.replicas
IsName l (Name.Head p) = p < l.replicas
IsName l (Name.Beat p) = p < l.replicas
IsName l (Name.Ask p w) = (p < l.replicas) × (w < l.replicas)
IsName l (Name.Slot p s) = (p < l.replicas) × (s < l.ring)
IsName l (Name.Row r j k) = (r < l.replicas) × (j < l.rows) × (k < 12)

-- how many words there are
abbrev pub word_count : Layout → ℕ
word_count l = rows_start l + l.replicas * l.rows * 12

-- different names have different places
abbrev pub PlacesDiffer : Type 0
PlacesDiffer =
    (l : Layout) (a b : Name) → IsName l a → IsName l b → place_of l a ≡ place_of l b → a ≡ b

-- each name has a place among the words
abbrev pub PlacesAreInside : Type 0
PlacesAreInside = (l : Layout) (n : Name) → IsName l n → place_of l n < word_count l

-- the layout has the regions of the configuration, and room for its rows
pub record IsLayoutOf (c : Config) (l : Layout) : Type 0 where
  pub replicas : l.replicas ≡ c.replicas
  pub ring : l.ring ≡ c.ring
  pub rows : row_count c ≤ l.rows
