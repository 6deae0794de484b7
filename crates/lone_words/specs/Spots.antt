-- spot, shape: where the word of a name stands, by its host and its place there.
use Rattle.std.specs.Prelude.{Bool, ℕ, ◌&&◌, ◌*◌, ◌+◌, ◌==◌, ◌≡◌, ◌≤◌}
use Rattle.mu_model.specs.declared.config.Config.{Config}
use Rattle.mu_model.specs.Contents.{row_count}
use Rattle.mu_words.specs.declared.layout.Layout.{Layout}
use Rattle.mu_words.specs.declared.layout.Name.{Name}
use Rattle.mu_words.specs.Places.{IsName}
use Rattle.lone_words.specs.declared.access.Shape.{Shape}
use Rattle.lone_words.specs.declared.access.Spot.{Spot}

-- the shape as the layout of a list of words
abbrev pub layout_of : Shape → Layout
layout_of s = record { replicas = s.replicas; ring = s.ring; rows = s.rows }

-- the shape has the regions of the configuration, and room for its rows
pub record IsShapeOf (c : Config) (s : Shape) : Type 0 where
  pub replicas : s.replicas ≡ c.replicas
  pub ring : s.ring ≡ c.ring
  pub rows : row_count c ≤ s.rows

-- the place at which the rows begin
abbrev pub first_row : Shape → ℕ
first_row s = 5 + s.replicas + s.ring

-- how many words a host has
abbrev pub host_words : Shape → ℕ
host_words s = first_row s + s.rows * 12

-- this place of this host
abbrev pub spot_at : ℕ → ℕ → Spot
spot_at host place = record { host = host; place = place }

-- where the word of a name stands
abbrev pub spot_of : Shape → Name → Spot
spot_of s (Name.Fence p) = spot_at p 0
spot_of s (Name.Min p) = spot_at p 1
spot_of s (Name.Fuo p) = spot_at p 2
spot_of s (Name.Head p) = spot_at p 3
spot_of s (Name.Beat p) = spot_at p 4
spot_of s (Name.Ask p w) = spot_at p (5 + w)
spot_of s (Name.Slot p i) = spot_at p (5 + s.replicas + i)
spot_of s (Name.Row r j k) = spot_at r (first_row s + j * 12 + k)

-- the two are one
abbrev pub is_same_spot : Spot → Spot → Bool
is_same_spot a b = (a.host == b.host) && (a.place == b.place)

-- different names have different spots
abbrev pub SpotsDiffer : Type 0
SpotsDiffer =
    (s : Shape) (a b : Name) → IsName (layout_of s) a → IsName (layout_of s) b
    → spot_of s a ≡ spot_of s b → a ≡ b
