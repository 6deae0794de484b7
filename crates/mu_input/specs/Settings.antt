-- settings: the first lines of a job.
use Rattle.std.specs.Prelude.{ℕ, ◌+◌, ◌≡◌, ◌≤◌, List, [], ◌∷◌, codes, if◌then◌else◌, ◌==◌, None}
use Rattle.std.specs.declared.option.Option.{Option}
use Rattle.std.specs.Option.{option_map_or}
use Rattle.std.specs.Str.{bytes_eq}
use Rattle.mu_text.specs.Lines.{Left, words}
use Rattle.mu_text.specs.Numbers.{number_of, within}
use Rattle.mu_input.specs.Readings.{Front, Begins, Breaks, followed}
use Rattle.mu_input.specs.declared.TheConstants.{MOST_REPLICAS, LEAST_RING, MOST_RING, MOST_STEPS, MOST_WIDTH}
use Rattle.mu_input.specs.declared.cause.TheConstants.{HEAD, REPLICAS, RING, BUDGET, BATCH, NO_END}
use Rattle.mu_input.specs.declared.heading.Settings.{Settings}

-- the number of a line of a name and a number from `low` to `high`
abbrev pub setting : List ℕ → ℕ → ℕ → List (List ℕ) → Option ℕ
setting name low high (word ∷ value ∷ []) =
    if bytes_eq word name then within low high (number_of value) else None
setting name low high _ = None

-- a line of a name and a number from `low` to `high` comes first among the lines from `number` on,
-- else the cause is this
abbrev pub setting_among : List ℕ → ℕ → ℕ → ℕ → ℕ → List (List ℕ) → Front ℕ
setting_among name low high cause number [] = Breaks number NO_END
setting_among name low high cause number (line ∷ lines) = option_map_or
    (λ value. Begins value (record { number = number + 1; lines = lines }))
    (setting name low high (words line))
    (Breaks number cause)

-- the same of the lines that are left
abbrev pub setting_at : List ℕ → ℕ → ℕ → ℕ → Left → Front ℕ
setting_at name low high cause left = setting_among name low high cause left.number left.lines

-- how many commands a batch has at most: a line of version 2, and 1 in version 1
abbrev pub width_at : ℕ → Left → Front ℕ
width_at version left =
    if version == 2 then setting_at (codes "batch") 1 MOST_WIDTH BATCH left else Begins 1 left

-- the version, the replicas, the places of a ring, the steps of a replica, and in version 2 the
-- commands of a batch
abbrev pub settings_at : Left → Front Settings
settings_at left =
    followed (setting_at (codes "mu") 1 2 HEAD left) (λ version left.
    followed (setting_at (codes "replicas") 1 MOST_REPLICAS REPLICAS left) (λ replicas left.
    followed (setting_at (codes "ring") LEAST_RING MOST_RING RING left) (λ ring left.
    followed (setting_at (codes "budget") 1 MOST_STEPS BUDGET left) (λ budget left.
    followed (width_at version left) (λ width left.
    Begins
    (record
    { version = version; width = width; replicas = replicas; ring = ring; budget = budget })
    left)))))

-- the bounds of the settings; a batch of version 1 has one command
pub record HasLimits (settings : Settings) : Type 0 where
  pub version_least : 1 ≤ settings.version
  pub version_most : settings.version ≤ 2
  pub single : settings.version ≡ 1 → settings.width ≡ 1
  pub width_least : 1 ≤ settings.width
  pub width_most : settings.width ≤ MOST_WIDTH
  pub replicas_least : 1 ≤ settings.replicas
  pub replicas_most : settings.replicas ≤ MOST_REPLICAS
  pub ring_least : LEAST_RING ≤ settings.ring
  pub ring_most : settings.ring ≤ MOST_RING
  pub budget_least : 1 ≤ settings.budget
  pub budget_most : settings.budget ≤ MOST_STEPS
