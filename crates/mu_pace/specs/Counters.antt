-- watch, steps left, room, in time: what a count of steps looks at; the steps left: the minimum
-- over all moments since the count last closed; that at least a number of steps is left, and that
-- one is.
--
-- A count is opened at some moments, taken down by the steps that count, raised by those that pay,
-- and closed by what was waited for.
use Rattle.std.specs.Prelude.{Bool, List, None, Some, [], false, if◌then◌else◌, min, true, ℕ, ◌++◌, ◌+◌, ◌-◌, ◌∷◌, ◌≡◌, ◌≤◌}
use Rattle.std.specs.declared.option.Option.{Option}
use Rattle.mu_model.specs.declared.event.Event.{Event}

-- what a count looks at: how many steps a moment allows from here on, which steps close it, which
-- take a step, and how many more steps a step gives
pub record Watch : Type 0 where
  pub allows : List Event → Option ℕ
  pub closes : List Event → Event → Bool
  pub counts : List Event → Event → Bool
  pub pays : List Event → Event → ℕ

-- the steps that are left after one step
abbrev pub left_after : Bool → Bool → ℕ → Option ℕ → Option ℕ
left_after closes counts pays None = None
left_after true counts pays (Some left) = None
left_after false true pays (Some left) = Some (left + pays - 1)
left_after false false pays (Some left) = Some (left + pays)

-- the smaller of what the moment allows and what is left, if a count is open
abbrev pub fewer : Option ℕ → Option ℕ → Option ℕ
fewer None left = left
fewer (Some allowed) None = Some allowed
fewer (Some allowed) (Some left) = Some (min allowed left)

-- the steps left, if a count is open: the minimum over all moments since the count last closed
abbrev pub steps_left : Watch → List Event → Option ℕ
steps_left w [] = w.allows []
steps_left w (e ∷ past) =
    fewer (w.allows (e ∷ past))
    (left_after (w.closes past e) (w.counts past e) (w.pays past e) (steps_left w past))

-- if a count is open, at least `weight` steps are left
abbrev pub HasRoom : Watch → ℕ → List Event → Type 0
HasRoom w weight past = (left : ℕ) → steps_left w past ≡ Some left → weight ≤ left

-- some step is left
abbrev pub IsInTime : Watch → List Event → Type 0
IsInTime w past = HasRoom w 1 past

-- how many more steps a stretch gives
abbrev pub paid : (List Event → Event → ℕ) → List Event → List Event → ℕ
paid pays [] older = 0
paid pays (e ∷ window) older = paid pays window older + pays (window ++ older) e

-- a moment after an event that passes allows an amount of steps
abbrev pub allowed_after : (List Event → Event → Bool) → (List Event → ℕ) → List Event → Option ℕ
allowed_after test amount [] = None
allowed_after test amount (e ∷ past) = if test past e then Some (amount (e ∷ past)) else None

-- a moment that passes allows an amount of steps
abbrev pub allowed_while : (List Event → Bool) → (List Event → ℕ) → List Event → Option ℕ
allowed_while test amount past = if test past then Some (amount past) else None
