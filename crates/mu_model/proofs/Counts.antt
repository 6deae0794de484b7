-- A list of events holds no more of a kind than it is long.
use Rattle.std.proofs.Common.{◌≡◌, ℕ, ◌+◌, ◌≤◌, Bool, true, false, List, [], ◌∷◌, length, arith, None, Some}
use Rattle.std.specs.Prelude.{if◌then◌else◌}
use Rattle.std.specs.declared.option.Option.{Option}
use Rattle.std.proofs.lemmas.List.{length-reverse}
use Rattle.mu_model.specs.declared.event.Event.{Event}
use Rattle.mu_model.specs.Histories.{history, how_many, max_with}
use Rattle.mu_model.specs.Regions.{fence_grant, is_grant_of}

-- of any kind
pub how_many_within : (test : Event → Bool) (past : List Event) → how_many test past ≤ length past
how_many_within test [] = omega arith
how_many_within test (e ∷ past) = by_test (test e) (how_many_within test past)
  where
    by_test : (t : Bool) → how_many test past ≤ length past → (if t then how_many test past + 1 else how_many test past) ≤ length (e ∷ past)
    by_test true before = omega arith
    by_test false before = omega arith

-- a region was granted at most as often as there are events
pub grants_within : (p : ℕ) (events : List Event) → fence_grant p (history events) ≤ length events
grants_within p events =
    let few = how_many_within (is_grant_of p) (history events) in
    let same : length (history events) ≡ length events = length-reverse events in
    omega (arith, few, same)

-- a greatest number never falls
pub max_with_grows : (o : Option ℕ) (x : ℕ) → x ≤ max_with o x
max_with_grows None x = omega arith
max_with_grows (Some y) x = omega arith
