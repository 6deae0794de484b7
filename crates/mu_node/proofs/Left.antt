-- A replica whose events have no end yet has a step left.
use Rattle.std.proofs.Common.{◌≡◌, ◌≢◌, ◌<◌, ◌≤◌, ℕ, Bool, true, false, None, Some, List, [], ◌∷◌, arith, length, refl, true≢false}
use Rattle.std.specs.declared.option.Option.{Option}
use Rattle.mu_model.specs.declared.config.Config.{Config}
use Rattle.mu_model.specs.declared.event.Event.{Event}
use Rattle.mu_model.specs.declared.script.End.{End}
use Rattle.mu_model.specs.declared.script.Script.{Script}
use Rattle.mu_model.specs.Ends.{IsGoing, outrun, stops_at}
use Rattle.mu_model.specs.Parts.{IsPossible}
use Rattle.mu_agree.proofs.Possible.{parts_shorten_law}
use Rattle.mu_node.specs.Turns.{HasNoEnd, TellsHalt}

-- no replica takes more steps than its budget
pub steps_within : (c : Config) (r : ℕ) (mine : List Event) → IsPossible c r mine → length mine ≤ c.budget
steps_within c r [] possible = omega arith
steps_within c r (e ∷ mine) possible = let left = (parts_shorten_law c r mine e possible).allowed.budget in omega (arith, left)

-- a replica without an end has not spent its budget
pub is_left : (c : Config) (script : Script) (r : ℕ) (mine : List Event) → IsPossible c r mine → HasNoEnd c script r mine → length mine < c.budget
is_left c script r mine possible none = let within = steps_within c r mine possible in let other = unspent (stops_at r (length mine) script.stops) refl in omega (arith, within, other)
  where
    unspent : (t : Bool) → stops_at r (length mine) script.stops ≡ t → length mine ≢ c.budget
    unspent true stops = λ spent. none End.Stopped stops
    unspent false stops = λ spent. none End.Budget (stops, spent)

-- nor has one that nothing halts
pub is_unspent : (c : Config) (script : Script) (r : ℕ) (mine : List Event) → IsPossible c r mine → TellsHalt c script r mine None → length mine < c.budget
is_unspent c script r mine possible none = let within = steps_within c r mine possible in let other = unspent (stops_at r (length mine) script.stops) refl in omega (arith, within, other)
  where
    unspent : (t : Bool) → stops_at r (length mine) script.stops ≡ t → length mine ≢ c.budget
    unspent true stops = λ spent. true≢false (none End.Stopped stops)
    unspent false stops = λ spent. true≢false (none End.Budget (stops, spent))

-- and it was not outrun
pub is_unhalted : (c : Config) (script : Script) (r : ℕ) (mine : List Event) → TellsHalt c script r mine None → outrun c r mine ≡ None
is_unhalted c script r mine none = go (outrun c r mine) refl
  where
    stops : (t : Bool) → stops_at r (length mine) script.stops ≡ t → t ≡ false
    stops true is = absurd (true≢false (none End.Stopped is))
    stops false is = refl

    going : IsGoing c script r mine
    going = let off = stops (stops_at r (length mine) script.stops) refl in (off, λ spent. true≢false (none End.Budget (off, spent)))

    go : (o : Option (ℕ × ℕ)) → outrun c r mine ≡ o → o ≡ None
    go None is = refl
    go (Some found) is = absurd (true≢false (none (End.Outrun found.0 found.1) (going, is)))
