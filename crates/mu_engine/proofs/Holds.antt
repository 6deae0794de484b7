-- What holds the replicas, after one is changed and after a round.
use Rattle.std.proofs.Common.{◌≡◌, ◌∙◌, ℕ, suc, zero, ◌≤◌, List, [], ◌∷◌, Some, ap, arith, length, map, refl, set, sym}
use Rattle.std.specs.List.{slice_get}
use Rattle.mu_model.proofs.Basics.{same_some}
use Rattle.mu_engine.specs.declared.hold.Hold.{Hold}
use Rattle.mu_engine.specs.declared.seat.Seat.{Seat}
use Rattle.mu_engine.specs.Live.{after_round, changed_at}
use Rattle.mu_engine.specs.Seats.{hold_of}

-- what holds the replica of a seat
pub hold_there : (seats : List Seat) (k : ℕ) (seat : Seat) → slice_get seats k ≡ Some seat → slice_get (map hold_of seats) k ≡ Some seat.hold
hold_there [] k seat at = cc
hold_there (first ∷ seats) zero seat at = ap (λ (s : Seat). Some s.hold) (same_some first seat at)
hold_there (first ∷ seats) (suc k) seat at = hold_there seats k seat at

-- one seat is changed
pub changed_map : (f : Hold → Hold) (seats : List Seat) (k : ℕ) (old new : Seat) → slice_get seats k ≡ Some old → new.hold ≡ f old.hold → map hold_of (set seats k new) ≡ changed_at f (map hold_of seats) k
changed_map f [] k old new at is = cc
changed_map f (first ∷ seats) zero old new at is = ap (λ h. h ∷ map hold_of seats) (is ∙ ap (λ (s : Seat). f s.hold) (sym (same_some first old at)))
changed_map f (first ∷ seats) (suc k) old new at is = ap (λ l. first.hold ∷ l) (changed_map f seats k old new at is)

-- the same if nothing changes that holds it
pub held_map : (seats : List Seat) (k : ℕ) (old new : Seat) → slice_get seats k ≡ Some old → new.hold ≡ old.hold → map hold_of (set seats k new) ≡ map hold_of seats
held_map [] k old new at is = cc
held_map (first ∷ seats) zero old new at is = ap (λ h. h ∷ map hold_of seats) (is ∙ ap (λ (s : Seat). s.hold) (sym (same_some first old at)))
held_map (first ∷ seats) (suc k) old new at is = ap (λ l. first.hold ∷ l) (held_map seats k old new at is)

-- what holds the first k replicas is as after a round, and what holds the others as before it
abbrev pub aged : ℕ → List Hold → List Hold
aged zero holds = holds
aged (suc k) [] = []
aged (suc k) (hold ∷ holds) = after_round hold ∷ aged k holds

pub aged_next : (k : ℕ) (holds : List Hold) → changed_at after_round (aged k holds) k ≡ aged (suc k) holds
aged_next zero [] = refl
aged_next zero (hold ∷ holds) = refl
aged_next (suc k) [] = refl
aged_next (suc k) (hold ∷ holds) = ap (λ l. after_round hold ∷ l) (aged_next k holds)

pub aged_all : (k : ℕ) (holds : List Hold) → length holds ≤ k → aged k holds ≡ map after_round holds
aged_all zero [] all = refl
aged_all zero (hold ∷ holds) all = absurd (omega (arith, all))
aged_all (suc k) [] all = refl
aged_all (suc k) (hold ∷ holds) all = ap (λ l. after_round hold ∷ l) (aged_all k holds (omega (arith, all)))
