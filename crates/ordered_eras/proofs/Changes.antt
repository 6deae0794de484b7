-- What holds the replicas, once one of them is held otherwise.
use Rattle.std.proofs.Common.{◌≡◌, ℕ, suc, zero, ◌<◌, ◌==◌, Bool, true, false, List, [], ◌∷◌, Some, ap, arith, length, refl}
use Rattle.std.specs.Prelude.{if◌then◌else◌}
use Rattle.std.specs.List.{slice_get}
use Rattle.mu_engine.specs.declared.hold.Hold.{Hold}
use Rattle.mu_engine.specs.Live.{changed_at, paused}
use Rattle.ordered_store.specs.declared.replica.ReplicaState.{ReplicaState}
use Rattle.ordered_eras.specs.Moments.{state_by}

pub get_changed : (f : Hold → Hold) (holds : List Hold) (r : ℕ) → r < length holds → (hold : Hold) × (slice_get holds r ≡ Some hold) × (slice_get (changed_at f holds r) r ≡ Some (f hold))
get_changed f [] r low = absurd (omega (arith, low))
get_changed f (hold ∷ holds) zero low = (hold, refl, refl)
get_changed f (hold ∷ holds) (suc r) low = get_changed f holds r (omega (arith, low))

pub get_unchanged : (f : Hold → Hold) (holds : List Hold) (r s : ℕ) → (s ≡ r → ⊥) → slice_get (changed_at f holds r) s ≡ slice_get holds s
get_unchanged f [] r s other = refl
get_unchanged f (hold ∷ holds) zero zero other = absurd (other refl)
get_unchanged f (hold ∷ holds) zero (suc s) other = refl
get_unchanged f (hold ∷ holds) (suc r) zero other = refl
get_unchanged f (hold ∷ holds) (suc r) (suc s) other = get_unchanged f holds r s (λ same. other (ap suc same))

-- one that is stopped and paused stays stopped
pub stays_stopped : (rounds : ℕ) (hold : Hold) → state_by (Some hold) ≡ ReplicaState.Stopped → state_by (Some (paused rounds hold)) ≡ ReplicaState.Stopped
stays_stopped rounds hold is = go hold.stopped is
  where
    never : (t : Bool) → (if t then ReplicaState.Running else ReplicaState.Paused) ≡ ReplicaState.Stopped → ⊥
    never true same = cc
    never false same = cc

    go : (t : Bool) → (if t then ReplicaState.Stopped else (if hold.rounds == 0 then ReplicaState.Running else ReplicaState.Paused)) ≡ ReplicaState.Stopped
        → (if t then ReplicaState.Stopped else (if rounds == 0 then ReplicaState.Running else ReplicaState.Paused)) ≡ ReplicaState.Stopped
    go true same = refl
    go false same = absurd (never (hold.rounds == 0) same)
