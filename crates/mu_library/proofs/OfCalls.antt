-- What a call makes of what is held, and of a handle that holds it.
use Rattle.std.proofs.Common.{◌≡◌, ℕ, Some, refl, subst, sym}
use Rattle.std.specs.declared.option.Option.{Option}
use Rattle.mu_eras.specs.declared.eras.Eras.{Eras}
use Rattle.lone_replica.specs.declared.replica.Replica.{Replica}
use Rattle.mu_handle.specs.declared.holding.Held.{Held}
use Rattle.mu_library.specs.Engines.{Asks, OfHandle, OfHeld}
use Rattle.mu_library.specs.Replicas.{OfReplica, OfReplicaIn}

-- of an engine that is held
pub of_engine : (Nothing : Type 0) (Does : Eras → Eras → ℕ → Type 0) (held : Held) (old new : Eras) (status : ℕ) → held ≡ Held.Engine old → Does old new status → OfHeld Nothing Does held (Held.Engine new) status
of_engine Nothing Does held old new status is does = subst (λ h. OfHeld Nothing Does h (Held.Engine new) status) (sym is) (new, refl, does)

-- and is only asked
pub asks_engine : (Nothing : Type 0) (Tells : Eras → ℕ → Type 0) (held : Held) (e : Eras) (status : ℕ) → held ≡ Held.Engine e → Tells e status → OfHeld Nothing (Asks Tells) held held status
asks_engine Nothing Tells held e status is tells = subst (λ h. OfHeld Nothing (Asks Tells) h h status) (sym is) (e, refl, (refl, tells))

-- of a handle that holds something, which is lent for the call
pub of_handle : (Nothing : Type 0) (Does : Eras → Eras → ℕ → Type 0) (old new : Option Held) (held lent after : Held) (status : ℕ) → old ≡ Some held → lent ≡ held → new ≡ Some after → OfHeld Nothing Does lent after status → OfHandle Nothing Does old new status
of_handle Nothing Does old new held lent after status was same is does = subst (λ o. OfHandle Nothing Does o new status) (sym was) (after, is, subst (λ h. OfHeld Nothing Does h after status) same does)

-- and is put back as it was
pub asks_handle : (Nothing : Type 0) (Does : Eras → Eras → ℕ → Type 0) (old new : Option Held) (held lent : Held) (status : ℕ) → old ≡ Some held → lent ≡ held → new ≡ Some held → OfHeld Nothing Does lent lent status → OfHandle Nothing Does old new status
asks_handle Nothing Does old new held lent status was same is does = of_handle Nothing Does old new held held held status was refl is (subst (λ h. OfHeld Nothing Does h h status) same does)

-- the same of a call on a replica
pub of_replica : (Nothing : Type 0) (Does : Replica → Replica → ℕ → Type 0) (old new : Option Held) (held lent after : Held) (status : ℕ) → old ≡ Some held → lent ≡ held → new ≡ Some after → OfReplicaIn Nothing Does lent after status → OfReplica Nothing Does old new status
of_replica Nothing Does old new held lent after status was same is does = subst (λ o. OfReplica Nothing Does o new status) (sym was) (after, is, subst (λ h. OfReplicaIn Nothing Does h after status) same does)

pub asks_replica : (Nothing : Type 0) (Does : Replica → Replica → ℕ → Type 0) (old new : Option Held) (held lent : Held) (status : ℕ) → old ≡ Some held → lent ≡ held → new ≡ Some held → OfReplicaIn Nothing Does lent lent status → OfReplica Nothing Does old new status
asks_replica Nothing Does old new held lent status was same is does = of_replica Nothing Does old new held held held status was refl is (subst (λ h. OfReplicaIn Nothing Does h h status) same does)
