-- plays rounds, has waited, waits for: rounds that are played until a reply is there.
use Rattle.std.specs.Prelude.{List, None, map, suc, zero, ℕ, ◌≡◌, ◌≤◌, ◌⊎◌}
use Rattle.std.specs.declared.option.Option.{Option}
use Rattle.kv_store.specs.declared.store.Reply.{Reply}
use Rattle.mu_engine.specs.Live.{after_round}
use Rattle.mu_engine.specs.declared.hold.Hold.{Hold}
use Rattle.mu_eras.specs.Eras.{Era}
use Rattle.mu_eras.specs.Lasting.{HoldsEras, Lasts}
use Rattle.mu_eras.specs.declared.eras.Eras.{Eras}
use Rattle.mu_library.specs.Engines.{IsThere, IsUntold, PutsReply, TellsRow, WhyUntold, live_of}
use Rattle.mu_outcome.specs.Statuses.{code_of}
use Rattle.mu_outcome.specs.declared.status.Status.{Status}

-- what holds the replicas after so many rounds
abbrev pub after_rounds : ℕ → List Hold → List Hold
after_rounds zero holds = holds
after_rounds (suc n) holds = map after_round (after_rounds n holds)

-- so many rounds were played
pub record PlaysRounds (n : ℕ) (old new : Eras) : Type 0 where
  pub holds : (live_of new).holds ≡ after_rounds n (live_of old).holds
  pub lasts :
      (past : List Era) → HoldsEras past old.succession
      → Lasts past old.succession new.succession

-- rounds were played until this was told of the row: its reply, or nothing after all of them
pub record HasWaited (row rounds : ℕ) (told : Option Reply) (old new : Eras) : Type 0 where
  pub played : ℕ
  pub few : played ≤ rounds
  pub plays : PlaysRounds played old new
  pub tells : TellsRow row told new
  pub whole : told ≡ None → played ≡ rounds

-- rounds were played, until there was no memory for an era that was due
pub record HasWaitedInVain (rounds : ℕ) (old new : Eras) : Type 0 where
  pub played : ℕ
  pub few : played ≤ rounds
  pub plays : PlaysRounds played old new

-- what is told of the row after rounds is put, or that there was no memory; or there is no such row,
-- and no round was played
abbrev pub WaitsFor : ℕ → ℕ → ℕ → List ℕ → List ℕ → ℕ → Eras → Eras → ℕ → Type 0
WaitsFor row rounds number before after taken old new status =
    ((new ≡ old) × WhyUntold row old status × IsUntold number before after taken)
    ⊎ (IsThere row old × (told : Option Reply) × HasWaited row rounds told old new
    × PutsReply told number before after taken status)
    ⊎ (IsThere row old × HasWaitedInVain rounds old new × (status ≡ code_of Status.NoMemory)
    × IsUntold number before after taken)
