-- rests: what a replica's steps and the times of its cycles have come to.
use Rattle.std.specs.Prelude.{Bool, List, MatchBool, false, if◌then◌else◌, nat_lt, ℕ, ◌-◌, ◌||◌, ◌≡◌}
use Rattle.mu_rest.specs.Cycles.{CountsRest, EndsCycle, late}
use Rattle.mu_rest.specs.Naps.{IsRest}
use Rattle.mu_rest.specs.Progress.{StandsForProgress}
use Rattle.mu_rest.specs.Silences.{StandsForSilences}
use Rattle.mu_rest.specs.declared.cycles.Cycles.{Cycles}
use Rattle.mu_rest.specs.declared.naps.Rest.{Rest}
use Rattle.mu_rest.specs.declared.naps.Shown.{Shown}
use Rattle.mu_rest.specs.declared.rests.Rests.{Rests}
use Rattle.mu_rest.specs.declared.sign.Sign.{Sign}

-- they stand for the signs of the replica's steps, newest first
pub record StandsForRests (signs : List Sign) (rests : Rests) : Type 0 where
  pub silences : StandsForSilences signs rests.silences
  pub progress : StandsForProgress signs rests.progress

-- what the last step shows, with those before it
abbrev pub shown_by : Rests → Shown
shown_by rests = record {
  silence = rests.silences.shown;
  ended = rests.progress.ended;
  idle = rests.progress.idle;
  quiet = rests.progress.quiet;
}

-- whether a rest may be due: the step shows a silence, or ended a cycle
abbrev pub may_rest : Rests → Bool
may_rest rests = nat_lt 0 rests.silences.shown || rests.progress.ended

-- the cycles are those before, but for the one that the last step ended, if it did
abbrev pub TimesCycle : Bool → ℕ → Cycles → Cycles → Type 0
TimesCycle ended moment old new = MatchBool ended (EndsCycle moment old new) (new ≡ old)

-- in haste there is no rest
abbrev pub IsNone : Rest → Type 0
IsNone rest = rest ≡ record { nanoseconds = 0; awake = false }

-- for how many more cycles there is haste, after a step
abbrev pub haste_after : Bool → ℕ → ℕ
haste_after ended haste = if ended then haste - 1 else haste

-- there is haste: another is known to have ended, and counts as failed the sooner the less is rested
abbrev pub Hastens : Rests → Rests → Type 0
Hastens old new = new ≡ record old { haste = 80 }

-- what doesn't change: the longest rest, if it is fixed, and whether not each replica has a
-- processor
pub record HasSettings (longest : ℕ) (is_crowded : Bool) (rests : Rests) : Type 0 where
  pub fixed : rests.fixed ≡ longest
  pub crowded : rests.crowded ≡ is_crowded

-- a rest is told, none in haste, and counted in the cycle under way
pub record Tells (moment : ℕ) (old new : Rests) (rest : Rest) : Type 0 where
  pub silences : new.silences ≡ old.silences
  pub progress : new.progress ≡ old.progress
  pub settings : HasSettings old.fixed old.crowded new
  pub haste : new.haste ≡ haste_after old.progress.ended old.haste
  pub times : (cycles : Cycles) × TimesCycle old.progress.ended moment old.cycles cycles
      × MatchBool (nat_lt 0 old.haste) (IsNone rest)
      (IsRest old.fixed old.crowded (late cycles moment) (shown_by old) rest)
      × CountsRest rest.nanoseconds cycles new.cycles
