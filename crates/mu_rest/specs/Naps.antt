-- naps: for how many nanoseconds to rest after a step, and whether asleep.
use Rattle.std.specs.Prelude.{Bool, false, true, if◌then◌else◌, max, min, nat_le, nat_lt, not, ℕ, ◌&&◌, ◌*◌, ◌-◌, ◌/◌, ◌<◌, ◌==◌, ◌^◌, ◌≡◌, ◌≤◌}
use Rattle.mu_rest.specs.declared.naps.Rest.{Rest}
use Rattle.mu_rest.specs.declared.naps.Shown.{Shown}

-- a rest for a silence, if nothing shortens it: four microseconds for each of the first three
-- silent reads, and four times as many with each from there on; none once the other counts as
-- failed
pub record IsSilenceNap (silence nanoseconds : ℕ) : Type 0 where
  pub none : silence ≡ 0 → nanoseconds ≡ 0
  pub first : 1 ≤ silence → silence ≤ 3 → nanoseconds ≡ 4_000
  pub grows : 4 ≤ silence → silence ≤ 8 → nanoseconds ≡ 4_000 * 4 ^ (silence - 3)
  pub steady : 9 ≤ silence → silence ≤ 14 → nanoseconds ≡ 8_192_000
  pub failed : 14 < silence → nanoseconds ≡ 0

-- a rest after cycles in which nothing was done: from the fourth on 16 microseconds, and four times
-- as many with each, up to 1,024; from the eighth on 2,048
pub record IsIdleNap (cycles nanoseconds : ℕ) : Type 0 where
  pub early : cycles < 4 → nanoseconds ≡ 0
  pub grows : 4 ≤ cycles → cycles ≤ 7 → nanoseconds ≡ 16_000 * 4 ^ (cycles - 4)
  pub steady : 8 ≤ cycles → nanoseconds ≡ 2_048_000

-- processors are scarce if a cycle of late took more than a millisecond
abbrev pub are_scarce : ℕ → Bool
are_scarce late = nat_lt 1_000_000 late

-- the longest rest for a silence: the fourth part of what the longest cycle of late took, from 4 to
-- 8,192 microseconds
abbrev pub longest_by : ℕ → ℕ
longest_by late = max 4_000 (min 8_192_000 (late / 4))

-- or the one that is fixed, if one is
abbrev pub longest : ℕ → ℕ → ℕ
longest fixed late = if fixed == 0 then longest_by late else fixed

-- the cycles in a row that count: if processors are scarce those in which nothing got done, else
-- those in which nothing was changed either, from the 248th on, since who naps may be held failed
abbrev pub cycles_counted : Shown → ℕ → ℕ
cycles_counted shown late = if are_scarce late then min 8 shown.idle else shown.quiet - 248

-- so many nanoseconds are a rest after a step that shows this: for cycles, if it ended one, else
-- for a silence
pub record IsNap (fixed late : ℕ) (shown : Shown) (nanoseconds : ℕ) : Type 0 where
  pub idle : shown.ended ≡ true → (wanted : ℕ) × IsIdleNap (cycles_counted shown late) wanted
      × (nanoseconds ≡ (if fixed == 0 then wanted else min fixed wanted))
  pub silent : shown.ended ≡ false → (wanted : ℕ) × IsSilenceNap shown.silence wanted
      × (nanoseconds ≡ min (longest fixed late) wanted)

-- a rest is spent awake if it is short, each replica has a processor, and none was scarce of late:
-- a sleep takes longer than asked
abbrev pub is_awake : Bool → ℕ → ℕ → Bool
is_awake crowded late nanoseconds =
    not crowded && not (are_scarce late) && nat_le nanoseconds 50_000

-- this is the rest
pub record IsRest (fixed : ℕ) (crowded : Bool) (late : ℕ) (shown : Shown) (rest : Rest) :
    Type 0 where
  pub nap : IsNap fixed late shown rest.nanoseconds
  pub awake : rest.awake ≡ is_awake crowded late rest.nanoseconds
