-- late: what the longest cycle of late took, in nanoseconds. It is forgotten bit by bit, whole in
-- sixty-four times that time.
use Rattle.std.specs.Prelude.{if◌then◌else◌, max, min, nat_lt, ℕ, ◌+◌, ◌*◌, ◌-◌, ◌/◌, ◌^◌, ◌≡◌}
use Rattle.mu_rest.specs.declared.cycles.Cycles.{Cycles}

-- what a cycle took that began at one moment and ends at another, without the rests in it; no more
-- than a second counts
abbrev pub time_taken : ℕ → ℕ → ℕ → ℕ
time_taken began ends rested = min 1_000_000_000 (ends - began - rested)

-- when it is forgotten that a cycle took so long
abbrev pub forgotten_at : ℕ → ℕ → ℕ
forgotten_at ended took = min (ended + 64 * took) (2 ^ 64 - 1)

-- what a cycle is taken to have taken before the first: some time slices of others, if more wants
-- to run than there are processors
abbrev pub taken_before : ℕ → ℕ → ℕ
taken_before running processors = if nat_lt processors running then 16_000_000 else 0

-- the first cycle begins
pub record BeginsAmong (moment running processors : ℕ) (cycles : Cycles) : Type 0 where
  pub began : cycles.began ≡ moment
  pub rested : cycles.rested ≡ 0
  pub forgotten : cycles.forgotten ≡ forgotten_at moment (taken_before running processors)

-- what is left of it at a moment
abbrev pub late : Cycles → ℕ → ℕ
late cycles moment = (cycles.forgotten - moment) / 64

-- a new cycle begins
pub record BeginsCycle (moment : ℕ) (old new : Cycles) : Type 0 where
  pub began : new.began ≡ moment
  pub rested : new.rested ≡ 0
  pub forgotten : new.forgotten ≡ old.forgotten

-- a cycle ends, and a new one begins
pub record EndsCycle (moment : ℕ) (old new : Cycles) : Type 0 where
  pub began : new.began ≡ moment
  pub rested : new.rested ≡ 0
  pub forgotten : new.forgotten
      ≡ max old.forgotten (forgotten_at moment (time_taken old.began moment old.rested))

-- a rest is counted in the cycle
abbrev pub CountsRest : ℕ → Cycles → Cycles → Type 0
CountsRest rest old new = new ≡ record old { rested = min (old.rested + rest) (2 ^ 64 - 1) }
