-- asking weight: the most steps from a place of the leader to the next read of a late follower's
-- fence.
use Rattle.std.specs.Prelude.{Bool, false, if◌then◌else◌, nat_le, nat_lt, true, ℕ, ◌*◌, ◌+◌, ◌-◌, ◌<◌, ◌≡◌, ◌≤◌}
use Rattle.mu_pace.specs.Weights.{Bringing, Copies, GoesOn, IsPlace, IsSized, Joins, Lag, Sizes, Stage, is_first, joined, most, weight}

-- from a commit on: the FUO of each member, and the late followers up to p
abbrev pub around : Sizes → ℕ → ℕ
around s p = s.members + 4 * p + 2

-- the steps by which a late follower below p is brought up, if n steps are left for the others up
-- to p
abbrev pub near_bringing : ℕ → Bringing → ℕ
near_bringing n Bringing.Widen = n + 2
near_bringing n Bringing.Look = n + 1
near_bringing n Bringing.Enter = n
near_bringing n Bringing.Put = n - 1
near_bringing n Bringing.Raise = n - 1
near_bringing n Bringing.Fence = n

-- the weight of a place: among the late followers below p what leads to p, from a commit on the way
-- to them, and else the way to the commit and on; one more step is kept for a put that misses or a
-- look that is past, since neither is what is waited for
abbrev pub asking : Sizes → ℕ → Stage → ℕ
asking s p (Stage.LateFence q) =
    if nat_le q p then 4 * (p - q) + 2 else weight s (Stage.LateFence q) + around s p
asking s p (Stage.LateMin q) =
    if nat_lt q p then 4 * (p - q) + 1 else weight s (Stage.LateMin q) + around s p
asking s p (Stage.LateFuo q) =
    if nat_lt q p then 4 * (p - q) else weight s (Stage.LateFuo q) + around s p
asking s p (Stage.LateEnter q) =
    if nat_lt q p then 4 * (p - q) - 1 else weight s (Stage.LateEnter q) + around s p
asking s p (Stage.LatePut q) =
    if nat_lt q p then 4 * (p - q) - 2 else weight s (Stage.LatePut q) + around s p
asking s p (Stage.Bring (Lag.Joined q) b) =
    if nat_lt q p then near_bringing (4 * (p - q)) b
    else weight s (Stage.Bring (Lag.Joined q) b) + around s p
asking s p (Stage.RaiseAt k) = k + 4 * p + 2
asking s p t = weight s t + around s p

-- the place isn't among the late followers up to p, nor between a commit and them
abbrev pub is_far : ℕ → Stage → Bool
is_far p (Stage.LateFence q) = nat_lt p q
is_far p (Stage.LateMin q) = nat_le p q
is_far p (Stage.LateFuo q) = nat_le p q
is_far p (Stage.LateEnter q) = nat_le p q
is_far p (Stage.LatePut q) = nat_le p q
is_far p (Stage.Bring (Lag.Joined q) b) = nat_le p q
is_far p (Stage.RaiseAt k) = false
is_far p t = true

-- the place that follows another by a step that nothing pays for, if p is a late follower and its
-- fence isn't read
pub data AsksOn (s : Sizes) (p : ℕ) : Stage → Stage → Type 0 where
  far : (t u : Stage) → GoesOn s t u → is_far p t ≡ true → is_far p u ≡ true → AsksOn s p t u
  turns :
      (t : Stage) (q : ℕ) → is_far p t ≡ true → 1 ≤ weight s t → q ≤ p
      → AsksOn s p t (Stage.LateFence q)
  commits : (k j : ℕ) → 1 ≤ k → j ≤ s.members → AsksOn s p (Stage.PutAt k) (Stage.RaiseAt j)
  raises : (k j : ℕ) → j < k → AsksOn s p (Stage.RaiseAt k) (Stage.RaiseAt j)
  raised : (k q : ℕ) → 1 ≤ k → q ≤ p → AsksOn s p (Stage.RaiseAt k) (Stage.LateFence q)
  near_welcomed : (q : ℕ) → q < p → AsksOn s p (Stage.LateFence q) (Stage.LateMin q)
  near_passed : (q u : ℕ) → q < u → u ≤ p → AsksOn s p (Stage.LateFence q) (Stage.LateFence u)
  near_min : (q : ℕ) → q < p → AsksOn s p (Stage.LateMin q) (Stage.LateFuo q)
  near_fuo : (q : ℕ) → q < p → AsksOn s p (Stage.LateFuo q) (Stage.LateEnter q)
  near_ahead : (q u : ℕ) → q < u → u ≤ p → AsksOn s p (Stage.LateFuo q) (Stage.LateFence u)
  near_enter : (q : ℕ) → q < p → AsksOn s p (Stage.LateEnter q) (Stage.LatePut q)
  near_widened :
      (q : ℕ) → q < p
      → AsksOn s p (Stage.Bring (Lag.Joined q) Bringing.Widen)
      (Stage.Bring (Lag.Joined q) Bringing.Look)
  near_looked :
      (q : ℕ) → q < p
      → AsksOn s p (Stage.Bring (Lag.Joined q) Bringing.Look)
      (Stage.Bring (Lag.Joined q) Bringing.Enter)
  near_past :
      (q : ℕ) → q < p
      → AsksOn s p (Stage.Bring (Lag.Joined q) Bringing.Look)
      (Stage.Bring (Lag.Joined q) Bringing.Fence)
  near_entered :
      (q : ℕ) → q < p
      → AsksOn s p (Stage.Bring (Lag.Joined q) Bringing.Enter)
      (Stage.Bring (Lag.Joined q) Bringing.Put)
  near_brought :
      (q u : ℕ) → q < u → u ≤ p
      → AsksOn s p (Stage.Bring (Lag.Joined q) Bringing.Raise) (Stage.LateFence u)

-- the same by a step that learns or copies an entry
pub data AsksCopying (s : Sizes) (p : ℕ) : Stage → Stage → Type 0 where
  far_copy :
      (t u : Stage) → Copies s t u → is_far p t ≡ true → is_far p u ≡ true → AsksCopying s p t u
  turns_copying :
      (t : Stage) (q : ℕ) → is_far p t ≡ true → q ≤ p → AsksCopying s p t (Stage.LateFence q)
  near_copied :
      (q : ℕ) (b : Bringing) → q < p → is_first b ≡ true
      → AsksCopying s p (Stage.Bring (Lag.Joined q) Bringing.Put) (Stage.Bring (Lag.Joined q) b)
  near_last :
      (q : ℕ) → q < p
      → AsksCopying s p (Stage.Bring (Lag.Joined q) Bringing.Put)
      (Stage.Bring (Lag.Joined q) Bringing.Raise)

-- and by one through which another region becomes a member
pub data AsksJoining (s : Sizes) (p : ℕ) : Stage → Stage → Type 0 where
  far_join :
      (t u : Stage) → Joins s t u → is_far p t ≡ true → is_far p u ≡ true → AsksJoining s p t u
  turns_joining :
      (t : Stage) (q : ℕ) → is_far p t ≡ true → q ≤ p → AsksJoining s p t (Stage.LateFence q)
  near_joined :
      (q : ℕ) (b : Bringing) → q < p → is_first b ≡ true
      → AsksJoining s p (Stage.LatePut q) (Stage.Bring (Lag.Joined q) b)
  near_level : (q u : ℕ) → q < u → u ≤ p → AsksJoining s p (Stage.LatePut q) (Stage.LateFence u)

-- the late follower's weights fall too, if copies pay for sixteen and joinings for twelve, and none
-- is above twice the bound or lacks the step that is kept
pub record AskingFalls : Type 0 where
  pub goes_on :
      (s : Sizes) (p : ℕ) (t u : Stage) → IsSized s → AsksOn s p t u
      → asking s p u + 1 ≤ asking s p t
  pub copies :
      (s : Sizes) (p : ℕ) (t u : Stage) → IsSized s → AsksCopying s p t u
      → asking s p u ≤ asking s p t + 15
  pub joins :
      (s : Sizes) (p : ℕ) (t u : Stage) → IsSized s → AsksJoining s p t u
      → asking (joined s) p u ≤ asking s p t + 11
  pub heavy :
      (s : Sizes) (p : ℕ) (t : Stage) → IsSized s → p < s.replicas → IsPlace s t → 2 ≤ asking s p t
  pub light :
      (s : Sizes) (p : ℕ) (t : Stage) → IsSized s → p < s.replicas → IsPlace s t
      → asking s p t ≤ 2 * most s
