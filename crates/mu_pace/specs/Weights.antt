-- weight: the most steps from a place of the leader to the next progress, not counting those that
-- copies and joinings pay for.
use Rattle.std.specs.Prelude.{Bool, false, true, ℕ, ◌*◌, ◌+◌, ◌-◌, ◌<◌, ◌≡◌, ◌≤◌}

-- how many replicas and members there are, and how many rows a batch has at most
pub record Sizes : Type 0 where
  pub replicas : ℕ
  pub width : ℕ
  pub members : ℕ

-- there is a replica, and a batch has a row
pub record IsSized (s : Sizes) : Type 0 where
  pub replicas : 1 ≤ s.replicas
  pub width : 1 ≤ s.width

-- which members are brought up: all behind their FUOs, each at one position (of the one in turn,
-- how many lie below it), or the region that joined
pub data Lag : Type 0 where
  Behind : Lag
  Position : ℕ → Lag
  Joined : ℕ → Lag

-- the steps by which a region is brought up: its FUO is raised if the position lies beyond its
-- ring; then a look, an enter and a put for each entry; and at last its FUO is raised
pub data Bringing : Type 0 where
  Widen : Bringing
  Look : Bringing
  Enter : Bringing
  Put : Bringing
  Raise : Bringing
  Fence : Bringing

-- the places of a leader from its first `Min` on, with the region in turn, or with the number of
-- members that are still in turn
pub data Stage : Type 0 where
  ReadMin : ℕ → Stage
  EnterMin : Stage
  PutMin : Stage
  ReadFuo : ℕ → Stage
  Learn : Stage
  Bring : Lag → Bringing → Stage
  LateFence : ℕ → Stage
  LateMin : ℕ → Stage
  LateFuo : ℕ → Stage
  LateEnter : ℕ → Stage
  LatePut : ℕ → Stage
  ReadHead : ℕ → Stage
  LookAt : ℕ → Stage
  Write : ℕ → Stage
  EnterAt : ℕ → Stage
  PutAt : ℕ → Stage
  RaiseAt : ℕ → Stage
  Rest : Stage

-- the weight from the late follower p on: through the heads, the looks and the rows, to the last
-- put
abbrev pub late : Sizes → ℕ → ℕ
late s p = 4 * (s.replicas - p) + s.replicas + 3 * s.members + 12 * s.width

-- the weight of a place at which bringing up begins
abbrev pub lag : Sizes → Lag → ℕ
lag s Lag.Behind = late s 0
lag s (Lag.Position below) = s.replicas + 12 * s.width + 3 * below
lag s (Lag.Joined p) = late s (p + 1)

-- the weight of each step of bringing up: a put is paid for, and so are the three before it
abbrev pub bringing : ℕ → Bringing → ℕ
bringing n Bringing.Widen = n
bringing n Bringing.Look = n - 1
bringing n Bringing.Enter = n - 2
bringing n Bringing.Put = n - 3
bringing n Bringing.Raise = n + 4
bringing n Bringing.Fence = n - 2

-- the weight of a place
abbrev pub weight : Sizes → Stage → ℕ
weight s (Stage.ReadMin p) = (s.replicas - p) + s.members + late s 0 + 1
weight s Stage.EnterMin = s.members + late s 0 + 1
weight s Stage.PutMin = s.members + late s 0
weight s (Stage.ReadFuo k) = k + late s 0
weight s Stage.Learn = late s 0
weight s (Stage.Bring l b) = bringing (lag s l) b
weight s (Stage.LateFence p) = late s p
weight s (Stage.LateMin p) = late s (p + 1) + 3
weight s (Stage.LateFuo p) = late s (p + 1) + 2
weight s (Stage.LateEnter p) = late s (p + 1) + 1
weight s (Stage.LatePut p) = late s (p + 1)
weight s (Stage.ReadHead q) = (s.replicas - q) + 3 * s.members + 12 * s.width
weight s (Stage.LookAt k) = k + 12 * s.width + 2 * s.members
weight s (Stage.Write words) = words + 2 * s.members
weight s (Stage.EnterAt k) = 2 * k
weight s (Stage.PutAt k) = 2 * k - 1
weight s (Stage.RaiseAt k) = k + late s 0
weight s Stage.Rest = 1

-- what the bound allows if nothing is copied
abbrev pub most : Sizes → ℕ
most s = 6 * s.members + 7 * s.replicas + 8 + 12 * s.width

-- the sizes with one more member
abbrev pub joined : Sizes → Sizes
joined s = record { replicas = s.replicas; width = s.width; members = s.members + 1 }

-- bringing up a region begins with this step
abbrev pub is_first : Bringing → Bool
is_first Bringing.Widen = true
is_first Bringing.Look = true
is_first _ = false

-- the places once late followers are done: heads, looks, or nothing
pub data AtRoom (s : Sizes) : Stage → Type 0 where
  heads : (q : ℕ) → q < s.replicas → AtRoom s (Stage.ReadHead q)
  looks : (k : ℕ) → k ≤ s.members → AtRoom s (Stage.LookAt k)
  rests : AtRoom s Stage.Rest

-- the places once the regions below p are done
pub data From (s : Sizes) (p : ℕ) : Stage → Type 0 where
  asks : (q : ℕ) → p ≤ q → q < s.replicas → From s p (Stage.LateFence q)
  beyond : (t : Stage) → p ≤ s.replicas → AtRoom s t → From s p t

-- the place that follows another by a step that nothing pays for
pub data GoesOn (s : Sizes) : Stage → Stage → Type 0 where
  next_min : (p q : ℕ) → p < q → q < s.replicas → GoesOn s (Stage.ReadMin p) (Stage.ReadMin q)
  last_min : (p : ℕ) → p < s.replicas → GoesOn s (Stage.ReadMin p) Stage.EnterMin
  entered_min : GoesOn s Stage.EnterMin Stage.PutMin
  next_fuo : (k j : ℕ) → j < k → GoesOn s (Stage.ReadFuo k) (Stage.ReadFuo j)
  learns : (k : ℕ) → 1 ≤ k → GoesOn s (Stage.ReadFuo k) Stage.Learn
  brings :
      (k : ℕ) (b : Bringing) → 1 ≤ k → is_first b ≡ true
      → GoesOn s (Stage.ReadFuo k) (Stage.Bring Lag.Behind b)
  level : (k : ℕ) (t : Stage) → 1 ≤ k → From s 0 t → GoesOn s (Stage.ReadFuo k) t
  widened : (l : Lag) → GoesOn s (Stage.Bring l Bringing.Widen) (Stage.Bring l Bringing.Look)
  looked : (l : Lag) → GoesOn s (Stage.Bring l Bringing.Look) (Stage.Bring l Bringing.Enter)
  looked_past : (l : Lag) → GoesOn s (Stage.Bring l Bringing.Look) (Stage.Bring l Bringing.Fence)
  entered : (l : Lag) → GoesOn s (Stage.Bring l Bringing.Enter) (Stage.Bring l Bringing.Put)
  next_behind :
      (b : Bringing) → is_first b ≡ true
      → GoesOn s (Stage.Bring Lag.Behind Bringing.Raise) (Stage.Bring Lag.Behind b)
  all_brought : (t : Stage) → From s 0 t → GoesOn s (Stage.Bring Lag.Behind Bringing.Raise) t
  next_position :
      (below : ℕ) (b : Bringing) → is_first b ≡ true
      → GoesOn s (Stage.Bring (Lag.Position below) Bringing.Raise)
      (Stage.Bring (Lag.Position (below + 1)) b)
  last_position :
      (below : ℕ) (t : Stage) → below + 1 ≡ s.members → AtRoom s t
      → GoesOn s (Stage.Bring (Lag.Position below) Bringing.Raise) t
  brought_joined :
      (p : ℕ) (t : Stage) → From s (p + 1) t
      → GoesOn s (Stage.Bring (Lag.Joined p) Bringing.Raise) t
  welcomed : (p : ℕ) → p < s.replicas → GoesOn s (Stage.LateFence p) (Stage.LateMin p)
  passed : (p : ℕ) (t : Stage) → p < s.replicas → From s (p + 1) t → GoesOn s (Stage.LateFence p) t
  late_min : (p : ℕ) → GoesOn s (Stage.LateMin p) (Stage.LateFuo p)
  late_fuo : (p : ℕ) → GoesOn s (Stage.LateFuo p) (Stage.LateEnter p)
  ahead : (p : ℕ) (t : Stage) → From s (p + 1) t → GoesOn s (Stage.LateFuo p) t
  late_enter : (p : ℕ) → GoesOn s (Stage.LateEnter p) (Stage.LatePut p)
  next_head : (p q : ℕ) → p < q → q < s.replicas → GoesOn s (Stage.ReadHead p) (Stage.ReadHead q)
  last_head :
      (p k : ℕ) → p < s.replicas → k ≤ s.members → GoesOn s (Stage.ReadHead p) (Stage.LookAt k)
  outrun_learning : GoesOn s Stage.Learn Stage.Rest
  outrun_looking : (k : ℕ) → 1 ≤ k → GoesOn s (Stage.LookAt k) Stage.Rest
  next_look : (k j : ℕ) → j < k → GoesOn s (Stage.LookAt k) (Stage.LookAt j)
  writes :
      (k words : ℕ) → 1 ≤ k → words ≤ 12 * s.width → GoesOn s (Stage.LookAt k) (Stage.Write words)
  picks : (k j : ℕ) → 1 ≤ k → j ≤ s.members → GoesOn s (Stage.LookAt k) (Stage.EnterAt j)
  next_word : (words : ℕ) → GoesOn s (Stage.Write (words + 1)) (Stage.Write words)
  last_word :
      (words k : ℕ) → 1 ≤ words → k ≤ s.members → GoesOn s (Stage.Write words) (Stage.EnterAt k)
  entered_slot : (k : ℕ) → 1 ≤ k → GoesOn s (Stage.EnterAt k) (Stage.PutAt k)
  next_put : (k j : ℕ) → j < k → GoesOn s (Stage.PutAt k) (Stage.EnterAt j)
  next_raise : (k j : ℕ) → j < k → GoesOn s (Stage.RaiseAt k) (Stage.RaiseAt j)
  last_raise : (k : ℕ) (t : Stage) → 1 ≤ k → From s 0 t → GoesOn s (Stage.RaiseAt k) t

-- the place that follows another by a step that learns or copies an entry
pub data Copies (s : Sizes) : Stage → Stage → Type 0 where
  learnt : Copies s Stage.Learn Stage.Learn
  learnt_all : (b : Bringing) → is_first b ≡ true → Copies s Stage.Learn (Stage.Bring Lag.Behind b)
  learnt_level : (t : Stage) → From s 0 t → Copies s Stage.Learn t
  learnt_here :
      (k : ℕ) (b : Bringing) → 1 ≤ k → s.replicas < 2 * s.members → is_first b ≡ true
      → Copies s (Stage.LookAt k) (Stage.Bring (Lag.Position 0) b)
  copied :
      (l : Lag) (b : Bringing) → is_first b ≡ true
      → Copies s (Stage.Bring l Bringing.Put) (Stage.Bring l b)
  copied_last : (l : Lag) → Copies s (Stage.Bring l Bringing.Put) (Stage.Bring l Bringing.Raise)

-- the place that follows another by a step by which a region becomes a member
pub data Joins (s : Sizes) : Stage → Stage → Type 0 where
  next_join : Joins s Stage.PutMin Stage.EnterMin
  last_join : (k : ℕ) → k ≤ s.members + 1 → Joins s Stage.PutMin (Stage.ReadFuo k)
  joins_behind :
      (p : ℕ) (b : Bringing) → is_first b ≡ true
      → Joins s (Stage.LatePut p) (Stage.Bring (Lag.Joined p) b)
  joins_level : (p : ℕ) (t : Stage) → From (joined s) (p + 1) t → Joins s (Stage.LatePut p) t

-- the places within their ranges
pub data IsPlace (s : Sizes) : Stage → Type 0 where
  at_min : (p : ℕ) → IsPlace s (Stage.ReadMin p)
  at_entering : IsPlace s Stage.EnterMin
  at_number : IsPlace s Stage.PutMin
  at_fuo : (k : ℕ) → k ≤ s.members → IsPlace s (Stage.ReadFuo k)
  at_learning : IsPlace s Stage.Learn
  at_behind : (b : Bringing) → IsPlace s (Stage.Bring Lag.Behind b)
  at_position :
      (below : ℕ) (b : Bringing) → below < s.members
      → IsPlace s (Stage.Bring (Lag.Position below) b)
  at_joined : (p : ℕ) (b : Bringing) → p < s.replicas → IsPlace s (Stage.Bring (Lag.Joined p) b)
  at_late_fence : (p : ℕ) → IsPlace s (Stage.LateFence p)
  at_late_min : (p : ℕ) → p < s.replicas → IsPlace s (Stage.LateMin p)
  at_late_fuo : (p : ℕ) → p < s.replicas → IsPlace s (Stage.LateFuo p)
  at_late_enter : (p : ℕ) → p < s.replicas → IsPlace s (Stage.LateEnter p)
  at_late_put : (p : ℕ) → p < s.replicas → IsPlace s (Stage.LatePut p)
  at_head : (q : ℕ) → IsPlace s (Stage.ReadHead q)
  at_look : (k : ℕ) → k ≤ s.members → IsPlace s (Stage.LookAt k)
  at_writing : (words : ℕ) → 1 ≤ words → words ≤ 12 * s.width → IsPlace s (Stage.Write words)
  at_slot : (k : ℕ) → 1 ≤ k → k ≤ s.members → IsPlace s (Stage.EnterAt k)
  at_put : (k : ℕ) → 1 ≤ k → k ≤ s.members → IsPlace s (Stage.PutAt k)
  at_raise : (k : ℕ) → k ≤ s.members → IsPlace s (Stage.RaiseAt k)
  at_rest : IsPlace s Stage.Rest

-- a step that nothing pays for leads to a lighter place, one that copies or learns to one that is
-- heavier by at most seven, and one by which a region joins by at most five; each place weighs
-- something, and no more than the bound allows
pub record WeightsFall : Type 0 where
  pub goes_on : (s : Sizes) (t u : Stage) → IsSized s → GoesOn s t u → weight s u + 1 ≤ weight s t
  pub copies : (s : Sizes) (t u : Stage) → IsSized s → Copies s t u → weight s u ≤ weight s t + 7
  pub joins :
      (s : Sizes) (t u : Stage) → IsSized s → Joins s t u → weight (joined s) u ≤ weight s t + 5
  pub heavy : (s : Sizes) (t : Stage) → IsSized s → IsPlace s t → 1 ≤ weight s t
  pub light : (s : Sizes) (t : Stage) → IsSized s → IsPlace s t → weight s t ≤ most s
