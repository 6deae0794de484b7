-- The weights for a late follower fall.
use Rattle.std.proofs.Common.{◌≡◌, ℕ, ◌+◌, ◌-◌, ◌*◌, ◌<◌, ◌≤◌, Bool, true, false, refl, sym, arith, true≢false}
use Rattle.std.specs.Prelude.{if◌then◌else◌, nat_le, nat_lt}
use Rattle.std.proofs.lemmas.Bool.{le-leb, leb-true, lt-leb, lt-ltb, ltb-true}
use Rattle.mu_pace.specs.Asking.{AskingFalls, AsksCopying, AsksJoining, AsksOn, around, asking, is_far, near_bringing, far, turns, commits, raises, raised, near_welcomed, near_passed, near_min, near_fuo, near_ahead, near_enter, near_widened, near_looked, near_past, near_entered, near_brought, far_copy, turns_copying, near_copied, near_last, far_join, turns_joining, near_joined, near_level}
use Rattle.mu_pace.specs.Weights.{Bringing, IsPlace, IsSized, Lag, Sizes, Stage, is_first, joined, most, weight, at_min, at_entering, at_number, at_fuo, at_learning, at_behind, at_position, at_joined, at_late_fence, at_late_min, at_late_fuo, at_late_enter, at_late_put, at_head, at_look, at_writing, at_slot, at_put, at_raise, at_rest}
use Rattle.mu_pace.proofs.Weights.{weights_fall}

chosen : (t : Bool) (a b : ℕ) → t ≡ true → (if t then a else b) ≡ a
chosen true a b h = refl
chosen false a b h = absurd (true≢false (sym h))

other : (t : Bool) (a b : ℕ) → t ≡ false → (if t then a else b) ≡ b
other true a b h = absurd (true≢false h)
other false a b h = refl

-- if p isn't below q, as the tests say it
not_below : (p q : ℕ) → nat_le p q ≡ true → nat_lt q p ≡ false
not_below p q h = go (nat_lt q p) refl
  where
    go : (t : Bool) → nat_lt q p ≡ t → t ≡ false
    go true k = absurd (let a = ltb-true q p k in let b = leb-true p q h in omega arith)
    go false k = refl

above : (p q : ℕ) → nat_lt p q ≡ true → nat_le q p ≡ false
above p q h = lt-leb q p (ltb-true p q h)

-- far from p a place weighs what leads to the commit and on
far_weight : (s : Sizes) (p : ℕ) (t : Stage) → is_far p t ≡ true → asking s p t ≡ weight s t + around s p
far_weight s p (Stage.LateFence q) h = other (nat_le q p) (4 * (p - q) + 2) (weight s (Stage.LateFence q) + around s p) (above p q h)
far_weight s p (Stage.LateMin q) h = other (nat_lt q p) (4 * (p - q) + 1) (weight s (Stage.LateMin q) + around s p) (not_below p q h)
far_weight s p (Stage.LateFuo q) h = other (nat_lt q p) (4 * (p - q)) (weight s (Stage.LateFuo q) + around s p) (not_below p q h)
far_weight s p (Stage.LateEnter q) h = other (nat_lt q p) (4 * (p - q) - 1) (weight s (Stage.LateEnter q) + around s p) (not_below p q h)
far_weight s p (Stage.LatePut q) h = other (nat_lt q p) (4 * (p - q) - 2) (weight s (Stage.LatePut q) + around s p) (not_below p q h)
far_weight s p (Stage.Bring (Lag.Joined q) b) h = other (nat_lt q p) (near_bringing (4 * (p - q)) b) (weight s (Stage.Bring (Lag.Joined q) b) + around s p) (not_below p q h)
far_weight s p (Stage.RaiseAt k) h = absurd (true≢false (sym h))
far_weight s p t h = refl

-- near p
near_fence : (s : Sizes) (p q : ℕ) → q ≤ p → asking s p (Stage.LateFence q) ≡ 4 * (p - q) + 2
near_fence s p q l = chosen (nat_le q p) (4 * (p - q) + 2) (weight s (Stage.LateFence q) + around s p) (le-leb q p l)

near : (p q a b : ℕ) → q < p → (if nat_lt q p then a else b) ≡ a
near p q a b l = chosen (nat_lt q p) a b (lt-ltb q p l)

first_near : (n : ℕ) (b : Bringing) → is_first b ≡ true → near_bringing n b ≤ n + 2
first_near n Bringing.Widen h = omega arith
first_near n Bringing.Look h = omega arith
first_near n Bringing.Enter h = absurd (true≢false (sym h))
first_near n Bringing.Put h = absurd (true≢false (sym h))
first_near n Bringing.Raise h = absurd (true≢false (sym h))
first_near n Bringing.Fence h = absurd (true≢false (sym h))

goes_on : (s : Sizes) (p : ℕ) (t u : Stage) → IsSized s → AsksOn s p t u → asking s p u + 1 ≤ asking s p t
goes_on s p t u z (far _ _ g a b) = let x = far_weight s p t a in let y = far_weight s p u b in let k = weights_fall.goes_on s t u z g in omega arith
goes_on s p t u z (turns _ q a l m) = let x = far_weight s p t a in let y = near_fence s p q m in omega arith
goes_on s p t u z (commits k j l m) = omega arith
goes_on s p t u z (raises k j l) = omega arith
goes_on s p t u z (raised k q l m) = let y = near_fence s p q m in omega arith
goes_on s p t u z (near_welcomed q l) = let x = near_fence s p q (omega arith) in let y = near p q (4 * (p - q) + 1) (weight s (Stage.LateMin q) + around s p) l in omega arith
goes_on s p t u z (near_passed q v l m) = let x = near_fence s p q (omega arith) in let y = near_fence s p v m in omega arith
goes_on s p t u z (near_min q l) = let x = near p q (4 * (p - q) + 1) (weight s (Stage.LateMin q) + around s p) l in let y = near p q (4 * (p - q)) (weight s (Stage.LateFuo q) + around s p) l in omega arith
goes_on s p t u z (near_fuo q l) = let x = near p q (4 * (p - q)) (weight s (Stage.LateFuo q) + around s p) l in let y = near p q (4 * (p - q) - 1) (weight s (Stage.LateEnter q) + around s p) l in omega arith
goes_on s p t u z (near_ahead q v l m) = let x = near p q (4 * (p - q)) (weight s (Stage.LateFuo q) + around s p) (omega arith) in let y = near_fence s p v m in omega arith
goes_on s p t u z (near_enter q l) = let x = near p q (4 * (p - q) - 1) (weight s (Stage.LateEnter q) + around s p) l in let y = near p q (4 * (p - q) - 2) (weight s (Stage.LatePut q) + around s p) l in omega arith
goes_on s p t u z (near_widened q l) = let x = near p q (4 * (p - q) + 2) (weight s (Stage.Bring (Lag.Joined q) Bringing.Widen) + around s p) l in let y = near p q (4 * (p - q) + 1) (weight s (Stage.Bring (Lag.Joined q) Bringing.Look) + around s p) l in omega arith
goes_on s p t u z (near_looked q l) = let x = near p q (4 * (p - q) + 1) (weight s (Stage.Bring (Lag.Joined q) Bringing.Look) + around s p) l in let y = near p q (4 * (p - q)) (weight s (Stage.Bring (Lag.Joined q) Bringing.Enter) + around s p) l in omega arith
goes_on s p t u z (near_past q l) = let x = near p q (4 * (p - q) + 1) (weight s (Stage.Bring (Lag.Joined q) Bringing.Look) + around s p) l in let y = near p q (4 * (p - q)) (weight s (Stage.Bring (Lag.Joined q) Bringing.Fence) + around s p) l in omega arith
goes_on s p t u z (near_entered q l) = let x = near p q (4 * (p - q)) (weight s (Stage.Bring (Lag.Joined q) Bringing.Enter) + around s p) l in let y = near p q (4 * (p - q) - 1) (weight s (Stage.Bring (Lag.Joined q) Bringing.Put) + around s p) l in omega arith
goes_on s p t u z (near_brought q v l m) = let x = near p q (4 * (p - q) - 1) (weight s (Stage.Bring (Lag.Joined q) Bringing.Raise) + around s p) (omega arith) in let y = near_fence s p v m in omega arith

copies : (s : Sizes) (p : ℕ) (t u : Stage) → IsSized s → AsksCopying s p t u → asking s p u ≤ asking s p t + 15
copies s p t u z (far_copy _ _ g a b) = let x = far_weight s p t a in let y = far_weight s p u b in let k = weights_fall.copies s t u z g in omega arith
copies s p t u z (turns_copying _ q a m) = let x = far_weight s p t a in let y = near_fence s p q m in omega arith
copies s p t u z (near_copied q b l f) =
    let x = near p q (4 * (p - q) - 1) (weight s (Stage.Bring (Lag.Joined q) Bringing.Put) + around s p) l in
    let y = near p q (near_bringing (4 * (p - q)) b) (weight s (Stage.Bring (Lag.Joined q) b) + around s p) l in let k = first_near (4 * (p - q)) b f in omega arith
copies s p t u z (near_last q l) =
    let x = near p q (4 * (p - q) - 1) (weight s (Stage.Bring (Lag.Joined q) Bringing.Put) + around s p) l in
    let y = near p q (4 * (p - q) - 1) (weight s (Stage.Bring (Lag.Joined q) Bringing.Raise) + around s p) l in omega arith

joins : (s : Sizes) (p : ℕ) (t u : Stage) → IsSized s → AsksJoining s p t u → asking (joined s) p u ≤ asking s p t + 11
joins s p t u z (far_join _ _ g a b) = let x = far_weight s p t a in let y = far_weight (joined s) p u b in let k = weights_fall.joins s t u z g in omega arith
joins s p t u z (turns_joining _ q a m) = let x = far_weight s p t a in let y = near_fence (joined s) p q m in omega arith
joins s p t u z (near_joined q b l f) =
    let x = near p q (4 * (p - q) - 2) (weight s (Stage.LatePut q) + around s p) l in
    let y = near p q (near_bringing (4 * (p - q)) b) (weight (joined s) (Stage.Bring (Lag.Joined q) b) + around (joined s) p) l in let k = first_near (4 * (p - q)) b f in omega arith
joins s p t u z (near_level q v l m) = let x = near p q (4 * (p - q) - 2) (weight s (Stage.LatePut q) + around s p) (omega arith) in let y = near_fence (joined s) p v m in omega arith

-- a choice by a test lies if both of its sides do
both_sides : (t : Bool) (a b low high : ℕ) → (t ≡ true → (low ≤ a) × (a ≤ high)) → (low ≤ b) × (b ≤ high) → (low ≤ (if t then a else b)) × ((if t then a else b) ≤ high)
both_sides true a b low high f g = f refl
both_sides false a b low high f g = g

near_between : (n p q : ℕ) (b : Bringing) → p < n → q < p → (2 ≤ near_bringing (4 * (p - q)) b) × (near_bringing (4 * (p - q)) b ≤ 4 * n + 2)
near_between n p q Bringing.Widen l m = (omega arith, omega arith)
near_between n p q Bringing.Look l m = (omega arith, omega arith)
near_between n p q Bringing.Enter l m = (omega arith, omega arith)
near_between n p q Bringing.Put l m = (omega arith, omega arith)
near_between n p q Bringing.Raise l m = (omega arith, omega arith)
near_between n p q Bringing.Fence l m = (omega arith, omega arith)

far_between : (s : Sizes) (p : ℕ) (t : Stage) → IsSized s → p < s.replicas → IsPlace s t → (2 ≤ weight s t + around s p) × (weight s t + around s p ≤ 2 * most s)
far_between s p t z l i = let a = weights_fall.light s t z i in (omega arith, omega arith)

below_most : (s : Sizes) (n : ℕ) → 2 ≤ n → n ≤ 4 * s.replicas + 2 → (2 ≤ n) × (n ≤ 2 * most s)
below_most s n l m = (l, omega arith)

between : (s : Sizes) (p : ℕ) (t : Stage) → IsSized s → p < s.replicas → IsPlace s t → (2 ≤ asking s p t) × (asking s p t ≤ 2 * most s)
between s p t z l (at_late_fence q) = both_sides (nat_le q p) (4 * (p - q) + 2) (weight s (Stage.LateFence q) + around s p) 2 (2 * most s) (λ h. below_most s (4 * (p - q) + 2) (omega arith) (omega arith)) (far_between s p t z l (at_late_fence q))
between s p t z l (at_late_min q m) = both_sides (nat_lt q p) (4 * (p - q) + 1) (weight s (Stage.LateMin q) + around s p) 2 (2 * most s) (λ h. let k = ltb-true q p h in below_most s (4 * (p - q) + 1) (omega arith) (omega arith)) (far_between s p t z l (at_late_min q m))
between s p t z l (at_late_fuo q m) = both_sides (nat_lt q p) (4 * (p - q)) (weight s (Stage.LateFuo q) + around s p) 2 (2 * most s) (λ h. let k = ltb-true q p h in below_most s (4 * (p - q)) (omega arith) (omega arith)) (far_between s p t z l (at_late_fuo q m))
between s p t z l (at_late_enter q m) = both_sides (nat_lt q p) (4 * (p - q) - 1) (weight s (Stage.LateEnter q) + around s p) 2 (2 * most s) (λ h. let k = ltb-true q p h in below_most s (4 * (p - q) - 1) (omega arith) (omega arith)) (far_between s p t z l (at_late_enter q m))
between s p t z l (at_late_put q m) = both_sides (nat_lt q p) (4 * (p - q) - 2) (weight s (Stage.LatePut q) + around s p) 2 (2 * most s) (λ h. let k = ltb-true q p h in below_most s (4 * (p - q) - 2) (omega arith) (omega arith)) (far_between s p t z l (at_late_put q m))
between s p t z l (at_joined q b m) = both_sides (nat_lt q p) (near_bringing (4 * (p - q)) b) (weight s (Stage.Bring (Lag.Joined q) b) + around s p) 2 (2 * most s)
    (λ h. let k = near_between s.replicas p q b l (ltb-true q p h) in let x = k.1 in below_most s (near_bringing (4 * (p - q)) b) k.0 (omega arith)) (far_between s p t z l (at_joined q b m))
between s p t z l (at_raise k m) = (omega arith, omega arith)
between s p t z l (at_min q) = far_between s p t z l (at_min q)
between s p t z l at_entering = far_between s p t z l at_entering
between s p t z l at_number = far_between s p t z l at_number
between s p t z l (at_fuo k m) = far_between s p t z l (at_fuo k m)
between s p t z l at_learning = far_between s p t z l at_learning
between s p t z l (at_behind b) = far_between s p t z l (at_behind b)
between s p t z l (at_position n b m) = far_between s p t z l (at_position n b m)
between s p t z l (at_head q) = far_between s p t z l (at_head q)
between s p t z l (at_look k m) = far_between s p t z l (at_look k m)
between s p t z l (at_writing n m o) = far_between s p t z l (at_writing n m o)
between s p t z l (at_slot k m o) = far_between s p t z l (at_slot k m o)
between s p t z l (at_put k m o) = far_between s p t z l (at_put k m o)
between s p t z l at_rest = far_between s p t z l at_rest

pub asking_falls : AskingFalls
asking_falls = record { goes_on = goes_on; copies = copies; joins = joins; heavy = λ s p t z l i. (between s p t z l i).0; light = λ s p t z l i. (between s p t z l i).1 }
