-- The weights of the places fall.
use Rattle.std.proofs.Common.{◌≡◌, ℕ, ◌+◌, ◌*◌, ◌≤◌, true, sym, arith, true≢false}
use Rattle.mu_pace.specs.Weights.{AtRoom, Bringing, Copies, From, GoesOn, IsPlace, IsSized, Joins, Lag, Sizes, Stage, WeightsFall, bringing, is_first, joined, lag, late, most, weight, heads, looks, rests, asks, beyond, next_min, last_min, entered_min, next_fuo, learns, brings, level, widened, looked, looked_past, entered, next_behind, all_brought, next_position, last_position, brought_joined, welcomed, passed, late_min, late_fuo, ahead, late_enter, next_head, last_head, next_look, outrun_learning, outrun_looking, writes, picks, next_word, last_word, entered_slot, next_put, next_raise, last_raise, learnt, learnt_all, learnt_level, learnt_here, copied, copied_last, next_join, last_join, joins_behind, joins_level, at_min, at_entering, at_number, at_fuo, at_learning, at_behind, at_position, at_joined, at_late_fence, at_late_min, at_late_fuo, at_late_enter, at_late_put, at_head, at_look, at_writing, at_slot, at_put, at_raise, at_rest}

-- what follows late followers is light
room_light : (s : Sizes) (t : Stage) → IsSized s → AtRoom s t → weight s t ≤ s.replicas + 3 * s.members + 12 * s.width
room_light s t z (heads q l) = omega arith
room_light s t z (looks k l) = omega arith
room_light s t z rests = let a = z.replicas in omega arith

from_light : (s : Sizes) (p : ℕ) (t : Stage) → IsSized s → From s p t → weight s t ≤ late s p
from_light s p t z (asks q l m) = omega arith
from_light s p t z (beyond _ l r) = let k = room_light s t z r in omega arith

-- a first step of bringing up
first_light : (n : ℕ) (b : Bringing) → is_first b ≡ true → bringing n b ≤ n
first_light n Bringing.Widen h = omega arith
first_light n Bringing.Look h = omega arith
first_light n Bringing.Enter h = absurd (true≢false (sym h))
first_light n Bringing.Put h = absurd (true≢false (sym h))
first_light n Bringing.Raise h = absurd (true≢false (sym h))
first_light n Bringing.Fence h = absurd (true≢false (sym h))

-- bringing up is heavy enough for its steps
lag_heavy : (s : Sizes) (l : Lag) → IsSized s → 13 ≤ lag s l
lag_heavy s Lag.Behind z = let a = z.replicas in let b = z.width in omega arith
lag_heavy s (Lag.Position below) z = let a = z.replicas in let b = z.width in omega arith
lag_heavy s (Lag.Joined p) z = let a = z.replicas in let b = z.width in omega arith

goes_on : (s : Sizes) (t u : Stage) → IsSized s → GoesOn s t u → weight s u + 1 ≤ weight s t
goes_on s t u z (next_min p q l m) = omega arith
goes_on s t u z (last_min p l) = omega arith
goes_on s t u z entered_min = omega arith
goes_on s t u z (next_fuo k j l) = omega arith
goes_on s t u z (learns k l) = omega arith
goes_on s t u z (brings k b l f) = let a = first_light (late s 0) b f in omega arith
goes_on s t u z (level k _ l f) = let a = from_light s 0 u z f in omega arith
goes_on s t u z (widened l) = let a = lag_heavy s l z in omega arith
goes_on s t u z (looked l) = let a = lag_heavy s l z in omega arith
goes_on s t u z (looked_past l) = let a = lag_heavy s l z in omega arith
goes_on s t u z (entered l) = let a = lag_heavy s l z in omega arith
goes_on s t u z (next_behind b f) = let a = first_light (late s 0) b f in omega arith
goes_on s t u z (all_brought _ f) = let a = from_light s 0 u z f in omega arith
goes_on s t u z (next_position below b f) = let a = first_light (s.replicas + 12 * s.width + 3 * (below + 1)) b f in omega arith
goes_on s t u z (last_position below _ l r) = let a = room_light s u z r in omega arith
goes_on s t u z (brought_joined p _ f) = let a = from_light s (p + 1) u z f in omega arith
goes_on s t u z (welcomed p l) = omega arith
goes_on s t u z (passed p _ l f) = let a = from_light s (p + 1) u z f in omega arith
goes_on s t u z (late_min p) = omega arith
goes_on s t u z (late_fuo p) = omega arith
goes_on s t u z (ahead p _ f) = let a = from_light s (p + 1) u z f in omega arith
goes_on s t u z (late_enter p) = omega arith
goes_on s t u z (next_head p q l m) = omega arith
goes_on s t u z (last_head p k l m) = omega arith
goes_on s t u z outrun_learning = let a = z.replicas in omega arith
goes_on s t u z (outrun_looking k l) = let a = z.width in omega arith
goes_on s t u z (next_look k j l) = omega arith
goes_on s t u z (writes k words l m) = omega arith
goes_on s t u z (picks k j l m) = let a = z.width in omega arith
goes_on s t u z (next_word words) = omega arith
goes_on s t u z (last_word words k l m) = omega arith
goes_on s t u z (entered_slot k l) = omega arith
goes_on s t u z (next_put k j l) = omega arith
goes_on s t u z (next_raise k j l) = omega arith
goes_on s t u z (last_raise k _ l f) = let a = from_light s 0 u z f in omega arith

copies : (s : Sizes) (t u : Stage) → IsSized s → Copies s t u → weight s u ≤ weight s t + 7
copies s t u z learnt = omega arith
copies s t u z (learnt_all b f) = let a = first_light (late s 0) b f in omega arith
copies s t u z (learnt_level _ f) = let a = from_light s 0 u z f in omega arith
copies s t u z (learnt_here k b l m f) = let a = first_light (s.replicas + 12 * s.width + 3 * 0) b f in omega arith
copies s t u z (copied l b f) = let a = first_light (lag s l) b f in omega arith
copies s t u z (copied_last l) = let a = lag_heavy s l z in omega arith

joins : (s : Sizes) (t u : Stage) → IsSized s → Joins s t u → weight (joined s) u ≤ weight s t + 5
joins s t u z next_join = omega arith
joins s t u z (last_join k l) = omega arith
joins s t u z (joins_behind p b f) = let a = first_light (late (joined s) (p + 1)) b f in omega arith
joins s t u z (joins_level p _ f) = let a = from_light (joined s) (p + 1) u (record { replicas = z.replicas; width = z.width }) f in omega arith

-- a step of bringing up is between these
bringing_between : (n : ℕ) (b : Bringing) → 4 ≤ n → (1 ≤ bringing n b) × (bringing n b ≤ n + 4)
bringing_between n Bringing.Widen l = (omega arith, omega arith)
bringing_between n Bringing.Look l = (omega arith, omega arith)
bringing_between n Bringing.Enter l = (omega arith, omega arith)
bringing_between n Bringing.Put l = (omega arith, omega arith)
bringing_between n Bringing.Raise l = (omega arith, omega arith)
bringing_between n Bringing.Fence l = (omega arith, omega arith)

between : (s : Sizes) (t : Stage) → IsSized s → IsPlace s t → (1 ≤ weight s t) × (weight s t ≤ most s)
between s t z (at_min p) = let a = z.replicas in let b = z.width in (omega arith, omega arith)
between s t z at_entering = let a = z.replicas in let b = z.width in (omega arith, omega arith)
between s t z at_number = let a = z.replicas in let b = z.width in (omega arith, omega arith)
between s t z (at_fuo k l) = let a = z.replicas in let b = z.width in (omega arith, omega arith)
between s t z at_learning = let a = z.replicas in let b = z.width in (omega arith, omega arith)
between s t z (at_behind b) = let h = lag_heavy s Lag.Behind z in let k = bringing_between (late s 0) b (omega arith) in let l = k.1 in (k.0, omega arith)
between s t z (at_position below b m) = let h = lag_heavy s (Lag.Position below) z in let k = bringing_between (lag s (Lag.Position below)) b (omega arith) in let l = k.1 in (k.0, omega arith)
between s t z (at_joined p b m) = let h = lag_heavy s (Lag.Joined p) z in let k = bringing_between (late s (p + 1)) b (omega arith) in let l = k.1 in (k.0, omega arith)
between s t z (at_late_fence p) = let a = z.replicas in let b = z.width in (omega arith, omega arith)
between s t z (at_late_min p l) = let a = z.replicas in let b = z.width in (omega arith, omega arith)
between s t z (at_late_fuo p l) = let a = z.replicas in let b = z.width in (omega arith, omega arith)
between s t z (at_late_enter p l) = let a = z.replicas in let b = z.width in (omega arith, omega arith)
between s t z (at_late_put p l) = let a = z.replicas in let b = z.width in (omega arith, omega arith)
between s t z (at_head q) = let a = z.replicas in let b = z.width in (omega arith, omega arith)
between s t z (at_look k l) = let a = z.replicas in let b = z.width in (omega arith, omega arith)
between s t z (at_writing words l m) = let a = z.replicas in let b = z.width in (omega arith, omega arith)
between s t z (at_slot k l m) = let a = z.replicas in let b = z.width in (omega arith, omega arith)
between s t z (at_put k l m) = let a = z.replicas in let b = z.width in (omega arith, omega arith)
between s t z (at_raise k l) = let a = z.replicas in let b = z.width in (omega arith, omega arith)
between s t z at_rest = let a = z.replicas in let b = z.width in (omega arith, omega arith)

pub weights_fall : WeightsFall
weights_fall = record { goes_on = goes_on; copies = copies; joins = joins; heavy = λ s t z p. (between s t z p).0; light = λ s t z p. (between s t z p).1 }
