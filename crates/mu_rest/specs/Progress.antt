-- idle and quiet cycles: in how many cycles in a row a replica got nothing done, and in how many it
-- changed nothing at all. Signs stand newest first.
--
-- Learning and committing are no cases of their own: in the cycle after either a word of a row is
-- read, or a FUO or the own head is raised.
use Rattle.std.specs.Prelude.{Bool, List, [], false, if◌then◌else◌, min, nat_lt, suc, true, ℕ, ◌==◌, ◌||◌, ◌∷◌, ◌≡◌}
use Rattle.std.specs.List.{slice_get}
use Rattle.std.specs.Prelude.{Some}
use Rattle.mu_rest.specs.declared.progress.Progress.{Progress}
use Rattle.mu_rest.specs.declared.sign.Sign.{Sign}
use Rattle.mu_rest.specs.Signs.{ends_cycle, is_change}

-- the head of q after one more step
abbrev pub head_after : ℕ → Sign → ℕ → ℕ
head_after q (Sign.Head p x) before = if p == q then x else before
head_after q _ before = before

-- the head of q that was read last, 0 before any
abbrev pub last_head : ℕ → List Sign → ℕ
last_head q [] = 0
last_head q (s ∷ past) = head_after q s (last_head q past)

-- a step gets something done: a word of a row is written or read, a FUO or the own head raised, or
-- a greater head of another found than was read last
abbrev pub gets_done : Sign → List Sign → Bool
gets_done Sign.Work past = true
gets_done (Sign.Head q x) past = nat_lt (last_head q past) x
gets_done _ past = false

-- none after a step that breaks the row; one more after another that ends a cycle
abbrev pub cycles_after : Bool → Bool → ℕ → ℕ
cycles_after true ends before = 0
cycles_after false true before = suc before
cycles_after false false before = before

-- in how many cycles in a row, up to the last step, nothing got done
abbrev pub idle_cycles : List Sign → ℕ
idle_cycles [] = 0
idle_cycles (s ∷ past) = cycles_after (gets_done s past) (ends_cycle s) (idle_cycles past)

-- and in how many no fence, minimum or slot was changed either
abbrev pub quiet_cycles : List Sign → ℕ
quiet_cycles [] = 0
quiet_cycles (s ∷ past) =
    cycles_after (gets_done s past || is_change s) (ends_cycle s) (quiet_cycles past)

-- whether the last step ended a cycle
abbrev pub cycle_ended : List Sign → Bool
cycle_ended [] = false
cycle_ended (s ∷ past) = ends_cycle s

-- the heads are those that were read last
abbrev pub HoldHeads : List Sign → List ℕ → Type 0
HoldHeads signs heads = (q head : ℕ) → slice_get heads q ≡ Some head → head ≡ last_head q signs

-- the state stands for these signs
pub record StandsForProgress (signs : List Sign) (state : Progress) : Type 0 where
  pub heads : HoldHeads signs state.heads
  pub idle : state.idle ≡ min 256 (idle_cycles signs)
  pub quiet : state.quiet ≡ min 256 (quiet_cycles signs)
  pub ended : state.ended ≡ cycle_ended signs
