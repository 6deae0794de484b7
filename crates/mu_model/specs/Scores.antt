-- score, failed, leader: what the reads of heartbeats say of the other replicas, and which leader
-- they name.
use Rattle.std.specs.Prelude.{Bool, List, None, Some, [], false, if◌then◌else◌, min, nat_lt, not, suc, true, zero, ℕ, ◌&&◌, ◌+◌, ◌-◌, ◌==◌, ◌||◌, ◌∷◌}
use Rattle.std.specs.declared.option.Option.{Option}
use Rattle.mu_model.specs.declared.config.Config.{Config}
use Rattle.mu_model.specs.declared.event.Answer.{Answer}
use Rattle.mu_model.specs.declared.event.Event.{Event}
use Rattle.mu_model.specs.declared.event.Verb.{Verb}
use Rattle.mu_model.specs.Histories.{newest, or_zero}

-- the answer of a `ReadBeat(q)` of r
abbrev pub beat_read : ℕ → ℕ → ℕ → Verb → Answer → Option ℕ
beat_read r q by (Verb.ReadBeat p) (Answer.Number x) =
    if (by == r) && (p == q) then Some x else None
beat_read r q by _ _ = None

-- below 2 a replica is failed, above 6 it is alive, and otherwise it stays what it was
abbrev pub alive_after : ℕ → Bool → Bool
alive_after points was = if nat_lt points 2 then false else (if nat_lt 6 points then true else was)

-- a changed count adds 1 up to 15, an unchanged one takes 1 down to 0
abbrev pub points_after : ℕ → Bool → ℕ
points_after points changed = if changed then min 15 (points + 1) else points - 1

-- the score after one read of a count
abbrev pub next_score : ℕ → Bool → Bool → ℕ × Bool
next_score points was changed =
    (points_after points changed, alive_after (points_after points changed) was)

-- the score after a read of a count, if the step is one; last is the count read before
abbrev pub score_after_read : ℕ × Bool → ℕ → Option ℕ → ℕ × Bool
score_after_read s last None = s
score_after_read s last (Some x) = next_score s.0 s.1 (not (x == last))

-- the score of q, from 0 to 15, and whether q is alive: 15 and alive at first
abbrev pub score : ℕ → ℕ → List Event → ℕ × Bool
score r q [] = (15, true)
score r q (e ∷ past) =
    score_after_read (score r q past)
    (or_zero (newest (λ f. beat_read r q f.by f.verb f.answer) past))
    (beat_read r q e.by e.verb e.answer)

-- r holds q to be failed
abbrev pub is_failed : ℕ → ℕ → List Event → Bool
is_failed r q past = not (score r q past).1

-- the least number below n that passes, else n
abbrev pub least_below : ℕ → (ℕ → Bool) → ℕ
least_below zero test = 0
least_below (suc n) test =
    if least_below n test == n then (if test n then n else n + 1) else least_below n test

-- the leader that the scores of r name: the least of r and the others that are alive
abbrev pub leader : Config → ℕ → List Event → ℕ
leader c r past = least_below c.replicas (λ q. (q == r) || not (is_failed r q past))
