-- promise lines: what a job promises, whether its budget is shown to be enough for it, and why if
-- nothing, as lines.
use Rattle.std.specs.Prelude.{Bool, List, [], codes, false, nat_lt, true, ℕ, ◌+◌, ◌++◌, ◌∷◌}
use Rattle.std.specs.Fmt.{decimal}
use Rattle.mu_enough.specs.declared.promises.Cause.{Cause}
use Rattle.mu_enough.specs.declared.promises.Promise.{Promise}
use Rattle.mu_enough.specs.declared.promises.Promises.{Promises}
use Rattle.mu_report.specs.Sentences.{sentence}

-- why nothing is promised, if a ring of this many places has one for each entry
abbrev pub cause_words : ℕ → Cause → List ℕ
cause_words ring Cause.HalfStopped =
    codes ": not promised, lines stop half of the replicas or more"
cause_words ring Cause.Paused = codes ": not promised, a line pauses a replica"
cause_words ring Cause.PausedInSmallRing =
    sentence (codes ": not promised, a line pauses a replica, and the ring is below #")
    (decimal ring ∷ [])
cause_words ring Cause.StoppedInSmallRing =
    sentence (codes ": not promised, a line stops a replica in version 1, and the ring is below #")
    (decimal ring ∷ [])

-- something is so by this step with a budget for it, and whether this one is shown to be enough;
-- with a smaller one it may be so all the same
abbrev pub step_words : ℕ → ℕ → Bool → List ℕ
step_words step budget true =
    sentence (codes " by step #, budget # is shown to be enough")
    (decimal step ∷ decimal budget ∷ [])
step_words step budget false =
    sentence (codes " by step # with such a budget, # isn't shown to be enough")
    (decimal step ∷ decimal budget ∷ [])

-- a promise: the budget is shown to be enough if the step is below the end
abbrev pub promise_words : ℕ → ℕ → Promise → ℕ → List ℕ
promise_words budget ring (Promise.By step) end = step_words step budget (nat_lt step end)
promise_words budget ring (Promise.Nothing cause) end = cause_words ring cause

-- what is promised: a replica has every command by a step that is within the budget, and each has
-- finished by one that is below it
abbrev pub promise_lines : Promises → List (List ℕ)
promise_lines p =
    (codes "committed" ++ promise_words p.budget p.large_ring p.committed (p.budget + 1))
    ∷ (codes "finished" ++ promise_words p.budget p.large_ring p.finished p.budget)
    ∷ []
