-- The commands of a log, entry by entry.
use Rattle.std.proofs.Common.{◌≡◌, ℕ, suc, ◌+◌, ◌<◌, List, [], ◌∷◌, ◌++◌, length, drop, get_or, refl, sym, ap, ◌∙◌, arith, append_assoc}
use Rattle.std.proofs.Math.Seq.{drop-cons}
use Rattle.mu_input.specs.declared.job.Job.{Job}
use Rattle.mu_outcome.specs.Entries.{commands_of, commands_in}

-- the commands from an entry on are its own and those from the next one on
pub commands_in-drop : (job : Job) (values : List ℕ) (i : ℕ) → i < length values → commands_in job (drop i values) ≡ commands_of job (get_or values i 0) ++ commands_in job (drop (i + 1) values)
commands_in-drop job values i low = ap (commands_in job) (drop-cons values i 0 low) ∙ (let one : suc i ≡ i + 1 = omega arith in ap (λ n. commands_of job (get_or values i 0) ++ commands_in job (drop n values)) one)

-- the commands of two stretches of a log
pub commands_in-append : (job : Job) (xs ys : List ℕ) → commands_in job (xs ++ ys) ≡ commands_in job xs ++ commands_in job ys
commands_in-append job [] ys = refl
commands_in-append job (x ∷ xs) ys = ap (λ l. commands_of job x ++ l) (commands_in-append job xs ys) ∙ sym (append_assoc (commands_of job x) (commands_in job xs) (commands_in job ys))
