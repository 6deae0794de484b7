-- The lines of a summary, taken from the front, and how many they are.
use Rattle.std.proofs.Common.{◌≡◌, ℕ, zero, suc, ◌+◌, ◌*◌, ◌-◌, ◌<◌, ◌^◌, List, [], ◌∷◌, ◌++◌, refl, sym, ap, ◌∙◌, length, arith, length-append}
use Rattle.std.specs.Fmt.{decimal}
use Rattle.std.specs.Prelude.{codes}
use Rattle.mu_outcome.specs.declared.outcome.Outcome.{Outcome}
use Rattle.mu_outcome.specs.Outcomes.{status_of}
use Rattle.mu_report.specs.declared.line.TheConstants.{LINE_BYTES}
use Rattle.mu_report.specs.Report.{log_line}
use Rattle.mu_report.specs.Summary.{counts_line, head_lines, summary_lines}

-- the line of the next log, and those of the others
pub head_lines-next : (o : Outcome) (r replicas : ℕ) (line : List ℕ) → r < replicas → line ≡ log_line o r
    → head_lines o r (replicas - r) ≡ (line ∷ []) ++ head_lines o (r + 1) (replicas - (r + 1))
head_lines-next o r replicas line below spelled =
    let next : replicas - r ≡ suc (replicas - (r + 1)) = omega arith in
    ap (head_lines o r) next ∙ ap (λ l. l ∷ head_lines o (r + 1) (replicas - (r + 1))) (sym spelled)

pub length-head_lines : (o : Outcome) (r replicas : ℕ) → length (head_lines o r replicas) ≡ replicas
length-head_lines o r zero = refl
length-head_lines o r (suc replicas) = ap (λ n. suc n) (length-head_lines o (r + 1) replicas)

-- the bytes of the whole summary can be counted
pub summary_fits : (o : Outcome) → o.job.config.replicas < 2 ^ 8 → LINE_BYTES * length (summary_lines o) < 2 ^ 64
summary_fits o few =
    let ending : List (List ℕ) = counts_line o.replies ∷ (codes "status " ++ decimal (status_of o)) ∷ [] in
    let whole : length (summary_lines o) ≡ 1 + (length (head_lines o 0 o.job.config.replicas) + length ending) =
    ap (λ n. suc n) (length-append (head_lines o 0 o.job.config.replicas) ending) ∙ omega arith in
    omega (arith, length-head_lines o 0 o.job.config.replicas)
