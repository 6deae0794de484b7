-- The lines of an account, in parts, and how many there are.
use Rattle.std.proofs.Common.{◌≡◌, ℕ, zero, suc, ◌+◌, ◌-◌, ◌*◌, ◌<◌, ◌^◌, List, [], ◌∷◌, ◌++◌, sym, ap, ◌∙◌, length, arith, length-append, refl}
use Rattle.std.specs.Fmt.{decimal}
use Rattle.std.specs.Prelude.{codes}
use Rattle.mu_outcome.specs.Outcomes.{status_of}
use Rattle.mu_report.specs.declared.line.TheConstants.{LINE_BYTES}
use Rattle.mu_report.specs.Accounts.{account_body_lines, account_lines, account_log_lines, account_logs_lines}
use Rattle.mu_report.specs.Report.{body_lines, log_lines, logs_lines, replies_lines, HasShortLists}
use Rattle.mu_report.proofs.Sizes.{few_lines}
use Rattle.mu_outcome.specs.declared.account.Account.{Account}

-- the lines of the next log, and those of the others
pub account_logs-next : (a : Account) (r replicas : ℕ) → r < replicas → account_logs_lines a r (replicas - r) ≡ account_log_lines a r ++ account_logs_lines a (r + 1) (replicas - (r + 1))
account_logs-next a r replicas below =
    let next : replicas - r ≡ suc (replicas - (r + 1)) = omega arith in
    ap (account_logs_lines a r) next

-- the logs have as many lines as those of a run
as_many_lines : (a : Account) (r replicas : ℕ) → length (account_logs_lines a r replicas) ≡ length (logs_lines a.outcome r replicas)
as_many_lines a r zero = refl
as_many_lines a r (suc replicas) =
    length-append (account_log_lines a r) (account_logs_lines a (r + 1) replicas)
    ∙ (ap (λ n. length (account_log_lines a r) + n) (as_many_lines a (r + 1) replicas) ∙ sym (length-append (log_lines a.outcome r) (logs_lines a.outcome (r + 1) replicas)))

-- the lines of the report but for the last are few
pub account_few : (a : Account) → HasShortLists a.outcome → a.outcome.job.config.replicas < 2 ^ 8 → length (account_body_lines a) < 2 ^ 56 + 2 ^ 10
account_few a short low =
    let n = a.outcome.job.config.replicas in
    let few = few_lines a.outcome short low in
    let told = length-append (account_logs_lines a 0 n) (replies_lines a.outcome) in
    let ran = length-append (logs_lines a.outcome 0 n) (replies_lines a.outcome) in
    let whole : length (body_lines a.outcome) ≡ 1 + length (logs_lines a.outcome 0 n ++ replies_lines a.outcome) = omega arith in
    let other : length (account_body_lines a) ≡ 1 + length (account_logs_lines a 0 n ++ replies_lines a.outcome) = omega arith in
    omega (arith, few, told, ran, whole, other, as_many_lines a 0 n)

pub account_fits : (a : Account) → length (account_body_lines a) < 2 ^ 56 + 2 ^ 10 → LINE_BYTES * length (account_lines a) < 2 ^ 64
account_fits a few =
    let status : List (List ℕ) = (codes "status " ++ decimal (status_of a.outcome)) ∷ [] in
    omega (arith, few, length-append (account_body_lines a) status)
