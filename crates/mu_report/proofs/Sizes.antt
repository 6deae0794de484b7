-- How many lines a report has at most.
use Rattle.std.proofs.Common.{◌≡◌, ℕ, zero, suc, ◌+◌, ◌*◌, ◌%◌, ◌-◌, ◌<◌, ◌≤◌, ◌^◌, Bool, true, false, cond, List, [], ◌∷◌, ◌++◌, ap, ◌∙◌, length, drop, map, slice_get, arith, length-append, All}
use Rattle.std.specs.Fmt.{decimal}
use Rattle.std.specs.Prelude.{codes, nat_lt}
use Rattle.std.proofs.lemmas.List.{length-drop, length-map, length-take}
use Rattle.std.proofs.Math.Nat.{mul-le-mul_left}
use Rattle.kv_store.specs.Commands.{Request}
use Rattle.kv_store.specs.declared.store.Reply.{Reply}
use Rattle.mu_input.specs.declared.job.Job.{Job}
use Rattle.mu_model.specs.Contents.{is_batch, is_mark, rest_of}
use Rattle.mu_outcome.specs.declared.outcome.Outcome.{Outcome}
use Rattle.mu_outcome.specs.Entries.{commands_of, commands_in, longest}
use Rattle.mu_outcome.specs.Outcomes.{log_of, or_empty, status_of}
use Rattle.mu_report.specs.declared.line.TheConstants.{LINE_BYTES}
use Rattle.mu_report.specs.Report.{entry_line, entry_lines, gone_line, lines_of_entry, log_lines, logs_lines, answer_lines, body_lines, replies_lines, report_lines, HasShortLists}

chosen : (b : Bool) (xs : List Request) (most : ℕ) → length xs ≤ most → length (cond b xs []) ≤ most
chosen true xs most bound = bound
chosen false xs most bound = omega arith

length-commands_of : (job : Job) (v : ℕ) → length (commands_of job v) ≤ length job.commands
length-commands_of job v =
    chosen (is_batch job.config v) _ (length job.commands)
    (omega (arith, length-take (rest_of job.config (v % 4096) + 1) (drop (v % 4096) job.commands), length-drop (v % 4096) job.commands))

length-commands_in : (job : Job) (log : List ℕ) → length (commands_in job log) ≤ length log * length job.commands
length-commands_in job [] = omega arith
length-commands_in job (v ∷ vs) =
    omega (arith, length-commands_in job vs, length-commands_of job v, length-append (commands_of job v) (commands_in job vs))

length-of_entry : (job : Job) (i v m : ℕ) → length job.commands + 1 ≤ m → length (lines_of_entry job i v) ≤ m
length-of_entry job i v m most = go (is_mark job.config (v % 4096 - 4080) v)
  where
    go : (t : Bool) → length (cond t (gone_line i (v % 4096 - 4080) ∷ []) (map (entry_line i) (commands_of job v))) ≤ m
    go true = omega (arith, most)
    go false = omega (arith, most, length-commands_of job v, length-map (commands_of job v) (entry_line i))

length-entry_lines : (job : Job) (i m : ℕ) (log : List ℕ) → length job.commands + 1 ≤ m → length (entry_lines job i log) ≤ length log * m
length-entry_lines job i m [] most = omega arith
length-entry_lines job i m (v ∷ vs) most =
    omega (
      arith,
      length-entry_lines job (i + 1) m vs most,
      length-of_entry job i v m most,
      length-append (lines_of_entry job i v) (entry_lines job (i + 1) vs),
    )

length-answer_lines : (commands : List Request) (replies : List Reply) → length (answer_lines commands replies) ≤ length commands
length-answer_lines [] replies = omega arith
length-answer_lines (command ∷ commands) [] = omega arith
length-answer_lines (command ∷ commands) (reply ∷ replies) = omega (arith, length-answer_lines commands replies)

product : (m n : ℕ) → m < 2 ^ 32 → n < 2 ^ 16 → m * n ≤ 2 ^ 48
product m n small few =
    let bound : m * n ≤ m * 2 ^ 16 = mul-le-mul_left m (omega arith) in
    omega arith

short_tail : (log : List ℕ) (logs : List (List ℕ)) → All (λ l. length l < 2 ^ 32) (log ∷ logs) → All (λ l. length l < 2 ^ 32) logs
short_tail log logs short = λ k d within. short (suc k) d (omega arith)

short_at : (logs : List (List ℕ)) (r : ℕ) → All (λ log. length log < 2 ^ 32) logs → length (or_empty (slice_get logs r)) < 2 ^ 32
short_at [] r short = omega arith
short_at (log ∷ logs) zero short = short 0 [] (omega arith)
short_at (log ∷ logs) (suc r) short = short_at logs r (short_tail log logs short)

short_chosen : (b : Bool) (xs ys : List ℕ) → length xs < 2 ^ 32 → length ys < 2 ^ 32 → length (cond b xs ys) < 2 ^ 32
short_chosen true xs ys p q = p
short_chosen false xs ys p q = q

short_longest : (logs : List (List ℕ)) → All (λ log. length log < 2 ^ 32) logs → length (longest logs) < 2 ^ 32
short_longest [] short = omega arith
short_longest (log ∷ logs) short =
    short_chosen (nat_lt (length log) (length (longest logs))) (longest logs) log (short_longest logs (short_tail log logs short)) (short 0 [] (omega arith))

-- the longest log stands for few commands
pub few_answers : (o : Outcome) → HasShortLists o → length (commands_in o.job (longest o.logs)) ≤ 2 ^ 48
few_answers o short =
    omega (arith, length-commands_in o.job (longest o.logs), product (length (longest o.logs)) (length o.job.commands) (short_longest o.logs short.1) (let few = short.0 in omega (arith, few)))

length-log_lines : (o : Outcome) (r : ℕ) → HasShortLists o → length (log_lines o r) ≤ 2 ^ 48 + 1
length-log_lines o r short =
    omega (arith, length-entry_lines o.job 0 (length o.job.commands + 1) (log_of o r) (omega arith), product (length (log_of o r)) (length o.job.commands + 1) (short_at o.logs r short.1) (let few = short.0 in omega (arith, few)))

length-logs_lines : (o : Outcome) (r replicas : ℕ) → HasShortLists o → length (logs_lines o r replicas) ≤ replicas * (2 ^ 48 + 1)
length-logs_lines o r zero short = omega arith
length-logs_lines o r (suc replicas) short =
    omega (arith, length-logs_lines o (r + 1) replicas short, length-log_lines o r short, length-append (log_lines o r) (logs_lines o (r + 1) replicas))

-- the lines of the report but for the last are few
pub few_lines : (o : Outcome) → HasShortLists o → o.job.config.replicas < 2 ^ 8 → length (body_lines o) < 2 ^ 56 + 2 ^ 10
few_lines o short low =
    let replicas = o.job.config.replicas in
    let commands = commands_in o.job (longest o.logs) in
    let logs : length (logs_lines o 0 replicas) ≤ replicas * (2 ^ 48 + 1) = length-logs_lines o 0 replicas short in
    let answers : length (answer_lines commands o.replies) ≤ length commands = length-answer_lines commands o.replies in
    let asked : length commands ≤ 2 ^ 48 = few_answers o short in
    let whole : length (body_lines o) ≡ 1 + (length (logs_lines o 0 replicas) + length (replies_lines o)) = ap (λ n. suc n) (length-append (logs_lines o 0 replicas) (replies_lines o)) ∙ omega arith in
    omega arith

pub report_fits : (o : Outcome) → length (body_lines o) < 2 ^ 56 + 2 ^ 10 → LINE_BYTES * length (report_lines o) < 2 ^ 64
report_fits o few =
    let status : List (List ℕ) = (codes "status " ++ decimal (status_of o)) ∷ [] in
    omega (arith, few, length-append (body_lines o) status)
