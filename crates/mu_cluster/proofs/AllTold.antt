-- A replica that finished with every row tells the commands of the longest log, and replied to them.
use Rattle.std.proofs.Common.{◌≡◌, ◌∙◌, ◌⊎◌, ℕ, ◌+◌, ◌%◌, ◌<◌, ◌≤◌, inl, inr, Bool, true, false, cond, Some, List, [], ◌∷◌, ◌++◌, ap, append-nil, arith, get_or, length, refl, sym, take, drop}
use Rattle.std.specs.List.{slice_get}
use Rattle.std.proofs.lemmas.List.{length-append, length-drop, length-take}
use Rattle.std.proofs.lemmas.Option.{slice_get-get_or, slice_get_within}
use Rattle.kv_store.specs.Commands.{Request}
use Rattle.kv_store.specs.Tables.{replies}
use Rattle.mu_agree.proofs.Sessions.{batch_within, row_within}
use Rattle.mu_input.specs.Heads.{HaveHeads}
use Rattle.mu_input.specs.declared.job.Job.{Job}
use Rattle.mu_input.proofs.JobConfigs.{as_many}
use Rattle.mu_model.specs.Contents.{IsConfig, includes, is_batch, rest_of, row_count, rows_from, rows_in, rows_of}
use Rattle.mu_model.specs.Histories.{IsPrefixOf}
use Rattle.mu_model.proofs.Scans.{all_at}
use Rattle.mu_outcome.specs.declared.outcome.Outcome.{Outcome}
use Rattle.mu_outcome.specs.Entries.{commands_in, commands_of, longest}
use Rattle.mu_outcome.specs.Outcomes.{Agrees, IsRun, journal_of, log_of, or_empty}
use Rattle.mu_outcome.proofs.Completing.{few_told, included_among}
use Rattle.mu_outcome.proofs.LongestLogs.{longest_is, longest_most}
use Rattle.mu_rows.proofs.RowsOnce.{at_least, length-from}
use Rattle.mu_cluster.specs.Finishing.{AppliesEachByThen, FinishesByThen, HasApplied, HasFinishedBy}
use Rattle.mu_cluster.proofs.Agreeing.{agrees_of, over_order}
use Rattle.mu_outcome.proofs.LogCommands.{commands_in-append}

-- entries have as many commands as rows
entry_many : (job : Job) (v : ℕ) → IsConfig job.config → HaveHeads job.config.width job.commands job.config.rows → length (commands_of job v) ≡ length (rows_of job.config v)
entry_many job v good have = go (is_batch job.config v) refl
  where
    go : (t : Bool) → is_batch job.config v ≡ t → length (cond t (take (rest_of job.config (v % 4096) + 1) (drop (v % 4096) job.commands)) []) ≡ length (cond t (rows_from (rest_of job.config (v % 4096) + 1) (v % 4096)) [])
    go false other = refl
    go true batch =
        let low = row_within job.config v batch in
        let many = as_many job.config.width job.commands job.config.rows have in
        let there = batch_within job.config good (rest_of job.config (v % 4096)) (v % 4096) low refl in
        let taken = length-take (rest_of job.config (v % 4096) + 1) (drop (v % 4096) job.commands) in
        let left = length-drop (v % 4096) job.commands in
        let rows = length-from (rest_of job.config (v % 4096) + 1) (v % 4096) in
        omega (arith, many, there, taken, left, rows)

as_many_commands : (job : Job) (values : List ℕ) → IsConfig job.config → HaveHeads job.config.width job.commands job.config.rows → length (commands_in job values) ≡ length (rows_in job.config values)
as_many_commands job [] good have = refl
as_many_commands job (v ∷ vs) good have =
    let one = entry_many job v good have in
    let rest = as_many_commands job vs good have in
    let a = length-append (commands_of job v) (commands_in job vs) in
    let b = length-append (rows_of job.config v) (rows_in job.config vs) in
    omega (arith, one, rest, a, b)

-- a log with every row begins the longest one, or is it
begins : (o : Outcome) (r : ℕ) → Agrees o → length o.logs ≡ o.job.config.replicas → r < o.job.config.replicas → IsPrefixOf (log_of o r) (longest o.logs)
begins o r agrees count low = go (longest_is o.logs)
  where
    mine : log_of o r ≡ get_or o.logs r []
    mine = ap or_empty (slice_get-get_or o.logs r [] (omega (arith, low, count)))

    most : length (log_of o r) ≤ length (longest o.logs)
    most = let m = longest_most o.logs r (get_or o.logs r []) (slice_get-get_or o.logs r [] (omega (arith, low, count))) in let e = ap length mine in omega (arith, m, e)

    none_more : (xs ys : List ℕ) → xs ≡ ys ++ [] → ys ≡ xs
    none_more xs ys is = sym (is ∙ append-nil ys)

    empty : (xs : List ℕ) → length xs ≤ 0 → xs ≡ []
    empty [] low = refl
    empty (x ∷ xs) low = absurd (omega (arith, low))

    go : (longest o.logs ≡ []) ⊎ ((s : ℕ) × (slice_get o.logs s ≡ Some (longest o.logs))) → IsPrefixOf (log_of o r) (longest o.logs)
    go (inl none) = (longest o.logs, ap (λ l. l ++ longest o.logs) (sym (empty (log_of o r) (let m = most in let e = ap length none in omega (arith, m, e)))))
    go (inr some) =
        let at = slice_get_within o.logs some.0 (longest o.logs) some.1 in
        let is : log_of o some.0 ≡ longest o.logs = ap or_empty some.1 in
        elim (agrees.prefixes r some.0 low (omega (arith, at, count))) [
          | inl first ↦ (first.0, sym is ∙ first.1)
          | inr other ↦
              let same = ap length other.1 ∙ length-append (log_of o some.0) other.0 in
              let long = ap length is in
              let m = most in
              let rest = empty other.0 (omega (arith, same, long, m)) in
              ([], sym is ∙ none_more (log_of o r) (log_of o some.0) (other.1 ∙ ap (λ l. log_of o some.0 ++ l) rest) ∙ sym (append-nil (log_of o r)))
        ]

-- so it tells all commands
finished_with : (o : Outcome) (m r : ℕ) → IsConfig o.job.config → HaveHeads o.job.config.width o.job.commands o.job.config.rows → IsRun o → r < o.job.config.replicas → HasApplied o r → length (journal_of o r) ≤ m → HasFinishedBy o m r
finished_with o m r good have run low done by_then = record {
  heads = done.heads;
  ended = done.ended;
  by_then = by_then;
  all = (let f = few in let n = enough in let w = ap length whole in omega (arith, f, n, w));
  same = sym whole;
  replied = run.own_replies r low ∙ ap replies (sym whole) ∙ sym run.replies;
}
  where
    front : IsPrefixOf (log_of o r) (longest o.logs)
    front = begins o r (agrees_of o good have run) run.counts.0 low

    few : length (commands_in o.job (longest o.logs)) ≤ length o.job.commands
    few = few_told o run.order.events good have (over_order o run) (agrees_of o good have run)

    enough : length o.job.commands ≤ length (commands_in o.job (log_of o r))
    enough =
        let rows = at_least (row_count o.job.config) (rows_in o.job.config (log_of o r)) (λ q inside. included_among q (rows_in o.job.config (log_of o r)) (all_at (row_count o.job.config) (λ j. includes j (rows_in o.job.config (log_of o r))) done.holds q inside)) in
        let same = as_many_commands o.job (log_of o r) good have in
        let many = as_many o.job.config.width o.job.commands o.job.config.rows have in
        omega (arith, rows, same, many)

    none : (xs : List Request) → length xs ≤ 0 → xs ≡ []
    none [] low = refl
    none (x ∷ xs) low = absurd (omega (arith, low))

    whole : commands_in o.job (longest o.logs) ≡ commands_in o.job (log_of o r)
    whole =
        let split = ap (commands_in o.job) front.1 ∙ commands_in-append o.job (log_of o r) front.0 in
        let sum = ap length split ∙ length-append (commands_in o.job (log_of o r)) (commands_in o.job front.0) in
        let f = few in
        let m = enough in
        split ∙ ap (λ l. commands_in o.job (log_of o r) ++ l) (none (commands_in o.job front.0) (omega (arith, sum, f, m))) ∙ append-nil (commands_in o.job (log_of o r))

pub finishes_by_then : (o : Outcome) → IsConfig o.job.config → HaveHeads o.job.config.width o.job.commands o.job.config.rows → IsRun o → AppliesEachByThen o → FinishesByThen o
finishes_by_then o good have run applies m is within r low there = let done = applies m is within r low there in finished_with o m r good have run low done.0 done.1
