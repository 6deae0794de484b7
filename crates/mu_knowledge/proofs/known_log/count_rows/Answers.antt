use Rattle.std.proofs.Common.{rules, arith, ◌+◌, ◌%◌, ◌<◌, Some, ap, sym, ◌∙◌, length, ℕ}
use Rattle.mu_model.specs.Contents.{command_count, numbers_in, rows_from}
use Rattle.mu_model.proofs.Scans.{rows_after}
use Rattle.mu_knowledge.proofs.Learning.{batch_counted, few_commands, few_of_rows, mark_counted}
use Rattle.mu_knowledge.proofs.known_log.count_rows.Goals as goal

pub loop-t-preserved : goal.loop-t-preserved
loop-t-preserved c values good short held client low =
    let k = c.args.config.now in
    let t = c.loop-t.t in
    let row = c.args.v % 4096 in
    let count : ℕ → ℕ = λ x. command_count k x values + length (numbers_in k x (rows_from t row)) in
    let few : (x : ℕ) → x < 256 → count x < 65535 = λ x small. (let all = few_commands k x values good in let some = few_of_rows k x t row in omega (arith, all, some, short, c.loop-t-test.true, c.from-t-end.ensures, c.row_rest.type_inv)) in
    let step = c.count_row.ensures count few (λ x small. c.loop-t.invariant values good short held x small) client low in
    let more = rows_after k client t row in
    step ∙ ap Some (omega arith)

pub returns-after-loop-t : goal.returns-after-loop-t
returns-after-loop-t c values good short held client low =
    let whole = batch_counted c.args.config.now client c.args.v c.loop-t.t values (search rules) (omega (arith, c.loop-t-test.false, c.loop-t.auto.t-end, c.from-t-end.ensures, c.row_rest.ensures)) in
    c.loop-t.invariant values good short held client low ∙ ap Some (sym whole)

pub returns-else-stands_for_batch : goal.returns-else-stands_for_batch
returns-else-stands_for_batch c values good short held client low =
    held client low ∙ ap Some (sym (mark_counted c.args.config.now client c.args.v values (search rules)))
