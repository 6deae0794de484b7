use Rattle.std.proofs.Common.{◌≡◌, ◌∙◌, ◌+◌, ◌%◌, ◌<◌, arith, ap, Some, sym, true}
use Rattle.std.specs.Prelude.{◌||◌}
use Rattle.mu_model.specs.Contents.{includes, is_batch, rest_of, row_count, rows_from}
use Rattle.mu_knowledge.proofs.Fetched.{batch_there}
use Rattle.mu_follow.proofs.Full.{row_next, rows_batch}
use Rattle.mu_follow.proofs.completion.hold_entry.Goals as goal

pub loop-t-preserved : goal.loop-t-preserved
loop-t-preserved c had good marks j low =
    let k = c.args.config.now in
    let v = c.args.v in
    let t = c.loop-t.t in
    let row = c.from-row.result in
    let batch : is_batch k v ≡ true = sym c.stands_for_batch.ensures ∙ c.if-stands_for_batch.true in
    let there = batch_there k v good batch in
    let inside : row + t < row_count k = omega (arith, there.1, c.from-row.ensures, c.row_rest.ensures, c.from-rows.ensures, c.loop-t-test.true) in
    c.hold_row.ensures k (λ i. had i || includes i (rows_from t row)) inside (c.loop-t.invariant had good marks) j low ∙ ap Some (row_next t row j (had j))

pub returns-after-loop-t : goal.returns-after-loop-t
returns-after-loop-t c had good marks j low =
    let k = c.args.config.now in
    let v = c.args.v in
    let t = c.loop-t.t in
    let row = c.from-row.result in
    let batch : is_batch k v ≡ true = sym c.stands_for_batch.ensures ∙ c.if-stands_for_batch.true in
    let many : t ≡ rest_of k (v % 4096) + 1 = omega (arith, c.loop-t-test.false, c.loop-t.auto.t-end, c.row_rest.ensures, c.from-rows.ensures) in
    c.loop-t.invariant had good marks j low ∙ ap (λ l. Some (had j || includes j l)) (rows_batch k v t row batch many c.from-row.ensures)
