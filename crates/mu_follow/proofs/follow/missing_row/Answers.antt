use Rattle.std.proofs.Common.{◌≡◌, ◌∙◌, ◌+◌, ◌%◌, Some, ap, arith, false, refl, sym, true}
use Rattle.std.specs.Prelude.{nat_lt, not}
use Rattle.std.proofs.lemmas.Bool.{le-ltb, lt-ltb}
use Rattle.mu_model.specs.declared.event.Verb.{Verb}
use Rattle.mu_model.specs.Contents.{is_batch, rest_of}
use Rattle.mu_model.specs.Knowledge.{has_row}
use Rattle.mu_model.specs.Scores.{least_below}
use Rattle.mu_knowledge.proofs.Fetched.{batch_there}
use Rattle.mu_follow.specs.Due.{rows_had}
use Rattle.mu_follow.proofs.follow.missing_row.Goals as goal

pub returns-then-had-rows : goal.returns-then-had-rows
returns-then-had-rows c r mine good held =
    let k = c.args.config.now in
    let v = c.args.v in
    let few = good.few in
    let batch : is_batch k v ≡ true = sym c.stands_for_batch.ensures ∙ c.if-stands_for_batch.true in
    let there = batch_there k v good batch in
    let rows : c.from-rows.result + 1 ≡ rest_of k (v % 4096) + 1 = omega (arith, c.row_rest.ensures, c.from-rows.ensures) in
    let had : c.rows_had-had.result ≡ rows_had k r mine v = c.rows_had-had.ensures k r mine there.0 (omega (arith, there.1, rows)) few held ∙ ap (λ n. least_below n (λ t. not (has_row r (v + t) mine))) rows in
    let less : nat_lt (rows_had k r mine v) (rest_of k (v % 4096) + 1) ≡ true = lt-ltb (rows_had k r mine v) (rest_of k (v % 4096) + 1) (omega (arith, c.if-had-rows.true, had, rows)) in
    let sum : c.saturating_add.result ≡ v + rows_had k r mine v = omega (arith, c.saturating_add.ensures, c.if-had-rows.true, had, rows, there.0, there.1, few) in
    rw batch (rw less (ap (λ x. Some (Verb.ReadRow x 0)) sum))

pub returns-else-had-rows : goal.returns-else-had-rows
returns-else-had-rows c r mine good held =
    let k = c.args.config.now in
    let v = c.args.v in
    let few = good.few in
    let batch : is_batch k v ≡ true = sym c.stands_for_batch.ensures ∙ c.if-stands_for_batch.true in
    let there = batch_there k v good batch in
    let rows : c.from-rows.result + 1 ≡ rest_of k (v % 4096) + 1 = omega (arith, c.row_rest.ensures, c.from-rows.ensures) in
    let had : c.rows_had-had.result ≡ rows_had k r mine v = c.rows_had-had.ensures k r mine there.0 (omega (arith, there.1, rows)) few held ∙ ap (λ n. least_below n (λ t. not (has_row r (v + t) mine))) rows in
    let more : nat_lt (rows_had k r mine v) (rest_of k (v % 4096) + 1) ≡ false = le-ltb (rows_had k r mine v) (rest_of k (v % 4096) + 1) (omega (arith, c.if-had-rows.false, had, rows)) in
    rw batch (rw more refl)
