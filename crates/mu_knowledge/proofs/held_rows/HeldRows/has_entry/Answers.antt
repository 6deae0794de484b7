use Rattle.std.proofs.Common.{rules, arith, ◌≡◌, ◌∙◌, ◌+◌, ◌%◌, ap, true}
use Rattle.mu_model.specs.Contents.{is_batch, rest_of}
use Rattle.mu_model.specs.Histories.{all_below}
use Rattle.mu_model.specs.Knowledge.{has_row}
use Rattle.mu_knowledge.proofs.Fetched.{batch_there}
use Rattle.mu_knowledge.proofs.held_rows.HeldRows.has_entry.Goals as goal

pub returns-else-not-stands_for_batch : goal.returns-else-not-stands_for_batch
returns-else-not-stands_for_batch c r mine good held =
    let k = c.args.config.now in
    let v = c.args.v in
    let is : is_batch k v ≡ true = search rules in
    let there = batch_there k v good is in
    let all = c.from.ensures ∙ c.row_rest.ensures in
    let few = good.few in
    let whole : c.from.result + 1 ≡ rest_of k (v % 4096) + 1 = omega (arith, all) in
    c.has_rows.ensures k r mine there.0 (omega (arith, whole, there.1)) few held ∙ rw is (ap (λ n. all_below n (λ t. has_row r (v + t) mine)) whole)
