use Rattle.std.proofs.Common.{rules, arith, ◌≡◌, ◌∙◌, false, get_or, sym, true}
use Rattle.std.proofs.lemmas.Option.{slice_get-get_or}
use Rattle.mu_model.specs.Knowledge.{has_entry}
use Rattle.mu_knowledge.proofs.Fetched.{front_ends, front_fits, front_more}
use Rattle.mu_knowledge.proofs.held_rows.HeldRows.front_from.Goals as goal

pub loop-count-preserved : goal.loop-count-preserved
loop-count-preserved c r mine good held low =
    let k = c.args.config.now in
    let values = c.args.known.now in
    let n = c.loop-count.count in
    let v = get_or values n 0 in
    let is : c.has_entry.result ≡ true = search rules in
    front_more (λ w. has_entry k r w mine) values n v (c.loop-count.invariant r mine good held low) (slice_get-get_or values n 0 (search rules)) (sym (c.has_entry.ensures r mine good held) ∙ is)

pub returns-else-has_entry : goal.returns-else-has_entry
returns-else-has_entry c r mine good held low =
    let k = c.args.config.now in
    let values = c.args.known.now in
    let n = c.loop-count.count in
    let v = get_or values n 0 in
    let is : c.has_entry.result ≡ false = search rules in
    front_ends (λ w. has_entry k r w mine) values n v (c.loop-count.invariant r mine good held low) (slice_get-get_or values n 0 (search rules)) (sym (c.has_entry.ensures r mine good held) ∙ is)

pub returns-after-loop-count : goal.returns-after-loop-count
returns-after-loop-count c r mine good held low =
    let fits = front_fits (λ w. has_entry c.args.config.now r w mine) c.args.known.now in
    omega (arith, fits, c.loop-count-test.false, c.loop-count.invariant r mine good held low)
