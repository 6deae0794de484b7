use Rattle.std.proofs.Common.{◌∙◌, ap, arith, get_or, subst, sym}
use Rattle.std.proofs.lemmas.Option.{slice_get-get_or}
use Rattle.mu_model.specs.Contents.{includes, rows_in, rows_of}
use Rattle.mu_node.specs.Telling.{TellsPlace}
use Rattle.mu_node.proofs.Answering.{take_whole}
use Rattle.mu_node.proofs.Telling.{lacked_next, row_here}
use Rattle.mu_node.proofs.replying.is_among.Goals as goal

pub returns-in-Some : goal.returns-in-Some
returns-in-Some c =
    let k = c.args.config.now in
    let entries = c.args.entries.now in
    let i = c.loop-i.i in
    let v = get_or entries i 0 in
    let there = slice_get-get_or entries i 0 c.loop-i-test.true in
    sym (row_here k entries c.args.row i v _ there (subst (λ o. TellsPlace c.args.row (rows_of k v) o) c.in-Some.is c.place_in_entry.ensures))

pub loop-i-preserved : goal.loop-i-preserved
loop-i-preserved c =
    let k = c.args.config.now in
    let entries = c.args.entries.now in
    let i = c.loop-i.i in
    let v = get_or entries i 0 in
    let there = slice_get-get_or entries i 0 c.loop-i-test.true in
    lacked_next k entries c.args.row i v there c.loop-i.invariant (subst (λ o. TellsPlace c.args.row (rows_of k v) o) c.in_default.is c.place_in_entry.ensures)

pub returns : goal.returns
returns c =
    let whole = take_whole c.loop-i.i c.args.entries.now (omega (arith, c.loop-i-test.false)) in
    sym (ap (λ l. includes c.args.row (rows_in c.args.config.now l)) (sym whole) ∙ c.loop-i.invariant)
