use Rattle.std.proofs.Common.{◌+◌, ◌≡◌, arith, get_or, subst, sym}
use Rattle.std.proofs.lemmas.Option.{slice_get-get_or}
use Rattle.mu_model.specs.Contents.{rows_in, rows_of}
use Rattle.mu_node.specs.Telling.{IsFirstAt, TellsPlace}
use Rattle.mu_node.proofs.Telling.{none_passed, passed_all, passed_few, passed_here, passed_low, passed_next}
use Rattle.mu_node.proofs.replying.place_in.Goals as goal

pub loop-i-init : goal.loop-i-init
loop-i-init c few = none_passed c.args.config.now c.args.entries.now c.args.row

pub returns-in-Some : goal.returns-in-Some
returns-in-Some c few =
    let k = c.args.config.now in
    let entries = c.args.entries.now in
    let i = c.loop-i.i in
    let v = get_or entries i 0 in
    let there = slice_get-get_or entries i 0 c.loop-i-test.true in
    let passed = c.loop-i.invariant few in
    let first = subst (λ o. TellsPlace c.args.row (rows_of k v) o) c.in-Some.is c.place_in_entry.ensures in
    let here = passed_here k entries c.args.row i v c.loop-i.before c.in-Some.at there passed first in
    let low = passed_low k entries c.args.row i v c.loop-i.before c.in-Some.at there passed first in
    let is : c.saturating_add.result ≡ c.loop-i.before + c.in-Some.at = omega (arith, c.saturating_add.ensures, low, few) in
    subst (λ n. IsFirstAt c.args.row (rows_in k entries) n) (sym is) here

pub loop-i-preserved : goal.loop-i-preserved
loop-i-preserved c few =
    let k = c.args.config.now in
    let entries = c.args.entries.now in
    let i = c.loop-i.i in
    let v = get_or entries i 0 in
    let there = slice_get-get_or entries i 0 c.loop-i-test.true in
    let passed = c.loop-i.invariant few in
    let lacks = subst (λ o. TellsPlace c.args.row (rows_of k v) o) c.in_default.is c.place_in_entry.ensures in
    let fits = passed_few k entries c.args.row i v c.loop-i.before there passed in
    passed_next k entries c.args.row i v c.loop-i.before _ there passed lacks (omega (arith, c.saturating_add-before.ensures, c.from.ensures, c.group_size.ensures, fits, few))

pub returns : goal.returns
returns c few = passed_all c.args.config.now c.args.entries.now c.args.row c.loop-i.i c.loop-i.before (omega (arith, c.loop-i-test.false)) (c.loop-i.invariant few)
