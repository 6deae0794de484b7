use Rattle.std.proofs.Common.{arith, [], codes, map}
use Rattle.mu_events.specs.Table.{passed}
use Rattle.mu_mistakes.specs.Expected.{names_words}
use Rattle.mu_mistakes.proofs.Left.{Passed, names_left}
use Rattle.mu_mistakes.proofs.expected.push_names.Goals as goal

abbrev none : Passed
none = (0, record { ref_ptr = (0, 0); now = [] }, record { ref_ptr = (0, 0); now = [] }, record { ref_ptr = (0, 0); now = [] })

pub push-requires : goal.push-requires
push-requires c =
    let few = names_left c.loop-row.before.now c.args.rows.now c.loop-row.row-index none c.loop-row.out c.args.out.now (names_words (codes ": ") (map passed c.args.rows.now)) c.loop-row-test.true c.loop-row.invariant in
    omega (arith, few, c.requires)

pub push-requires-in-loop-row : goal.push-requires-in-loop-row
push-requires-in-loop-row c =
    let few = names_left c.loop-row.before.now c.args.rows.now c.loop-row.row-index none c.loop-row.out c.args.out.now (names_words (codes ": ") (map passed c.args.rows.now)) c.loop-row-test.true c.loop-row.invariant in
    omega (arith, few, c.requires, c.push.ensures.len)
