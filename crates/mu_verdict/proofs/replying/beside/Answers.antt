use Rattle.std.proofs.Common.{◌∙◌, arith, sym}
use Rattle.mu_verdict.proofs.AddedRows.{beside_end, beside_next, differs}
use Rattle.mu_verdict.proofs.replying.beside.Goals as goal

pub loop-index-preserved : goal.loop-index-preserved
loop-index-preserved c =
    beside_next c.args.row c.loop-index.index c.args.rows.now c.args.replies.now (omega (arith, c.min-count.ensures, c.loop-index-test.true)) (omega (arith, c.min-count.ensures, c.loop-index-test.true)) (differs _ c.args.row c.if-rows-index.false)
    ∙ c.loop-index.invariant

pub returns : goal.returns
returns c =
    sym (sym c.loop-index.invariant ∙ beside_end c.args.row c.loop-index.index c.args.rows.now c.args.replies.now (omega (arith, c.min-count.ensures, c.loop-index-test.false)))
