use Rattle.std.proofs.Common.{slice_set, sym, subst, ℕ, ◌+◌, arith}
use Rattle.shared_steps.specs.Opening.{AreWrittenBelow}
use Rattle.shared_steps.proofs.Opening.{fence_written}
use Rattle.shared_steps.proofs.words.first_words.Goals as goal

pub loop-p-preserved : goal.loop-p-preserved
loop-p-preserved c =
    let l = c.args.layout.now in
    let loop = c.loop-p in
    subst (λ (i : ℕ). AreWrittenBelow l (loop.p + 1) (slice_set loop.words.items i c.pack.result)) (sym c.fence_of.ensures)
    (fence_written l loop.p c.pack.result loop.words.items (omega (arith, c.loop-p-test.true, c.requires)) c.pack.ensures loop.invariant)
