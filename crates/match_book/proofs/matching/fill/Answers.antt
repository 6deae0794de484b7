use Rattle.std.proofs.Common.{◌≡◌, ◌+◌, ◌-◌, ◌++◌, drop, sym, ap, ◌∙◌, arith, append-nil}
use Rattle.match_book.specs.Filling.{filled}
use Rattle.match_book.proofs.Filling.{done_end, done_stop, done_zero, unfilled}
use Rattle.match_book.proofs.matching.fill.Goals as goal
use Rattle.match_book.proofs.matching.fill.Goals.{then-loop-left-test+then-at-len+else-crosses, then-loop-left-test+else-at-len, else-loop-left-test}

-- at the end nothing more is traded
done : (c : goal.Left-loop-left) → filled c.args.index c.args.order.now c.loop-left.left (drop c.loop-left.at c.loop-left.resting.items) ≡ unfilled c.loop-left.left (drop c.loop-left.at c.loop-left.resting.items)
done c =
    elim c.loop-left-test.branch [
      | then-loop-left-test+then-at-len+else-crosses w ↦ done_stop c.args.index c.args.order.now w.index.result.now c.loop-left.left c.loop-left.at c.loop-left.resting.items (omega arith) w.index.ensures (sym w.crosses.ensures ∙ w.if-crosses.false)
      | then-loop-left-test+else-at-len w ↦ done_end c.args.index c.args.order.now c.loop-left.left c.loop-left.at c.loop-left.resting.items (omega arith)
      | else-loop-left-test w ↦ done_zero c.args.index c.args.order.now c.loop-left.left (drop c.loop-left.at c.loop-left.resting.items) (omega arith)
    ]

pub returns-clause-trades : goal.returns-clause-trades
returns-clause-trades c = sym (append-nil c.loop-left.trades.items) ∙ ap (λ f. c.loop-left.trades.items ++ f.trades) (sym (done c)) ∙ c.loop-left.invariant.trades

pub returns-clause-left : goal.returns-clause-left
returns-clause-left c = ap (λ f. f.left) (sym (done c)) ∙ c.loop-left.invariant.left

pub returns-clause-queue : goal.returns-clause-queue
returns-clause-queue c =
    let at : c.args.start + (c.loop-left.at - c.args.start) ≡ c.loop-left.at = omega arith in
    ap (λ n. drop n c.loop-left.resting.items) at ∙ ap (λ f. f.queue) (sym (done c)) ∙ c.loop-left.invariant.queue
