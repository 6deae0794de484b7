use Rattle.std.proofs.Common.{◌∙◌, sym}
use Rattle.mu_verdict.proofs.ItemLines.{at_end, never_some}
use Rattle.mu_verdict.proofs.reading.next_item.Goals as goal

pub returns-then-is_end-clause-gives : goal.returns-then-is_end-clause-gives
returns-then-is_end-clause-gives c = λ items.
    at_end c.args.replicas c.args.rows items c.args.lines.now c.next.new.self _ c.in-Some.text.now c.end_here.result c.in-Some.ensures.0 c.in-Some.ensures.1 (sym c.is_end.ensures ∙ c.if-is_end.true) (c.end_here.ensures.ends items)

pub returns-then-is_end-clause-within : goal.returns-then-is_end-clause-within
returns-then-is_end-clause-within c = never_some _ c.end_here.result c.end_here.ensures.none

pub returns-then-is_end-clause-number : goal.returns-then-is_end-clause-number
returns-then-is_end-clause-number c = never_some _ c.end_here.result c.end_here.ensures.none

pub returns-then-is_end-clause-few : goal.returns-then-is_end-clause-few
returns-then-is_end-clause-few c = never_some _ c.end_here.result c.end_here.ensures.none

pub returns-then-is_end-clause-fewer : goal.returns-then-is_end-clause-fewer
returns-then-is_end-clause-fewer c = never_some _ c.end_here.result c.end_here.ensures.none
