use Rattle.std.proofs.Common.{◌∷◌, [], ◌++◌, ◌∙◌, ap, arith, length, subst, sym}
use Rattle.mu_verdict.proofs.JobLines.{Splits, splits_on}
use Rattle.mu_text.specs.declared.TheConstants.{LINE_FEED}
use Rattle.mu_verdict.proofs.reading.job_bytes.Goals as goal

pub loop-line-preserved : goal.loop-line-preserved
loop-line-preserved c =
    let old = c.args.lines.now in
    let held = c.loop-line.invariant in
    let on = splits_on old c.loop-line.lines c.next.new.self c.loop-line.bytes.items c.in-Some.line.now (sym c.is_end.ensures ∙ c.if-is_end.false) c.in-Some.ensures.0 c.in-Some.ensures.1 held.0 in
    let bytes = c.in_ok-push.ensures.items ∙ ap (λ l. l ++ LINE_FEED ∷ []) c.in_ok-extend_from_slice.ensures.items in
    let long = ap length c.in-Some.ensures.0 in
    let few = held.1 in
    (subst (λ b. Splits old b c.next.new.self) (sym bytes) on, omega (arith, few, long, c.in-Some.ensures.1))
