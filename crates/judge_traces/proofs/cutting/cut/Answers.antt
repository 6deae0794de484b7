use Rattle.std.proofs.Common.{◌≡◌, ◌+◌, true, false, Some, sym, ap, ◌∙◌, take, drop}
use Rattle.judge_traces.specs.Traces.{is_between}
use Rattle.mu_text.proofs.Cutting.{all_after}
use Rattle.judge_traces.proofs.Cuts.{cut_found, cut_later}
use Rattle.judge_traces.proofs.cutting.cut.Goals as goal

pub returns-then-is_between-clause-parts : goal.returns-then-is_between-clause-parts
returns-then-is_between-clause-parts c =
    let bytes = c.args.bytes.now in
    let place = c.loop-place.place in
    let here : is_between (drop place bytes) ≡ true = ap is_between (sym (all_after bytes place)) ∙ sym c.is_between.ensures.exact ∙ c.if-is_between.true in
    sym c.loop-place.invariant ∙ cut_found bytes place c.loop-place-test.true here ∙ ap (λ rest. Some (take place bytes, rest)) (sym (all_after bytes (place + 5)))

pub loop-place-preserved : goal.loop-place-preserved
loop-place-preserved c =
    let bytes = c.args.bytes.now in
    let place = c.loop-place.place in
    let elsewhere : is_between (drop place bytes) ≡ false = ap is_between (sym (all_after bytes place)) ∙ sym c.is_between.ensures.exact ∙ c.if-is_between.false in
    sym (cut_later bytes place c.loop-place-test.true elsewhere) ∙ c.loop-place.invariant
