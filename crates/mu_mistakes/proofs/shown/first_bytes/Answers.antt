use Rattle.std.proofs.Common.{◌≤◌, arith, length, sym}
use Rattle.std.proofs.lemmas.List.{length-take-le, take_all}
use Rattle.mu_mistakes.proofs.shown.first_bytes.Goals as goal

pub slice_bounds-result-end : goal.slice_bounds-result-end
slice_bounds-result-end c =
    let long : 64 ≤ length c.args.text.now = omega (arith, c.if-text-gt-SHOWN_BYTES.true) in
    sym (length-take-le 64 c.args.text.now long)

pub returns-then-text-gt-SHOWN_BYTES-clause-room : goal.returns-then-text-gt-SHOWN_BYTES-clause-room
returns-then-text-gt-SHOWN_BYTES-clause-room c =
    let long : 64 ≤ length c.args.text.now = omega (arith, c.if-text-gt-SHOWN_BYTES.true) in
    let same = length-take-le 64 c.args.text.now long in
    omega (arith, same)

pub returns-else-text-gt-SHOWN_BYTES-clause-first : goal.returns-else-text-gt-SHOWN_BYTES-clause-first
returns-else-text-gt-SHOWN_BYTES-clause-first c =
    let short : length c.args.text.now ≤ 64 = omega (arith, c.if-text-gt-SHOWN_BYTES.false) in
    sym (take_all 64 c.args.text.now short)
