use Rattle.std.proofs.Common.{◌<◌, ◌≡◌, ap, length, take, arith}
use Rattle.std.specs.List.{flat_map}
use Rattle.mu_strings.specs.Spellings.{byte_spelled}
use Rattle.mu_strings.proofs.Fronts.{front-shorter, spelled-some}
use Rattle.mu_strings.proofs.spelling.spelling_of.Goals as goal

pub returns-then-not-push_byte_of : goal.returns-then-not-push_byte_of
returns-then-not-push_byte_of c =
    let string = c.args.string.now in
    let k = c.loop-k.k in
    let front : length c.loop-k.spelling ≡ length (flat_map byte_spelled (take k string)) = ap length c.loop-k.invariant in
    let some : 0 < length string = omega (arith, c.loop-k-test.true) in
    omega (arith, c.if-not-push_byte_of.ensures, front, front-shorter string k c.loop-k-test.true, ap length (spelled-some string some))
