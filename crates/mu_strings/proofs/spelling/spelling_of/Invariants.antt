use Rattle.std.proofs.Common.{◌≡◌, take}
use Rattle.std.specs.List.{flat_map}
use Rattle.mu_strings.specs.Spellings.{byte_spelled}
use Rattle.mu_strings.proofs.spelling.spelling_of.Given as goal

abbrev pub invariant-loop-k : goal.invariant-loop-k
invariant-loop-k l = l.spelling ≡ flat_map byte_spelled (take l.k l.string)
