use Rattle.std.proofs.Common.{◌≡◌, ◌++◌, ◌+◌, ◌≤◌, length}
use Rattle.mu_strings.specs.Spellings.{string_of}
use Rattle.mu_strings.proofs.reading.string_of.Given as goal

abbrev pub invariant-loop-rest : goal.invariant-loop-rest
invariant-loop-rest l = record {
  string : l.string ++ string_of l.rest ≡ string_of l.text;
  room : length l.string + length l.rest ≤ 64;
}

abbrev pub decreases-loop-rest : goal.decreases-loop-rest
decreases-loop-rest l = length l.rest
