use Rattle.std.proofs.Common.{◌≡◌, ◌+◌, ◌^◌, ◌≤◌, true, take}
use Rattle.std.specs.List.{list_all}
use Rattle.mu_text.specs.Numbers.{is_digit, value_of}
use Rattle.mu_text.proofs.numbers.decimal.Given as goal

abbrev pub invariant-loop-byte : goal.invariant-loop-byte
invariant-loop-byte l = record {
  value : l.value ≡ value_of (take l.byte-index l.word);
  small : l.value + 1 ≤ 10 ^ l.byte-index;
  digits : list_all is_digit (take l.byte-index l.word) ≡ true;
}
