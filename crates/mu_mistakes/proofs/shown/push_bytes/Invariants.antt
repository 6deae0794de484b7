-- The bytes before this one were added.
use Rattle.std.proofs.Common.{◌≡◌, ◌≤◌, ◌+◌, ◌++◌, length, map, take}
use Rattle.mu_mistakes.specs.Shown.{shown_byte}
use Rattle.mu_mistakes.proofs.shown.push_bytes.Given as goal

abbrev pub invariant-loop-byte : goal.invariant-loop-byte
invariant-loop-byte l = record {
  bytes : l.line ≡ l.initial.line ++ map shown_byte (take l.byte-index l.text);
  bound : length l.line ≤ length l.initial.line + l.byte-index;
}
