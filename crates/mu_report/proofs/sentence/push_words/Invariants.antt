-- The words from this one on and the values that are left make the rest.
use Rattle.std.proofs.Common.{◌+◌, ◌++◌, ◌≡◌, ◌≤◌, drop, length, map}
use Rattle.mu_model.specs.Sentences.{rooms_of}
use Rattle.mu_report.specs.Sentences.{sentence, value_words}
use Rattle.mu_report.proofs.sentence.push_words.Given as goal

abbrev pub invariant-loop-byte : goal.invariant-loop-byte
invariant-loop-byte l = record {
  bytes : l.line ++ sentence (drop l.byte-index l.words) (map value_words l.left)
      ≡ l.initial.line ++ sentence l.words (map value_words l.values);
  room : length l.line + rooms_of l.left ≤ length l.initial.line + rooms_of l.values + l.byte-index;
}
