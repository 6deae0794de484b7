use Rattle.std.proofs.Common.{◌≡◌, ◌++◌, codes, drop, map}
use Rattle.mu_events.specs.Table.{passed}
use Rattle.mu_mistakes.specs.Expected.{names_words}
use Rattle.mu_mistakes.proofs.expected.push_names.Given as goal

-- what is there, and the names that are left
abbrev pub invariant-loop-row : goal.invariant-loop-row
invariant-loop-row l = l.out ++ names_words l.before (map passed (drop l.row-index l.rows)) ≡ l.fn.out ++ names_words (codes ": ") (map passed l.rows)
