use Rattle.std.proofs.Common.{◌≡◌, ◌++◌, drop}
use Rattle.kv_store.specs.declared.command.TheConstants.{OP_KINDS}
use Rattle.mu_mistakes.specs.Expected.{kinds_words}
use Rattle.mu_mistakes.proofs.expected.push_kinds.Given as goal

-- what is there, and how the other kinds read
abbrev pub invariant-loop-kind : goal.invariant-loop-kind
invariant-loop-kind l = l.out ++ kinds_words (drop l.kind-index OP_KINDS) ≡ l.fn.out ++ kinds_words OP_KINDS
