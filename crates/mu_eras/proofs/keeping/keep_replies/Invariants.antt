use Rattle.std.proofs.Common.{◌≡◌, take}
use Rattle.std.specs.Prelude.{vec_capacity}
use Rattle.mu_eras.proofs.keeping.keep_replies.Given as goal

abbrev pub invariant-loop-row : goal.invariant-loop-row
invariant-loop-row l = record {
  kept : l.kept.items ≡ take l.row l.replies;
  space : vec_capacity l.kept ≡ vec_capacity l.fn.kept;
}
