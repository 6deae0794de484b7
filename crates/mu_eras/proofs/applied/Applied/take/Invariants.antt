use Rattle.std.proofs.Common.{take}
use Rattle.mu_follow.specs.Groups.{groups_of}
use Rattle.mu_model.specs.Contents.{rows_in}
use Rattle.mu_eras.specs.Applied.{Applies, AreKept}
use Rattle.mu_eras.proofs.applied.Applied.take.Given as goal

abbrev pub invariant-loop-i : goal.invariant-loop-i
invariant-loop-i l = record {
  applies : Applies l.commands (groups_of l.config l.commands (take l.i l.rest)) l.initial.self l.self l.initial.replies l.replies;
  fresh : AreKept (rows_in l.config (take l.i l.rest)) l.replies;
}
