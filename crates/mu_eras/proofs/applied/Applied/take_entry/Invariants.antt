use Rattle.std.proofs.Common.{ℕ, ◌%◌, ◌+◌, ◌<◌, take}
use Rattle.mu_follow.specs.Groups.{group_of}
use Rattle.mu_eras.specs.Applied.{Applies, IsKept}
use Rattle.mu_eras.proofs.applied.Applied.take_entry.Given as goal

abbrev pub invariant-loop-t : goal.invariant-loop-t
invariant-loop-t l = record {
  applies : Applies l.commands (take l.t (group_of l.config l.commands l.v)) l.initial.self l.self l.initial.replies l.replies;
  fresh : (t : ℕ) → t < l.t → IsKept l.replies (l.v % 4096 + t);
}
