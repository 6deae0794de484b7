-- The replies of this kind so far, at most one for each reply before this one, and those that are left, are those of the whole list.
use Rattle.std.proofs.Common.{◌≡◌, ◌+◌, ◌≤◌, drop}
use Rattle.mu_report.specs.Summary.{count_of}
use Rattle.mu_report.proofs.summary.count_of.Given as goal

abbrev pub invariant-loop-reply : goal.invariant-loop-reply
invariant-loop-reply l = (l.count ≤ l.reply-index) × (l.count + count_of l.kind (drop l.reply-index l.replies) ≡ count_of l.kind l.replies)
