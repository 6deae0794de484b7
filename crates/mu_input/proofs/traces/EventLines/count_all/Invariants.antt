use Rattle.std.proofs.Common.{ℕ, List, length}
use Rattle.mu_input.specs.Traces.{HasRead}
use Rattle.mu_input.specs.declared.job.Job.{Job}
use Rattle.mu_model.specs.declared.event.Event.{Event}
use Rattle.mu_input.proofs.Taking.{HasReadMore}
use Rattle.mu_input.proofs.traces.EventLines.count_all.Given as goal

abbrev pub invariant-loop : goal.invariant-loop
invariant-loop l = (bytes : List ℕ) (job : Job) (past : List Event) → HasRead bytes job past l.fn.self → HasReadMore bytes job past l.self

abbrev pub decreases-loop : goal.decreases-loop
decreases-loop l = length l.self.left.lines
