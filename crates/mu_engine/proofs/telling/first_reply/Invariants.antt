use Rattle.std.proofs.Common.{◌≡◌, ◌<◌, ℕ, List, None}
use Rattle.mu_input.specs.declared.job.Job.{Job}
use Rattle.mu_model.specs.declared.event.Event.{Event}
use Rattle.mu_engine.specs.Moments.{IsMoment}
use Rattle.mu_engine.specs.Seats.{AreSeated}
use Rattle.mu_engine.specs.Telling.{reply_told}
use Rattle.mu_engine.proofs.telling.first_reply.Given as goal

abbrev pub invariant-loop-seat : goal.invariant-loop-seat
invariant-loop-seat l = (job : Job) (events : List Event) → IsMoment job events → AreSeated job.config events l.seats → (r : ℕ) → r < l.seat-index → reply_told job events r l.row ≡ None
