use Rattle.std.proofs.Common.{◌≡◌, take}
use Rattle.mu_model.specs.Chosen.{is_accepted_at}
use Rattle.mu_model.specs.Histories.{has, history}
use Rattle.mu_law.proofs.choosing.has_taken.Given as goal

abbrev pub invariant-loop-e : goal.invariant-loop-e
invariant-loop-e l = l.taken ≡ has (λ e. is_accepted_at l.p l.i l.b l.v e.verb e.answer) (history (take l.e-index l.events))
