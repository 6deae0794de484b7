use Rattle.std.proofs.Common.{◌≡◌, take}
use Rattle.mu_model.specs.Histories.{history, newest}
use Rattle.mu_law.specs.Choosing.{choice_at}
use Rattle.mu_law.proofs.choosing.choice_found.Given as goal

abbrev pub invariant-loop-e : goal.invariant-loop-e
invariant-loop-e l = l.found ≡ newest (λ e. choice_at l.config (history l.events) l.i e.verb e.answer) (history (take l.e-index l.events))
