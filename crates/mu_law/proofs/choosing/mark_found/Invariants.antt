use Rattle.std.proofs.Common.{◌≡◌, take}
use Rattle.mu_model.specs.Histories.{history, newest}
use Rattle.mu_law.specs.Choosing.{choice_of_mark}
use Rattle.mu_law.proofs.choosing.mark_found.Given as goal

abbrev pub invariant-loop-e : goal.invariant-loop-e
invariant-loop-e l = l.found ≡ newest (λ e. choice_of_mark l.config (history l.events) l.q e.verb e.answer) (history (take l.e-index l.events))
