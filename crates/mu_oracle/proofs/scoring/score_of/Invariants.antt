use Rattle.std.proofs.Common.{◌≡◌, take}
use Rattle.mu_model.specs.Histories.{history, newest, or_zero}
use Rattle.mu_model.specs.Scores.{beat_read, score}
use Rattle.mu_oracle.proofs.scoring.score_of.Given as goal

abbrev pub invariant-loop-e : goal.invariant-loop-e
invariant-loop-e l = record { last_is : l.last ≡ or_zero (newest (λ e. beat_read l.r l.q e.by e.verb e.answer) (history (take l.e-index l.part))); state_is : l.state ≡ score l.r l.q (history (take l.e-index l.part)) }
