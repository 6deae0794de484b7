use Rattle.std.proofs.Common.{◌≡◌, take}
use Rattle.mu_model.specs.Histories.{has, history, since}
use Rattle.mu_model.specs.Picks.{look_answer}
use Rattle.mu_model.specs.Placing.{is_good_look, is_slot_put_at, looked_before_entering, since_joining}
use Rattle.mu_oracle.proofs.placing.has_looked_before.Given as goal

abbrev pub invariant-loop-k : goal.invariant-loop-k
invariant-loop-k l = record { looked_is : l.looked ≡ has (λ e. is_good_look (look_answer l.r l.p l.i e.by e.verb e.answer)) (since (λ e. is_slot_put_at l.r l.p l.config.ring l.i e.by e.verb) (since_joining l.r l.p (history (take l.k l.part)))); at_is : l.at_enter ≡ looked_before_entering l.config l.r l.p l.i (history (take l.k l.part)) }
