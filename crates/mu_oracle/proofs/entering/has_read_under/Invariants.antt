use Rattle.std.proofs.Common.{◌≡◌, take}
use Rattle.mu_model.specs.Entering.{grant_seen, min_read_under}
use Rattle.mu_model.specs.Histories.{has, history}
use Rattle.mu_oracle.proofs.entering.has_read_under.Given as goal

abbrev pub invariant-loop-e : goal.invariant-loop-e
invariant-loop-e l = record { seen_is : l.seen ≡ has (λ e. grant_seen l.r l.p l.g e.by e.verb e.answer) (history (take l.e-index l.part)); read_is : l.read ≡ min_read_under l.r l.p l.g (history (take l.e-index l.part)) }
