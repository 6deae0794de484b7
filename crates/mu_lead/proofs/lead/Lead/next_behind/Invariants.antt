use Rattle.std.proofs.Common.{List, false, get_or, ℕ, ◌&&◌, ◌<◌, ◌≡◌, ◌≤◌}
use Rattle.std.specs.Prelude.{nat_lt}
use Rattle.mu_model.specs.declared.event.Event.{Event}
use Rattle.mu_model.specs.Knowledge.{known}
use Rattle.mu_model.specs.Leaderships.{is_member}
use Rattle.mu_lead.specs.Leading.{end_of}
use Rattle.mu_lead.specs.Standing.{Stands}
use Rattle.mu_lead.proofs.lead.Lead.next_behind.Given as goal

abbrev pub invariant-loop-q : goal.invariant-loop-q
invariant-loop-q l = (mine : List Event) → Stands mine l.self → l.known ≡ known l.self.config l.self.id mine → (k : ℕ) → l.from ≤ k → k < l.q → (is_member l.self.id k mine && nat_lt (get_or l.self.up k 0) (end_of l.self.config l.self.id mine)) ≡ false
