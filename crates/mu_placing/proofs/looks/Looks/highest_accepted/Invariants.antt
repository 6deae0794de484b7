use Rattle.std.proofs.Common.{List, ℕ, ◌≡◌, ◌≤◌, ◌+◌}
use Rattle.mu_model.specs.declared.config.Config.{Config}
use Rattle.mu_model.specs.declared.event.Event.{Event}
use Rattle.mu_model.specs.Contents.{row_count}
use Rattle.mu_model.specs.Picks.{highest_accepted}
use Rattle.mu_model.specs.Room.{reserve}
use Rattle.mu_leadership.specs.Leadership.{StandsForLeadership}
use Rattle.mu_placing.specs.Looks.{StandsForLooks}
use Rattle.mu_placing.proofs.looks.Looks.highest_accepted.Given as goal

abbrev pub invariant-loop-p : goal.invariant-loop-p
invariant-loop-p l = (c : Config) (r : ℕ) (mine : List Event) → l.n ≤ 7 → l.i ≤ row_count c + reserve c → StandsForLeadership r mine l.leading → StandsForLooks c r mine l.self → l.best ≡ highest_accepted r l.i mine l.p
