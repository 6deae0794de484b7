use Rattle.std.proofs.Common.{◌-◌, ◌≤◌, take}
use Rattle.mu_model.specs.Contents.{IsConfig}
use Rattle.mu_follow.specs.Completion.{HoldsCompletion}
use Rattle.mu_follow.proofs.completion.Completion.count_to.Given as goal

abbrev pub invariant-loop-self : goal.invariant-loop-self
invariant-loop-self l = record {
  within : l.fn.self.counted ≤ l.applied → l.self.counted ≤ l.applied;
  holds : IsConfig l.config → HoldsCompletion l.config (take l.fn.self.counted l.values) l.fn.self → HoldsCompletion l.config (take l.self.counted l.values) l.self;
}

abbrev pub decreases-loop-self : goal.decreases-loop-self
decreases-loop-self l = l.applied - l.self.counted
