-- The steps among the events before this one were counted.
use Rattle.std.proofs.Common.{◌≡◌, ◌≤◌, length, take}
use Rattle.mu_model.specs.Histories.{history, part}
use Rattle.mu_telling.proofs.straying.steps_of.Given as goal

abbrev pub invariant-loop-index : goal.invariant-loop-index
invariant-loop-index l = record {
  is : l.count ≡ length (part l.replica (history (take l.index l.events)));
  few : l.count ≤ l.index;
}
