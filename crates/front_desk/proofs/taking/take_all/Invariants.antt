use Rattle.std.proofs.Common.{◌≡◌, ◌≤◌, length, vec_capacity}
use Rattle.crossbeam_queue.specs.Passes.{view, IsPassOf}
use Rattle.front_desk.specs.Line.{taking_hand}
use Rattle.front_desk.proofs.taking.take_all.Given as goal

abbrev pub invariant-loop : goal.invariant-loop
invariant-loop g l = record {
  pass : IsPassOf l.line l.pass;
  hand : view l.pass ≡ taking_hand l.taken.items;
  few : length l.taken.items ≤ l.count;
  room : l.count ≤ vec_capacity l.taken;
}
