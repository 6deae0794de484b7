use Rattle.std.proofs.Common.{◌≡◌, ◌+◌, ◌-◌, ◌≤◌, ◌++◌, drop, take, vec_capacity, vec_len}
use Rattle.match_book.specs.Filling.{filled}
use Rattle.match_book.proofs.matching.fill.Given as goal

-- filling what is left from here on comes to what filling the order from the start comes to
abbrev pub invariant-loop-left : goal.invariant-loop-left
invariant-loop-left l = record {
  trades : l.trades.items ++ (filled l.index l.order l.left (drop l.at l.resting.items)).trades ≡ l.fn.trades.items ++ (filled l.index l.order l.order.left (drop l.start l.fn.resting.items)).trades;
  left : (filled l.index l.order l.left (drop l.at l.resting.items)).left ≡ (filled l.index l.order l.order.left (drop l.start l.fn.resting.items)).left;
  queue : (filled l.index l.order l.left (drop l.at l.resting.items)).queue ≡ (filled l.index l.order l.order.left (drop l.start l.fn.resting.items)).queue;
  front : take l.start l.resting.items ≡ take l.start l.fn.resting.items;
  len : vec_len l.resting ≡ vec_len l.fn.resting;
  from : l.start ≤ l.at;
  upto : l.at ≤ vec_len l.resting;
  few : vec_len l.trades + l.start ≤ vec_len l.fn.trades + l.at + (1 - l.left);
  capacity : vec_capacity l.resting ≡ vec_capacity l.fn.resting;
  trades_capacity : vec_capacity l.trades ≡ vec_capacity l.fn.trades;
}

-- a step trades something, or goes on to the next order
abbrev pub decreases-loop-left : goal.decreases-loop-left
decreases-loop-left l = l.left + (vec_len l.resting - l.at)
