use Rattle.std.proofs.Common.{◌≡◌, true, false, rules}
use Rattle.std.specs.List.Sorted.{IsPartitionPoint}
use Rattle.std.proofs.lemmas.List.Sorted.{IsPartitionPoint-from_clause}
use Rattle.match_book.specs.Filling.{is_ahead}
use Rattle.match_book.specs.Places.{IsInOrder}
use Rattle.match_book.proofs.Arranging.{closed_ahead, cut_back, cut_front, partitioned}
use Rattle.match_book.proofs.matching.first_of.Goals as goal

-- the orders ahead of the symbol and side stand in front
point : (c : goal.After-partition_point) → IsInOrder c.args.resting.now → IsPartitionPoint (λ o. is_ahead c.args.symbol.now c.args.side o ≡ true) (λ o. is_ahead c.args.symbol.now c.args.side o ≡ false) c.args.resting.now c.partition_point.result
point c is =
    IsPartitionPoint-from_clause (is_ahead c.args.symbol.now c.args.side) c.args.resting.now c.partition_point.result c.partition_point.ensures.partitioned
    (partitioned (is_ahead c.args.symbol.now c.args.side) (closed_ahead c.args.symbol.now c.args.side) c.args.resting.now is) (λ a r q k. search rules)

pub returns-clause-front : goal.returns-clause-front
returns-clause-front c = λ is. cut_front (is_ahead c.args.symbol.now c.args.side) c.args.resting.now c.partition_point.result c.partition_point.ensures.bound (point c is)

pub returns-clause-back : goal.returns-clause-back
returns-clause-back c = λ is. cut_back (is_ahead c.args.symbol.now c.args.side) c.args.resting.now c.partition_point.result c.partition_point.ensures.bound (point c is)
