use Rattle.std.proofs.Common.{rules, ap, arith}
use Rattle.snap_reads.specs.Seats.{Shelf}
use Rattle.snap_reads.proofs.Keeps.{stores}
use Rattle.snap_reads.proofs.board.Board.store.Goals as goal

pub store-requires : goal.store-requires
store-requires c =
    let capacity = ap (λ (s : Shelf). s.capacity) c.self.view_is in (
      search rules,
      omega (arith, c.self.invariant.words, c.requires.inside, capacity),
      stores _ _ _ _ _ _ c.requires.writes c.requires.next (omega (arith, c.requires.inside, capacity)),
    )
