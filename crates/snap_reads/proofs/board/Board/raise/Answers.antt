use Rattle.std.proofs.Common.{rules, ap, arith, subst, ◌∙◌, length, List}
use Rattle.kv_store.specs.Commands.{Request}
use Rattle.snap_reads.specs.Published.{AreCommands, rows_of}
use Rattle.snap_reads.specs.Seats.{Shelf}
use Rattle.snap_reads.proofs.Keeps.{raises}
use Rattle.snap_reads.proofs.board.Board.raise.Goals as goal

pub fetch_max-requires : goal.fetch_max-requires
fetch_max-requires g c =
    let capacity = ap (λ (s : Shelf). s.capacity) c.self.view_is in (
      search rules,
      omega (arith, c.self.invariant.words),
      raises _ _ _ _ _ _ c.requires.writes (c.requires.rows ∙ ap rows_of c.requires.named)
          (subst (λ (l : List Request). AreCommands l) c.requires.named c.requires.commands)
          (omega (arith, c.requires.count, ap length c.requires.named))
          (omega (arith, c.requires.room, capacity)),
    )
