use Rattle.std.proofs.Common.{List, subst, sym}
use Rattle.kv_store.specs.Commands.{Request}
use Rattle.snap_reads.specs.Published.{AreCommands}
use Rattle.snap_reads.proofs.Rows.{are_drop, are_take}
use Rattle.snap_reads.proofs.writer.SnapWriter.publish.Goals as goal

pub raise-requires-clause-commands : goal.raise-requires-clause-commands
raise-requires-clause-commands c = are_take _ _ (are_drop _ _ (subst (λ (l : List Request). AreCommands l) (sym c.as_slice.ensures.value) c.self.invariant.commands))
