use Rattle.snap_reads.proofs.writer.SnapWriter.publish.Given as goal

abbrev pub ghosts-raise : goal.ghosts-raise
ghosts-raise a = record { commands = a.pending.now }
