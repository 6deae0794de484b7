use Rattle.std.proofs.Common.{◌≡◌, ◌++◌, drop}
use Rattle.snap_reads.specs.Keys.{keys_of}
use Rattle.snap_reads.proofs.Keying.{lacking}
use Rattle.snap_reads.proofs.keys.keys_of.Given as goal

abbrev pub invariant-loop-command : goal.invariant-loop-command
invariant-loop-command l = l.keys.items ++ lacking l.keys.items (keys_of (drop l.command-index l.commands)) ≡ keys_of l.commands
