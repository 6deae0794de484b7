use Rattle.std.proofs.Common.{◌≡◌, take}
use Rattle.snap_reads.proofs.watching.publish_all.Given as goal

abbrev pub invariant-loop-command : goal.invariant-loop-command
invariant-loop-command g l = record {
  writer : l.writer ≡ record l.fn.writer { published = take l.command-index l.commands; list = take l.command-index l.commands };
  count : l.count ≡ l.command-index;
}
