-- The commands of the entries before this one were applied, and there is room for the others.
use Rattle.std.proofs.Common.{◌≤◌, length, take, drop}
use Rattle.match_book.specs.Stands.{StandsFor}
use Rattle.mu_outcome.specs.Entries.{commands_in}
use Rattle.mu_top.proofs.booking.apply_log.Given as goal

abbrev pub invariant-loop-value : goal.invariant-loop-value
invariant-loop-value l = record {
  stands : StandsFor (commands_in l.job (take l.value-index l.log)) l.book;
  room : length (commands_in l.job (drop l.value-index l.log)) ≤ l.book.room;
}
